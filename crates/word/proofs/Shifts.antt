-- The bytes of a number that is cut, shifted or joined with another, one by one: `digit 256 x k` counts 256^k.
use Prim.Native.Nat.{ℕ, suc, ◌+◌, ◌-◌, ◌*◌, ◌/◌, ◌%◌, ◌^◌, ◌≤◌, ◌<◌}
use native.Mathlib.Nat.{div-eq_of_lt, lt_of_lt_of_le, mod-eq_of_lt, div-lt_iff_lt-mul, pow-suc, div-one}
use native.Mathlib.Omega.{arith}
use mathlib.Core.Path.{◌≡◌, refl, sym, ap, ◌∙◌}
use mathlib.Core.Bool.{Bool, true, false, cond}
use mathlib.Core.List.{List}
use borrow.Author.Tests.{ltb-true, ltb-false}
use lib.Dec.{ltb}
use lib.ListN.{get_or}
use lib.Pow.{shr-shr, high, low, ones_split}
use Rattle.word.specs.Sum.{digit}
use Rattle.word.specs.Word.{significance, value_of, bytes_of}
use Rattle.word.proofs.Powers.{pow_bits, size_pos, size_mono, size_less}
use Rattle.word.proofs.Laws.{bytes-length, bytes_at_lem, bytes_bytes, read_written, written_read}

-- n bytes tell a number but for a multiple of 256^n
pub bytes_mod : (big : Bool) (n x : ℕ) → bytes_of big n x ≡ bytes_of big n (x % 256 ^ n)
bytes_mod big n x =
    let w = written_read big (bytes_of big n x) (bytes_bytes big n x) in
    sym w ∙ ap (λ (k : ℕ). bytes_of big k (value_of big (bytes_of big n x))) (bytes-length big n x) ∙ ap (bytes_of big n) (read_written big n x)

-- a number that fits in s bytes has no more
pub digit_past : (s x j : ℕ) → x < 256 ^ s → s ≤ j → digit 256 x j ≡ 0
unfolding digit
digit_past s x j h l = ap (λ (y : ℕ). y % 256) (div-eq_of_lt (lt_of_lt_of_le h (size_mono s j l)))

-- without its k low bytes
pub digit-div : (x k i : ℕ) → digit 256 (x / 256 ^ k) i ≡ digit 256 x (k + i)
unfolding digit
digit-div x k i =
    let e : 8 * k + 8 * i ≡ 8 * (k + i) = omega arith in
    ap (λ (y : ℕ). y % 256) (rw (pow_bits k, pow_bits i, pow_bits (k + i)) (shr-shr x (8 * k) (8 * i) ∙ ap (λ (j : ℕ). x / 2 ^ j) e))

-- cut to n bytes
pub digit-mod : (x n i : ℕ) → i < n → digit 256 (x % 256 ^ n) i ≡ digit 256 x i
unfolding significance
digit-mod x n i h =
    sym (bytes_at_lem false n (x % 256 ^ n) i h) ∙ ap (λ (l : List ℕ). get_or l i 0) (sym (bytes_mod false n x)) ∙ bytes_at_lem false n x i h

-- a above the t bytes of b
module _ (t a b : ℕ) (hb : b < 256 ^ t) where
  low_part_lem : (a * 256 ^ t + b) % 256 ^ t ≡ b
  low_part_lem = let l : b < 2 ^ (8 * t) = rw (pow_bits t) at hb in rw (pow_bits t) (low a (8 * t) l)

  high_part : (a * 256 ^ t + b) / 256 ^ t ≡ a
  high_part = let l : b < 2 ^ (8 * t) = rw (pow_bits t) at hb in rw (pow_bits t) (high a (8 * t) l)

  digit_high : (j : ℕ) → digit 256 (a * 256 ^ t + b) (t + j) ≡ digit 256 a j
  digit_high j = sym (digit-div (a * 256 ^ t + b) t j) ∙ ap (λ (x : ℕ). digit 256 x j) high_part

  pub digit_joined : (k : ℕ) → digit 256 (a * 256 ^ t + b) k ≡ cond (ltb k t) (digit 256 b k) (digit 256 a (k - t))
  digit_joined k = by (ltb k t) refl
    where
      by : (c : Bool) → ltb k t ≡ c → digit 256 (a * 256 ^ t + b) k ≡ cond c (digit 256 b k) (digit 256 a (k - t))
      by true e = sym (digit-mod (a * 256 ^ t + b) t k (ltb-true k t e)) ∙ ap (λ (x : ℕ). digit 256 x k) low_part_lem
      by false e =
          let l : k ≡ t + (k - t) = omega (arith, ltb-false k t e) in
          ap (digit 256 (a * 256 ^ t + b)) l ∙ digit_high (k - t)

-- the top byte of s
pub digit_top : (s x : ℕ) → 1 ≤ s → x < 256 ^ s → digit 256 x (s - 1) ≡ x / 256 ^ (s - 1)
unfolding digit
digit_top s x some h = mod-eq_of_lt ((div-lt_iff_lt-mul (size_pos (s - 1))).1 (omega (arith, h, size_less s some)))

-- all bits of t bytes
pub digit_ones : (t j : ℕ) → j < t → digit 256 (256 ^ t - 1) j ≡ 255
unfolding digit
digit_ones t j h =
    let e : suc (t - 1 - j) + j ≡ t = omega arith in
    ap (λ (n : ℕ). digit 256 (256 ^ n - 1) j) (sym e) ∙ above (t - 1 - j)
  where
    split : (u : ℕ) → 256 ^ (suc u + j) - 1 ≡ (256 ^ suc u - 1) * 256 ^ j + (256 ^ j - 1)
    split u =
        let e : 8 * (suc u + j) ≡ 8 * suc u + 8 * j = omega arith in
        rw (pow_bits (suc u + j), pow_bits (suc u), pow_bits j, e) (ones_split (8 * suc u) (8 * j))

    last : (u : ℕ) → digit 256 (256 ^ suc u - 1) 0 ≡ 255
    last u = rw (pow-suc 256 u, div-one) (omega (arith, size_pos u))

    above : (u : ℕ) → digit 256 (256 ^ (suc u + j) - 1) j ≡ 255
    above u =
        ap (λ (x : ℕ). digit 256 x j) (split u) ∙ ap (digit 256 ((256 ^ suc u - 1) * 256 ^ j + (256 ^ j - 1))) (omega arith)
        ∙ digit_high j (256 ^ suc u - 1) (256 ^ j - 1) (omega (arith, size_pos j)) 0 ∙ last u
