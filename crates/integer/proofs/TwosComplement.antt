-- Two's complement values over the size, and the language's signed operations on them. `to_z w64` reads the bits of an i64 and
-- `of_z w64` writes them; `SFits w64 z` says that an i64 holds z.
use Rattle.std.proofs.Common.{ltb, ltb-false, Bool, add-zero, ◌+◌, mod-eq_of_lt, ◌≡◌, ℕ, suc, ◌-◌, ◌*◌, ◌%◌, ◌^◌, ◌<◌, ◌≤◌, true, false, ℤ, pos, negsuc, sym, refl, ap, ◌∙◌, subst, lt_of_le_of_lt, mod-lt, arith, w64, SFits, to_z, of_z, ltb-true, le-ltb, lt-ltb}
use lib.Signed.{mag, lt_z, shr_z, mag_shr}
use mir.ValLaws.{to_z_pos, to_z-of_z}
use Rattle.integer.specs.Integers.{signed, wrap, negative}
use Rattle.word.proofs.Powers.{size_pos, word_of, flipped_low}
use native.Mathlib.Nat.{mul-lt-mul_of_pos_right, mul-le-mul_right}
use lib.Pow.{pow_pos, high}
use Rattle.integer.proofs.Whole.{sub_neg}

-- ---- integers
below_zero : (z : ℤ) → lt_z z (pos 0) ≡ negative z
unfolding negative
below_zero (pos n) = le-ltb n 0 (omega arith)
below_zero (negsuc n) = refl

-- ---- the two halves of the numbers of a size

pub signed_low : (s x : ℕ) → 2 * x < 256 ^ s → signed s x ≡ pos x
unfolding signed
signed_low s x h = rw (lt-ltb (2 * x) (256 ^ s) h)

pub signed_high : (s x : ℕ) → 256 ^ s ≤ 2 * x → x < 256 ^ s → signed s x ≡ negsuc (256 ^ s - 1 - x)
unfolding signed
signed_high s x h hx = rw (le-ltb (2 * x) (256 ^ s) h) (sub_neg x (256 ^ s) hx)

pub wrap_lt : (s : ℕ) (z : ℤ) → wrap s z < 256 ^ s
unfolding wrap
wrap_lt s (pos n) = mod-lt n (size_pos s)
wrap_lt s (negsuc n) = omega (arith, size_pos s)

-- ---- a value and its bits

-- shifted up to the i64's sign bit, and back
pub shifted_back : (s x : ℕ) → s ≤ 8 → x < 256 ^ s → shr_z (to_z w64 (x * 2 ^ (64 - 8 * s) % 2 ^ 64)) (2 ^ (64 - 8 * s)) ≡ signed s x
shifted_back s x hs hx = by (ltb (2 * x) (256 ^ s)) refl
  where
    k : ℕ
    k = 64 - 8 * s

    positive : 0 < 2 ^ k
    positive = pow_pos k

    up : x * 2 ^ k % 2 ^ 64 ≡ x * 2 ^ k
    up = mod-eq_of_lt (omega (arith, word_of s hs, mul-lt-mul_of_pos_right hx positive))

    by : (t : Bool) → ltb (2 * x) (256 ^ s) ≡ t → shr_z (to_z w64 (x * 2 ^ k % 2 ^ 64)) (2 ^ k) ≡ signed s x
    by true e =
        let low : 2 * x < 256 ^ s = ltb-true _ _ e in
        let small : x * 2 ^ k < 2 ^ 63 = omega (arith, word_of s hs, mul-lt-mul_of_pos_right low positive) in
        rw (up, to_z_pos w64 (x * 2 ^ k) small) (ap pos (rw add-zero at (high x k positive)) ∙ sym (signed_low s x low))
    by false e =
        let top : 256 ^ s ≤ 2 * x = ltb-false _ _ e in
        let large : 2 ^ 63 ≤ x * 2 ^ k = omega (arith, word_of s hs, mul-le-mul_right (2 ^ k) top) in
        let d : ℕ = 256 ^ s - 1 - x in
        let split : 256 ^ s * 2 ^ k ≡ (d + 1 + x) * 2 ^ k = ap (λ (n : ℕ). n * 2 ^ k) (omega arith) in
        let bits : 2 ^ 64 - suc (x * 2 ^ k) ≡ d * 2 ^ k + (2 ^ k - 1) = omega (arith, word_of s hs, split, positive) in
        rw (up, le-ltb (x * 2 ^ k) 9223372036854775808 large) (ap negsuc (rw bits (high d k (omega (arith, positive)))) ∙ sym (signed_high s x top hx))

-- the bits of an integer, cut to a size
pub cut : (s : ℕ) (z : ℤ) → s ≤ 8 → mag z < 2 ^ 64 → of_z w64 z % 256 ^ s ≡ wrap s z
unfolding wrap
cut s (pos n) hs h = refl
cut s (negsuc n) hs h = let e : 2 ^ 64 - suc n ≡ 2 ^ 64 - 1 - n = omega arith in rw e (flipped_low n s hs h)

-- ---- operations on values that an i64 holds

-- the test of a value's sign
pub sign_test : (z x : ℤ) → SFits w64 z → z ≡ x → lt_z (to_z w64 (of_z w64 z)) (pos 0) ≡ negative x
sign_test z x f e = ap (λ (k : ℤ). lt_z k (pos 0)) (to_z-of_z w64 z f ∙ e) ∙ below_zero x

-- a value written back
pub written : (s r : ℕ) (z x : ℤ) → SFits w64 z → z ≡ x → r ≡ wrap s (to_z w64 (of_z w64 z)) → r ≡ wrap s x
written s r z x fz ez e = e ∙ ap (λ (k : ℤ). wrap s k) (to_z-of_z w64 z fz ∙ ez)

pub shift_fits : (z : ℤ) (b : ℕ) → SFits w64 z → SFits w64 (shr_z (to_z w64 (of_z w64 z)) (2 ^ b))
shift_fits z b f =
    subst (λ (k : ℤ). SFits w64 (shr_z k (2 ^ b))) (sym (to_z-of_z w64 z f)) (record { sfits = lt_of_le_of_lt (mag_shr z (2 ^ b)) f.sfits })
