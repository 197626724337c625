-- The labels of a varnode as one number: it is 0 where each label is; one label in eight bytes; bytes turned round.
use Prim.Native.Nat.{ℕ, zero, suc, ◌+◌, ◌-◌, ◌*◌, ◌/◌, ◌^◌, ◌≤◌, ◌<◌}
use mathlib.Core.Path.{◌≡◌, refl, sym, ap, ◌∙◌}
use mathlib.Core.Bool.{Bool, true, false, not}
use mathlib.Core.List.{List, []}
use native.Mathlib.Nat.{zero-mul, mul-lt-mul_of_pos_right}
use native.Mathlib.Omega.{arith}
use borrow.Author.Tests.{eqb-true, eqb-false, eq-eqb, ne_eqb, not-false}
use lib.Dec.{eqb, lit<}
use lib.ListN.{length, get_or}
use lib.Pow.{shr_lt}
use lib.Seq.{sets}
use Rattle.word.specs.Sum.{sum, tabulate, digit}
use Rattle.word.specs.Word.{part, significance, value_of, bytes_of}
use Rattle.word.proofs.Digits.{digit_of_lem}
use Rattle.word.proofs.Powers.{pow_bits, size_pos}
use Rattle.word.proofs.Shifts.{digit-div}
use Rattle.word.proofs.Laws.{stored-part, stored-length, value_lt, bytes-length, bytes_at_lem, bytes_bytes, written_read, gathered, gathered_all}
use Rattle.integer.proofs.Booleans.{neither}
use Rattle.operation.specs.declared.layout.Varnode.{Varnode}
use Rattle.machine.specs.Memory.{Memory, space_of, bytes_at}
use Rattle.machine.specs.Effect.{any_secret}

-- ---- labels that are all 0

tabulate_public : (n : ℕ) (f : ℕ → ℕ) → ((i : ℕ) → i < n → f i ≡ 0) → any_secret (tabulate n f) ≡ false
unfolding tabulate any_secret
tabulate_public zero f h = refl
tabulate_public (suc n) f h = rw (h 0 (omega arith)) (tabulate_public n (λ i. f (suc i)) (λ i l. h (suc i) (omega arith)))

public_tabulate : (n : ℕ) (f : ℕ → ℕ) → any_secret (tabulate n f) ≡ false → (i : ℕ) → i < n → f i ≡ 0
unfolding tabulate any_secret
public_tabulate zero f h i l = absurd (let z : ⊥ = omega arith in z)
public_tabulate (suc n) f h zero l = eqb-true (f 0) 0 (not-false (eqb (f 0) 0) (neither (not (eqb (f 0) 0)) _ h).0)
public_tabulate (suc n) f h (suc i) l = public_tabulate n (λ k. f (suc k)) (neither (not (eqb (f 0) 0)) _ h).1 i (omega arith)

-- ---- a number whose digits are all 0

sum-zero : (n : ℕ) (f : ℕ → ℕ) → ((i : ℕ) → i < n → f i ≡ 0) → sum n f ≡ 0
unfolding sum
sum-zero zero f h = refl
sum-zero (suc n) f h = rw (sum-zero n f (λ i l. h i (omega arith)), h n (omega arith)) refl

factor_zero : (a k : ℕ) → a * 256 ^ k ≡ 0 → a ≡ 0
factor_zero zero k e = refl
factor_zero (suc a) k e =
    absurd (let l : 0 * 256 ^ k < suc a * 256 ^ k = mul-lt-mul_of_pos_right (omega arith) (size_pos k) in let z : ⊥ = omega (arith, zero-mul (256 ^ k)) in z)

zeros-sum : (n : ℕ) (f : ℕ → ℕ) → sum n (λ i. f i * 256 ^ i) ≡ 0 → (i : ℕ) → i < n → f i ≡ 0
unfolding sum
zeros-sum zero f e i l = absurd (let z : ⊥ = omega arith in z)
zeros-sum (suc n) f e i l = by (eqb i n) refl (zeros-sum n f (omega arith) i)
  where
    by : (t : Bool) → eqb i n ≡ t → (i < n → f i ≡ 0) → f i ≡ 0
    by true q h = rw (eqb-true i n q) (factor_zero (f n) n (omega arith))
    by false q h = let d : i ≡ n → ⊥ = eqb-false i n q in h (omega arith)

-- ---- what the code looks at

pub number_secret : (labels : Memory) (v : Varnode) → not (eqb (value_of false (bytes_at labels v)) 0) ≡ any_secret (bytes_at labels v)
unfolding bytes_at part gathered significance
number_secret labels v = rw (← (gathered_all false (space_of labels v.space) v.offset v.size)) (by (eqb number 0) refl (any_secret (tabulate v.size label)) refl)
  where
    label : ℕ → ℕ
    label i = get_or (space_of labels v.space) (v.offset + i) 0

    number : ℕ
    number = sum v.size (λ i. label i * 256 ^ i)

    by : (t : Bool) → eqb number 0 ≡ t → (s : Bool) → any_secret (tabulate v.size label) ≡ s → not t ≡ s
    by true e true q = sym (tabulate_public v.size label (zeros-sum v.size label (eqb-true number 0 e))) ∙ q
    by true e false q = refl
    by false e true q = refl
    by false e false q = sym (eq-eqb number 0 (sum-zero v.size (λ i. label i * 256 ^ i) (λ i l. rw (public_tabulate v.size label q i l) (zero-mul (256 ^ i))))) ∙ e

-- a constant has no bytes in a space, and an absent varnode has none at all
no_space : (labels : Memory) (space : ℕ) → space < 2 → space_of labels space ≡ []
unfolding space_of
no_space labels space h = rw (ne_eqb space 2 (λ e. omega arith), ne_eqb space 3 (λ e. omega arith), ne_eqb space 4 (λ e. omega arith)) refl

pub constant_labels : (labels : Memory) (v : Varnode) → v.space < 2 → value_of false (bytes_at labels v) ≡ 0
unfolding bytes_at gathered significance
constant_labels labels v h =
    rw (no_space labels v.space h, ← (gathered_all false [] v.offset v.size))
    (sum-zero v.size (λ i. get_or [] (v.offset + i) 0 * 256 ^ i) (λ i l. zero-mul (256 ^ i)))

-- ---- the same label in eight bytes

pub same_labels : (label : ℕ) → label < 256 → (k : ℕ) → k < 8 → digit 256 (label * 0x0101010101010101) k ≡ label
unfolding sum
same_labels label h k l =
    let e : label * 0x0101010101010101 ≡ sum 8 (λ i. label * 256 ^ i) = omega arith in
    ap (λ (n : ℕ). digit 256 n k) e ∙ digit_of_lem 256 (lit< tt) 8 (λ i. label) (λ i m. h) k l

-- ---- bytes turned round

-- eight bytes written in big order and read in little order
module _ (l : List ℕ) (eight : length l ≡ 8) (n : ℕ) (after : List ℕ) (e : after ≡ sets l 0 (bytes_of true 8 n)) where
  pub still_eight : length after ≡ 8
  still_eight = ap length e ∙ stored-length l 0 (bytes_of true 8 n) ∙ eight

  module _ (t : ℕ) (et : t ≡ value_of false (part after 0 8)) where
    turned : t ≡ value_of false (bytes_of true 8 n)
    turned =
        let c : length (bytes_of true 8 n) ≡ 8 = bytes-length true 8 n in
        et ∙ ap (value_of false)
        (ap (λ (bs : List ℕ). part bs 0 8) e ∙ ap (part (sets l 0 (bytes_of true 8 n)) 0) (sym c) ∙ stored-part l 0 (bytes_of true 8 n) (omega arith))

    turned_at : (j : ℕ) → j < 8 → digit 256 t j ≡ digit 256 n (7 - j)
    unfolding significance
    turned_at j h =
        let c : length (bytes_of true 8 n) ≡ 8 = bytes-length true 8 n in
        let w : bytes_of false 8 t ≡ bytes_of true 8 n =
        ap (bytes_of false 8) turned ∙ ap (λ (k : ℕ). bytes_of false k (value_of false (bytes_of true 8 n))) (sym c) ∙ written_read false (bytes_of true 8 n) (bytes_bytes true 8 n) in
        sym (bytes_at_lem false 8 t j h) ∙ ap (λ (bs : List ℕ). get_or bs j 0) w ∙ bytes_at_lem true 8 n j h

    -- without those past `size`
    module _ (size : ℕ) (most : size ≤ 8) (r : ℕ) (er : r ≡ t / 2 ^ (8 * (8 - size))) where
      pub turned_digits : (k : ℕ) → k < size → digit 256 r k ≡ digit 256 n (significance true size k)
      unfolding significance
      turned_digits k h =
          let j : 7 - (8 - size + k) ≡ size - 1 - k = omega arith in
          ap (λ (x : ℕ). digit 256 x k) (er ∙ rw (← (pow_bits (8 - size))) refl) ∙ digit-div t (8 - size) k ∙ turned_at (8 - size + k) (omega arith) ∙ ap (digit 256 n) j

      pub turned_below : r < 256 ^ size
      turned_below =
          let c : length (bytes_of true 8 n) ≡ 8 = bytes-length true 8 n in
          let bits : 8 * 8 ≡ 8 * size + 8 * (8 - size) = omega arith in
          let b : t < 2 ^ (8 * size + 8 * (8 - size)) =
          rw (turned, ← bits, ← (pow_bits 8)) (rw c at (value_lt false (bytes_of true 8 n) (bytes_bytes true 8 n))) in
          rw (er, pow_bits size) (shr_lt (8 * size) (8 * (8 - size)) b)
