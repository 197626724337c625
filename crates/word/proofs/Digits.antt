-- Numbers as sums of digits, for any base: the sum's bound, a number's digits summed, a sum's digits.
use mathlib.Core.Path.{◌≡◌, refl, sym, ap, ◌∙◌}
use mathlib.Core.Bool.{Bool, true, false}
use Prim.Native.Nat.{ℕ, zero, suc, ◌+◌, ◌-◌, ◌*◌, ◌/◌, ◌%◌, ◌^◌, ◌<◌}
use native.Mathlib.Nat.{pow-zero, pow-succ', mod-one, mod-lt, mod-eq_of_lt, div-eq_of_lt, add-mul-div_right, add-mul-mod_self_right, one-le-pow, zero-add}
use native.Mathlib.Omega.{arith}
use borrow.Author.Tests.{ltb-true, ltb-false}
use lib.Dec.{ltb, lit<}
use lib.Pow.{pow-add}
use lib.Arith as A
use Rattle.word.specs.Sum.{sum, digit}

module _ (base : ℕ) (pos : 0 < base) where
  pow_pos : (k : ℕ) → 0 < base ^ k
  pow_pos k = one-le-pow k base pos

  pub digit_lt : (v k : ℕ) → digit base v k < base
  unfolding digit
  digit_lt v k = mod-lt (v / base ^ k) pos

  pub digits_lt : (n : ℕ) (d : ℕ → ℕ) → ((i : ℕ) → i < n → d i < base) → sum n (λ i. d i * base ^ i) < base ^ n
  unfolding sum
  digits_lt zero d h = rw pow-zero (lit< tt)
  digits_lt (suc n) d h =
      let low : sum n (λ i. d i * base ^ i) < base ^ n = digits_lt n d (λ i l. h i (omega arith)) in
      rw pow-succ' (omega (arith, A.digits_lt (h n (omega arith)) low))

  pub digits_sum : (n v : ℕ) → sum n (λ k. digit base v k * base ^ k) ≡ v % base ^ n
  unfolding sum digit
  digits_sum zero v = rw pow-zero (sym (mod-one v))
  digits_sum (suc n) v = rw pow-succ' (omega (arith, A.mod-mul v {m = base} {c = base ^ n} pos (pow_pos n), digits_sum n v))

  -- the digit k of a sum of digits
  top : (n s d : ℕ) → s < base ^ n → d < base → (s + d * base ^ n) / base ^ n % base ≡ d
  top n s d hs hd =
      ap (λ (x : ℕ). x % base) (add-mul-div_right s d (pow_pos n) ∙ ap (λ (x : ℕ). x + d) (div-eq_of_lt hs) ∙ zero-add d)
      ∙ mod-eq_of_lt hd

  below : (n k s d : ℕ) → k < n → (s + d * base ^ n) / base ^ k % base ≡ s / base ^ k % base
  below n k s d h =
      let e : n ≡ (n - suc k) + suc k = omega arith in
      let p : base ^ n ≡ base ^ (n - suc k) * base ^ suc k = ap (λ (x : ℕ). base ^ x) e ∙ pow-add base (n - suc k) (suc k) in
      let q : d * base ^ n ≡ (d * base ^ (n - suc k) * base) * base ^ k = rw (p, pow-succ') (omega arith) in
      ap (λ (x : ℕ). (s + x) / base ^ k % base) q
      ∙ ap (λ (x : ℕ). x % base) (add-mul-div_right s (d * base ^ (n - suc k) * base) (pow_pos k))
      ∙ add-mul-mod_self_right (s / base ^ k) (d * base ^ (n - suc k)) base

  pub digit_of_lem : (n : ℕ) (d : ℕ → ℕ) → ((i : ℕ) → i < n → d i < base) → (k : ℕ) → k < n
      → digit base (sum n (λ i. d i * base ^ i)) k ≡ d k
  unfolding sum digit
  digit_of_lem zero d h k l = absurd (let z : ⊥ = omega arith in z)
  digit_of_lem (suc n) d h k l = by (ltb k n) refl (λ m. digit_of_lem n d (λ i m'. h i (omega arith)) k m)
    where
      by : (t : Bool) → ltb k n ≡ t → (k < n → sum n (λ i. d i * base ^ i) / base ^ k % base ≡ d k)
          → (sum n (λ i. d i * base ^ i) + d n * base ^ n) / base ^ k % base ≡ d k
      by true e ih = below n k (sum n (λ i. d i * base ^ i)) (d n) (ltb-true k n e) ∙ ih (ltb-true k n e)
      by false e ih =
          let last : k ≡ n = omega (arith, ltb-false k n e) in
          rw last (top n (sum n (λ i. d i * base ^ i)) (d n) (digits_lt n d (λ i m. h i (omega arith))) (h n (omega arith)))
