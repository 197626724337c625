-- Sums and differences of two's complement values: when they overflow a size, told from the signs.
use Rattle.std.proofs.Common.{◌≡◌, ℕ, suc, ◌+◌, ◌-◌, ◌*◌, ◌/◌, ◌%◌, ◌^◌, ◌<◌, ◌≤◌, Bool, true, false, not, ◌&&◌, ◌||◌, ltb, leb, ℤ, pos, negsuc, ◌+ℤ◌, ◌-ℤ◌, neg_ℤ, sym, refl, ap, ◌∙◌, ap₂, mod-lt, mod-eq_of_lt, arith, ltb-false, ltb-true, le-ltb, lt-ltb, le-leb}
use mathlib.Core.Bool.{xor, beq}
use native.Mathlib.Nat.{pow-succ', mod-eq-sub-mod}
use lib.Signed.{lt_z, le_z}
use lib.IntN.{+ℤ_assoc, +ℤ_comm, +ℤ_idl, neg_ℤ-+ℤ, neg_ℤ-neg_ℤ}
use borrow.Author.Tests.{lt-leb}
use Rattle.word.proofs.Tests.{leb-agree}
use Rattle.integer.specs.Integers.{signed, wrap, negative, overflows}
use Rattle.integer.specs.Operations.{int_sub, int2comp}
use Rattle.word.proofs.Powers.{size_pos}
use Rattle.std.proofs.Math.Bool.{or-false}
use Rattle.integer.proofs.Whole.{sub_pos, sub_neg}
use Rattle.integer.proofs.Modular.{wrap-signed, wrap_opposite}
use Rattle.integer.proofs.TwosComplement.{signed_low, signed_high, wrap_lt}

-- ---- differences of whole numbers

four : (x y u v : ℤ) → (x +ℤ y) +ℤ (u +ℤ v) ≡ (x +ℤ u) +ℤ (y +ℤ v)
four x y u v =
    +ℤ_assoc x y (u +ℤ v)
    ∙ ap (λ (k : ℤ). x +ℤ k) (sym (+ℤ_assoc y u v) ∙ ap (λ (k : ℤ). k +ℤ v) (+ℤ_comm y u) ∙ +ℤ_assoc u y v)
    ∙ sym (+ℤ_assoc x u (y +ℤ v))

sum_of : (a m b n : ℕ) → (pos a -ℤ pos m) +ℤ (pos b -ℤ pos n) ≡ pos (a + b) -ℤ pos (m + n)
sum_of a m b n =
    four (pos a) (neg_ℤ (pos m)) (pos b) (neg_ℤ (pos n)) ∙ ap (λ (k : ℤ). pos (a + b) +ℤ k) (sym (neg_ℤ-+ℤ (pos m) (pos n)))

opposite : (b n : ℕ) → neg_ℤ (pos b -ℤ pos n) ≡ pos n -ℤ pos b
opposite b n =
    neg_ℤ-+ℤ (pos b) (neg_ℤ (pos n)) ∙ ap (λ (k : ℤ). neg_ℤ (pos b) +ℤ k) (neg_ℤ-neg_ℤ (pos n)) ∙ +ℤ_comm (neg_ℤ (pos b)) (pos n)

-- ---- halves

pub even : (s : ℕ) → 1 ≤ s → 2 * (256 ^ s / 2) ≡ 256 ^ s
even s h =
    let e : s ≡ suc (s - 1) = omega arith in
    let f : 256 ^ s ≡ 256 * 256 ^ (s - 1) = ap (λ (n : ℕ). 256 ^ n) e ∙ pow-succ' 256 (s - 1) in
    omega arith

half_suc : (s : ℕ) → 1 ≤ s → 256 ^ s / 2 ≡ suc (256 ^ s / 2 - 1)
half_suc s h = omega (arith, even s h, size_pos s)

-- a difference overflows where it is half of 256^size or more, or less than minus that
overflow_of : (s x y : ℕ) → 1 ≤ s → overflows s (pos x -ℤ pos y) ≡ leb (y + 256 ^ s / 2) x || ltb (x + 256 ^ s / 2) y
unfolding overflows
overflow_of s x y h = rw (half_suc s h) (by (256 ^ s / 2 - 1) (ltb x y) refl)
  where
    by : (n : ℕ) (t : Bool) → ltb x y ≡ t
        → lt_z (pos x -ℤ pos y) (negsuc n) || le_z (pos (suc n)) (pos x -ℤ pos y) ≡ leb (y + suc n) x || ltb (x + suc n) y
    by n true e =
        let l : x < y = ltb-true x y e in
        rw (sub_neg x y l, or-false, lt-leb (y + suc n) x (omega arith)) (leb-agree (suc n) (y - 1 - x) (suc (x + suc n)) y (λ k. omega arith) (λ k. omega arith))
    by n false e =
        let l : y ≤ x = ltb-false x y e in
        rw (sub_pos x y l, le-ltb (x + suc n) y (omega arith), or-false) (leb-agree (suc n) (x - y) (y + suc n) x (λ k. omega arith) (λ k. omega arith))

-- ---- signs

sign_is : (s x : ℕ) → x < 256 ^ s → negative (signed s x) ≡ not (ltb (2 * x) (256 ^ s))
unfolding negative
sign_is s x hx = by (ltb (2 * x) (256 ^ s)) refl
  where
    by : (t : Bool) → ltb (2 * x) (256 ^ s) ≡ t → negative (signed s x) ≡ not t
    by true e = rw (signed_low s x (ltb-true _ _ e))
    by false e = rw (signed_high s x (ltb-false _ _ e) hx)

-- a value as a difference of whole numbers
from_low : (s x : ℕ) → 2 * x < 256 ^ s → signed s x ≡ pos x -ℤ pos 0
from_low s x h = signed_low s x h ∙ ap pos (omega arith)

from_high : (s x : ℕ) → 256 ^ s ≤ 2 * x → signed s x ≡ pos x -ℤ pos (256 ^ s)
unfolding signed
from_high s x h = rw (le-ltb (2 * x) (256 ^ s) h)

-- ---- in range, above it, below it

module _ (s x y : ℕ) (h : 1 ≤ s) where
  inside : x < y + 256 ^ s / 2 → y ≤ x + 256 ^ s / 2 → overflows s (pos x -ℤ pos y) ≡ false
  inside l r = overflow_of s x y h ∙ rw (lt-leb (y + 256 ^ s / 2) x l, le-ltb (x + 256 ^ s / 2) y r)

  above : y + 256 ^ s / 2 ≤ x → overflows s (pos x -ℤ pos y) ≡ true
  above l = overflow_of s x y h ∙ rw (le-leb (y + 256 ^ s / 2) x l)

  under : x + 256 ^ s / 2 < y → overflows s (pos x -ℤ pos y) ≡ true
  under l = overflow_of s x y h ∙ rw (lt-leb (y + 256 ^ s / 2) x (omega arith), lt-ltb (x + 256 ^ s / 2) y l)

-- ---- the code's tests, by the signs of a, b and their sum or difference c

-- the sum's sign differs from both
abbrev applied : Bool → Bool → Bool → Bool
applied na nb nc = xor nc na && xor nc nb

-- the difference's sign differs from that of a, and is that of b
abbrev borrowed : Bool → Bool → Bool → Bool
borrowed na nb nc = xor nc na && beq nc nb

-- numbers of different signs carry nothing, and of one sign borrow nothing
applied_apart : (t u : Bool) → false ≡ applied (not u) (not (not u)) (not t)
unfolding xor
applied_apart true true = refl
applied_apart true false = refl
applied_apart false true = refl
applied_apart false false = refl

borrowed_alike : (t u : Bool) → false ≡ borrowed (not u) (not u) (not t)
unfolding xor
borrowed_alike true true = refl
borrowed_alike true false = refl
borrowed_alike false true = refl
borrowed_alike false false = refl

module _ (s a b : ℕ) (hs : 1 ≤ s) (ha : a < 256 ^ s) (hb : b < 256 ^ s) where
  sum_is : (m n : ℕ) → signed s a ≡ pos a -ℤ pos m → signed s b ≡ pos b -ℤ pos n → signed s a +ℤ signed s b ≡ pos (a + b) -ℤ pos (m + n)
  sum_is m n ea eb = ap₂ (λ (p q : ℤ). p +ℤ q) ea eb ∙ sum_of a m b n

  difference_is : (m n : ℕ) → signed s a ≡ pos a -ℤ pos m → signed s b ≡ pos b -ℤ pos n → signed s a -ℤ signed s b ≡ pos (a + n) -ℤ pos (m + b)
  difference_is m n ea eb = ap₂ (λ (p q : ℤ). p -ℤ q) ea eb ∙ ap (λ (k : ℤ). (pos a -ℤ pos m) +ℤ k) (opposite b n) ∙ sum_of a m n b

  -- the signs are told by the halves in which a, b and c lie
  signs : (f : Bool → Bool → Bool → Bool) (c : ℕ) (ta tb tc : Bool) → c < 256 ^ s
      → ltb (2 * a) (256 ^ s) ≡ ta → ltb (2 * b) (256 ^ s) ≡ tb → ltb (2 * c) (256 ^ s) ≡ tc
      → f (not ta) (not tb) (not tc) ≡ f (negative (signed s a)) (negative (signed s b)) (negative (signed s c))
  signs f c ta tb tc hc ea eb ec = rw (sign_is s a ha, sign_is s b hb, sign_is s c hc, ea, eb, ec)

  pub carry_by_signs : (c : ℕ) → c ≡ (a + b) % 256 ^ s → overflows s (signed s a +ℤ signed s b) ≡ applied (negative (signed s a)) (negative (signed s b)) (negative (signed s c))
  unfolding xor
  carry_by_signs c e = by (ltb (2 * a) (256 ^ s)) (ltb (2 * b) (256 ^ s)) (ltb (2 * c) (256 ^ s)) refl refl refl
    where
      hc : c < 256 ^ s
      hc = rw e (mod-lt (a + b) (size_pos s))

      once : a + b < 256 ^ s → c ≡ a + b
      once l = e ∙ mod-eq_of_lt l

      again : 256 ^ s ≤ a + b → c ≡ a + b - 256 ^ s
      again l = e ∙ mod-eq-sub-mod l ∙ mod-eq_of_lt (omega arith)

      by : (ta tb tc : Bool) → ltb (2 * a) (256 ^ s) ≡ ta → ltb (2 * b) (256 ^ s) ≡ tb → ltb (2 * c) (256 ^ s) ≡ tc
          → overflows s (signed s a +ℤ signed s b) ≡ applied (negative (signed s a)) (negative (signed s b)) (negative (signed s c))
      by true true true ea eb ec =
          let la : 2 * a < 256 ^ s = ltb-true _ _ ea in let lb : 2 * b < 256 ^ s = ltb-true _ _ eb in let lc : 2 * c < 256 ^ s = ltb-true _ _ ec in
          let f : c ≡ a + b = once (omega arith) in
          ap (overflows s) (sum_is 0 0 (from_low s a la) (from_low s b lb)) ∙ inside s (a + b) (0 + 0) hs (omega (arith, even s hs)) (omega (arith, even s hs))
          ∙ signs applied c true true true hc ea eb ec
      by true true false ea eb ec =
          let la : 2 * a < 256 ^ s = ltb-true _ _ ea in let lb : 2 * b < 256 ^ s = ltb-true _ _ eb in let lc : 256 ^ s ≤ 2 * c = ltb-false _ _ ec in
          let f : c ≡ a + b = once (omega arith) in
          ap (overflows s) (sum_is 0 0 (from_low s a la) (from_low s b lb)) ∙ above s (a + b) (0 + 0) hs (omega (arith, even s hs))
          ∙ signs applied c true true false hc ea eb ec
      by true false tc ea eb ec =
          let la : 2 * a < 256 ^ s = ltb-true _ _ ea in let lb : 256 ^ s ≤ 2 * b = ltb-false _ _ eb in
          ap (overflows s) (sum_is 0 (256 ^ s) (from_low s a la) (from_high s b lb)) ∙ inside s (a + b) (0 + 256 ^ s) hs (omega (arith, even s hs)) (omega (arith, even s hs))
          ∙ applied_apart tc true ∙ signs applied c true false tc hc ea eb ec
      by false true tc ea eb ec =
          let la : 256 ^ s ≤ 2 * a = ltb-false _ _ ea in let lb : 2 * b < 256 ^ s = ltb-true _ _ eb in
          ap (overflows s) (sum_is (256 ^ s) 0 (from_high s a la) (from_low s b lb)) ∙ inside s (a + b) (256 ^ s + 0) hs (omega (arith, even s hs)) (omega (arith, even s hs))
          ∙ applied_apart tc false ∙ signs applied c false true tc hc ea eb ec
      by false false true ea eb ec =
          let la : 256 ^ s ≤ 2 * a = ltb-false _ _ ea in let lb : 256 ^ s ≤ 2 * b = ltb-false _ _ eb in let lc : 2 * c < 256 ^ s = ltb-true _ _ ec in
          let f : c ≡ a + b - 256 ^ s = again (omega arith) in
          ap (overflows s) (sum_is (256 ^ s) (256 ^ s) (from_high s a la) (from_high s b lb)) ∙ under s (a + b) (256 ^ s + 256 ^ s) hs (omega (arith, even s hs))
          ∙ signs applied c false false true hc ea eb ec
      by false false false ea eb ec =
          let la : 256 ^ s ≤ 2 * a = ltb-false _ _ ea in let lb : 256 ^ s ≤ 2 * b = ltb-false _ _ eb in let lc : 256 ^ s ≤ 2 * c = ltb-false _ _ ec in
          let f : c ≡ a + b - 256 ^ s = again (omega arith) in
          ap (overflows s) (sum_is (256 ^ s) (256 ^ s) (from_high s a la) (from_high s b lb)) ∙ inside s (a + b) (256 ^ s + 256 ^ s) hs (omega (arith, even s hs)) (omega (arith, even s hs))
          ∙ signs applied c false false false hc ea eb ec

  pub borrow_by_signs : (c : ℕ) → c ≡ int_sub s a b → overflows s (signed s a -ℤ signed s b) ≡ borrowed (negative (signed s a)) (negative (signed s b)) (negative (signed s c))
  unfolding xor int_sub wrap
  borrow_by_signs c e = by (ltb (2 * a) (256 ^ s)) (ltb (2 * b) (256 ^ s)) (ltb (2 * c) (256 ^ s)) refl refl refl
    where
      straight : b ≤ a → c ≡ a - b
      straight l = e ∙ rw (sub_pos a b l) (mod-eq_of_lt (omega arith))

      back : a < b → c ≡ a + 256 ^ s - b
      back l =
          let r : (b - 1 - a) % 256 ^ s ≡ b - 1 - a = mod-eq_of_lt (omega arith) in
          e ∙ rw (sub_neg a b l, r) (omega arith)

      hc : c < 256 ^ s
      hc = rw e (wrap_lt s (pos a -ℤ pos b))

      by : (ta tb tc : Bool) → ltb (2 * a) (256 ^ s) ≡ ta → ltb (2 * b) (256 ^ s) ≡ tb → ltb (2 * c) (256 ^ s) ≡ tc
          → overflows s (signed s a -ℤ signed s b) ≡ borrowed (negative (signed s a)) (negative (signed s b)) (negative (signed s c))
      by true true tc ea eb ec =
          let la : 2 * a < 256 ^ s = ltb-true _ _ ea in let lb : 2 * b < 256 ^ s = ltb-true _ _ eb in
          ap (overflows s) (difference_is 0 0 (from_low s a la) (from_low s b lb)) ∙ inside s (a + 0) (0 + b) hs (omega (arith, even s hs)) (omega (arith, even s hs))
          ∙ borrowed_alike tc true ∙ signs borrowed c true true tc hc ea eb ec
      by true false true ea eb ec =
          let la : 2 * a < 256 ^ s = ltb-true _ _ ea in let lb : 256 ^ s ≤ 2 * b = ltb-false _ _ eb in let lc : 2 * c < 256 ^ s = ltb-true _ _ ec in
          let f : c ≡ a + 256 ^ s - b = back (omega arith) in
          ap (overflows s) (difference_is 0 (256 ^ s) (from_low s a la) (from_high s b lb)) ∙ inside s (a + 256 ^ s) (0 + b) hs (omega (arith, even s hs)) (omega (arith, even s hs))
          ∙ signs borrowed c true false true hc ea eb ec
      by true false false ea eb ec =
          let la : 2 * a < 256 ^ s = ltb-true _ _ ea in let lb : 256 ^ s ≤ 2 * b = ltb-false _ _ eb in let lc : 256 ^ s ≤ 2 * c = ltb-false _ _ ec in
          let f : c ≡ a + 256 ^ s - b = back (omega arith) in
          ap (overflows s) (difference_is 0 (256 ^ s) (from_low s a la) (from_high s b lb)) ∙ above s (a + 256 ^ s) (0 + b) hs (omega (arith, even s hs))
          ∙ signs borrowed c true false false hc ea eb ec
      by false true true ea eb ec =
          let la : 256 ^ s ≤ 2 * a = ltb-false _ _ ea in let lb : 2 * b < 256 ^ s = ltb-true _ _ eb in let lc : 2 * c < 256 ^ s = ltb-true _ _ ec in
          let f : c ≡ a - b = straight (omega arith) in
          ap (overflows s) (difference_is (256 ^ s) 0 (from_high s a la) (from_low s b lb)) ∙ under s (a + 0) (256 ^ s + b) hs (omega (arith, even s hs))
          ∙ signs borrowed c false true true hc ea eb ec
      by false true false ea eb ec =
          let la : 256 ^ s ≤ 2 * a = ltb-false _ _ ea in let lb : 2 * b < 256 ^ s = ltb-true _ _ eb in let lc : 256 ^ s ≤ 2 * c = ltb-false _ _ ec in
          let f : c ≡ a - b = straight (omega arith) in
          ap (overflows s) (difference_is (256 ^ s) 0 (from_high s a la) (from_low s b lb)) ∙ inside s (a + 0) (256 ^ s + b) hs (omega (arith, even s hs)) (omega (arith, even s hs))
          ∙ signs borrowed c false true false hc ea eb ec
      by false false tc ea eb ec =
          let la : 256 ^ s ≤ 2 * a = ltb-false _ _ ea in let lb : 256 ^ s ≤ 2 * b = ltb-false _ _ eb in
          ap (overflows s) (difference_is (256 ^ s) (256 ^ s) (from_high s a la) (from_high s b lb)) ∙ inside s (a + 256 ^ s) (256 ^ s + b) hs (omega (arith, even s hs)) (omega (arith, even s hs))
          ∙ borrowed_alike tc false ∙ signs borrowed c false false tc hc ea eb ec

-- ---- INT_2COMP is a difference from 0

pub opposite_is : (s a : ℕ) → a < 256 ^ s → int_sub s 0 a ≡ int2comp s a
unfolding int_sub int2comp wrap
opposite_is s a ha = simp (+ℤ_idl, wrap_opposite, wrap-signed, mod-eq_of_lt)
