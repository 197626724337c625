-- Signed division and its remainder.
use Rattle.std.proofs.Common.{◌≡◌, ℕ, zero, suc, ◌-◌, ◌*◌, ◌/◌, ◌%◌, ◌^◌, ◌<◌, ◌≤◌, Bool, true, false, ltb, ℤ, pos, negsuc, ◌+ℤ◌, ◌*ℤ◌, neg_ℤ, sym, refl, ap, ◌∙◌, ap₂, le_of_suc-le-suc, mod-eq_of_lt, div-add-mod', div-le_self, arith, w64, SFits, to_z, of_z, ltb-false, ltb-true}
use mathlib.Core.Bool.{xor}
use native.Mathlib.Nat.{mod-one}
use lib.IntN.{zero-*ℤ, *ℤ-negsuc, *ℤ_comm, neg_ℤ-+ℤ, neg_ℤ-neg_ℤ}
use lib.Signed.{mag, quot_z, rem_z}
use mir.ValLaws.{to_z-of_z}
use Rattle.integer.specs.Integers.{signed, wrap, negative, with_sign, quotient, remainder}
use Rattle.integer.specs.Operations.{int_sdiv, int_srem}
use Rattle.std.specs.Int.{int_wrapping_div}
use Rattle.word.proofs.Powers.{size_most, flipped_low}
use Rattle.integer.proofs.TwosComplement.{signed_low, signed_high, cut}

-- the language's division and remainder are those of the definitions
quotient_is : (p q : ℤ) → quot_z p q ≡ quotient p q
unfolding quotient with_sign negative xor
quotient_is (pos a) (pos b) = refl
quotient_is (pos a) (negsuc b) = refl
quotient_is (negsuc a) (pos b) = refl
quotient_is (negsuc a) (negsuc b) = refl

remainder_is : (p q : ℤ) → rem_z p q ≡ remainder p q
unfolding remainder with_sign negative
remainder_is (pos a) q = refl
remainder_is (negsuc a) q = refl

-- ---- quotient times divisor plus remainder is the dividend

neg_mul : (n : ℕ) (k : ℤ) → neg_ℤ (pos n) *ℤ k ≡ neg_ℤ (pos n *ℤ k)
neg_mul zero k = rw zero-*ℤ
neg_mul (suc n) k = *ℤ_comm (negsuc n) k ∙ *ℤ-negsuc k n ∙ ap neg_ℤ (*ℤ_comm k (pos (suc n)))

divided_neg : (n d : ℕ) → neg_ℤ (pos (n / d * d)) +ℤ neg_ℤ (pos (n % d)) ≡ neg_ℤ (pos n)
divided_neg n d = sym (neg_ℤ-+ℤ (pos (n / d * d)) (pos (n % d))) ∙ ap (λ (k : ℕ). neg_ℤ (pos k)) (div-add-mod' n d)

pub divided : (p q : ℤ) → quotient p q *ℤ q +ℤ remainder p q ≡ p
unfolding quotient remainder with_sign negative xor
divided (pos a) (pos b) = ap pos (div-add-mod' a b)
divided (pos a) (negsuc b) = rw (neg_mul, neg_ℤ-neg_ℤ) (ap pos (div-add-mod' a (suc b)))
divided (negsuc a) (pos b) = rw neg_mul (divided_neg (suc a) b)
divided (negsuc a) (negsuc b) = divided_neg (suc a) (suc b)

-- ---- what an i64 holds

mag_neg : (r a : ℕ) → r ≤ suc a → mag (neg_ℤ (pos r)) ≤ a
mag_neg zero a h = omega arith
mag_neg (suc r) a h = le_of_suc-le-suc h

-- every quotient, also that of the least value by -1
quotient_small : (p q : ℤ) → SFits w64 p → mag (quot_z p q) < 2 ^ 64
quotient_small (pos a) (pos b) f = omega (arith, div-le_self a b, f.sfits)
quotient_small (pos a) (negsuc b) f = omega (arith, mag_neg (a / suc b) (a / suc b) (omega arith), div-le_self a (suc b), f.sfits)
quotient_small (negsuc a) (pos b) f = omega (arith, mag_neg (suc a / b) a (div-le_self (suc a) b), f.sfits)
quotient_small (negsuc a) (negsuc b) f = omega (arith, div-le_self (suc a) (suc b), f.sfits)

-- cut to 8 bytes or less, a word as a signed number is the word
wrap_bits : (s n : ℕ) → s ≤ 8 → n < 2 ^ 64 → wrap s (to_z w64 n) ≡ n % 256 ^ s
unfolding wrap
wrap_bits s n hs h = by (ltb n 9223372036854775808) refl
  where
    by : (t : Bool) → ltb n 9223372036854775808 ≡ t → wrap s (to_z w64 n) ≡ n % 256 ^ s
    by true e = rw e
    by false e =
        let k : 2 ^ 64 - 1 - (2 ^ 64 - suc n) ≡ n = omega arith in
        rw e (sym (flipped_low (2 ^ 64 - suc n) s hs (omega arith)) ∙ ap (λ (x : ℕ). x % 256 ^ s) k)

-- and so is an integer, read from its 64 bits
wrap_word : (s : ℕ) (z : ℤ) → s ≤ 8 → mag z < 2 ^ 64 → wrap s (to_z w64 (of_z w64 z)) ≡ wrap s z
wrap_word s (pos n) hs h = wrap_bits s n hs h ∙ cut s (pos n) hs h
wrap_word s (negsuc n) hs h = wrap_bits s (2 ^ 64 - suc n) hs (omega arith) ∙ cut s (negsuc n) hs h

bits_pos : (q : ℤ) → SFits w64 q → (q ≡ pos 0 → ⊥) → 0 < of_z w64 q
bits_pos (pos zero) f n = absurd (n refl)
bits_pos (pos (suc m)) f n = omega arith
bits_pos (negsuc m) f n = let h : m < 2 ^ 63 = f.sfits in omega arith

-- only 0 has the value 0
signed_nonzero : (s x : ℕ) → x < 256 ^ s → 0 < x → signed s x ≡ pos 0 → ⊥
signed_nonzero s x hx h0 z = by (ltb (2 * x) (256 ^ s)) refl
  where
    by : (t : Bool) → ltb (2 * x) (256 ^ s) ≡ t → ⊥
    by true e =
        let w : pos x ≡ pos 0 = sym (signed_low s x (ltb-true _ _ e)) ∙ z in
        let v : x ≡ 0 = cc in
        omega arith
    by false e =
        let w : negsuc (256 ^ s - 1 - x) ≡ pos 0 = sym (signed_high s x (ltb-false _ _ e) hx) ∙ z in
        let v : ◌≡◌ {A = ℕ} 0 1 = cc in
        omega arith

pub no_remainder : (z : ℤ) → remainder z (negsuc 0) ≡ pos 0
unfolding remainder with_sign negative
no_remainder (pos n) = ap pos (mod-one n)
no_remainder (negsuc n) = ap (λ (k : ℕ). neg_ℤ (pos k)) (mod-one (suc n))

-- ---- the code's division, p and q being the values of a and b

module _ (s a b : ℕ) (p q : ℤ) (fp : SFits w64 p) (fq : SFits w64 q) (ep : p ≡ signed s a) (eq : q ≡ signed s b) where
  -- what a division asks
  pub divides : b < 256 ^ s → 0 < b → 0 < of_z w64 (to_z w64 (of_z w64 q))
  divides hb h0 = rw (to_z-of_z w64 q fq) (bits_pos q fq (λ z. signed_nonzero s b hb h0 (sym eq ∙ z)))

  pub sdiv_is : (r : ℕ) → s ≤ 8 → r ≡ wrap s (int_wrapping_div w64 (to_z w64 (of_z w64 p)) (to_z w64 (of_z w64 q))) → r ≡ int_sdiv s a b
  unfolding int_sdiv
  sdiv_is r hs e =
      e ∙ rw (to_z-of_z w64 p fp, to_z-of_z w64 q fq) (wrap_word s (quot_z p q) hs (quotient_small p q fp))
      ∙ ap (λ (k : ℤ). wrap s k) (ap₂ quot_z ep eq ∙ quotient_is (signed s a) (signed s b))

  pub srem_is : (r : ℕ) → r ≡ wrap s (rem_z (to_z w64 (of_z w64 p)) (to_z w64 (of_z w64 q))) → r ≡ int_srem s a b
  unfolding int_srem
  srem_is r e =
      e ∙ ap (λ (k : ℤ). wrap s k) (ap₂ rem_z (to_z-of_z w64 p fp ∙ ep) (to_z-of_z w64 q fq ∙ eq) ∙ remainder_is (signed s a) (signed s b))

-- ---- the least 64-bit number by -1

module _ (s a b : ℕ) (hs : s ≤ 8) (ha : a < 256 ^ s) (fp : mag (signed s a) < 2 ^ 63) (fq : mag (signed s b) < 2 ^ 63) where
  read_back : (z : ℤ) → mag z < 2 ^ 63 → (n : ℕ) → of_z w64 z ≡ n → z ≡ to_z w64 n
  read_back z f n e = sym (to_z-of_z w64 z (record { sfits = f })) ∙ ap (λ (k : ℕ). to_z w64 k) e

  -- it is the least value of size 8, and the quotient
  pub sdiv_least : of_z w64 (signed s a) ≡ 9223372036854775808 → of_z w64 (signed s b) ≡ 18446744073709551615 → int_sdiv s a b ≡ a
  unfolding int_sdiv wrap
  sdiv_least ea eb =
      ap (λ (k : ℤ). wrap s k) (sym (quotient_is (signed s a) (signed s b)) ∙ ap₂ quot_z least (read_back (signed s b) fq 18446744073709551615 eb))
      ∙ ap (λ (n : ℕ). n % 256 ^ s) is_a ∙ mod-eq_of_lt ha
    where
      least : signed s a ≡ negsuc 9223372036854775807
      least = read_back (signed s a) fp 9223372036854775808 ea

      by : (t : Bool) → ltb (2 * a) (256 ^ s) ≡ t → 9223372036854775808 ≡ a
      by true e =
          let w : pos a ≡ negsuc 9223372036854775807 = sym (signed_low s a (ltb-true _ _ e)) ∙ least in
          let v : ◌≡◌ {A = ℕ} 0 1 = cc in
          omega arith
      by false e =
          let g : 256 ^ s ≤ 2 * a = ltb-false _ _ e in
          let w : negsuc (256 ^ s - 1 - a) ≡ negsuc 9223372036854775807 = sym (signed_high s a g ha) ∙ least in
          let v : 256 ^ s - 1 - a ≡ 9223372036854775807 = cc in
          let m : 256 ^ s ≤ 2 ^ 64 = size_most s hs in
          omega arith

      is_a : 9223372036854775808 ≡ a
      is_a = by (ltb (2 * a) (256 ^ s)) refl
