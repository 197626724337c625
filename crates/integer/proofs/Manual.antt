-- The laws of Manual hold.
use Rattle.std.proofs.Common.{◌≡◌, ℕ, ◌+◌, ◌-◌, ◌*◌, ◌/◌, ◌%◌, ◌^◌, ◌<◌, ◌≤◌, Bool, true, false, cond, ltb, ℤ, pos, negsuc, ◌-ℤ◌, sym, refl, ap, ◌∙◌, lt_of_le_of_lt, mod-lt, mod-eq_of_lt, div-add-mod', mul-one, div-le_self, div-one, arith, pow_pos, pow_mono, pow-add, shr_lt, ltb-false, ltb-true, lt-ltb}
use native.Mathlib.Nat.{mod-add-mod}
use lib.Count.{ones-ones}
use lib.Pow.{field, high}
use lib.Signed.{shr_z}
use Rattle.word.proofs.Powers.{pow_bits, size_pos, size_mono}
use Rattle.integer.specs.Integers.{signed, wrap, negative}
use Rattle.integer.specs.Operations.{flag, subpiece, int_less, int_sext, int_add, int_sub, int2comp, int_left, int_right, int_sright, int_mult, int_div, int_rem, int_sdiv, int_srem}
use Rattle.integer.specs.Manual.{Manual}
use Rattle.integer.proofs.Bits.{popcount_is, negate_is}
use Rattle.integer.proofs.Division.{divided}
use Rattle.integer.proofs.Whole.{sub_pos, sub_neg}
use Rattle.integer.proofs.TwosComplement.{signed_low, signed_high}
use Rattle.integer.proofs.Modular.{wrap-signed, wrap-add, wrap-mul, wrap_opposite}

unshifted : (z : ℤ) → shr_z z 1 ≡ z
unshifted (pos n) = ap pos (div-one n)
unshifted (negsuc n) = ap negsuc (div-one n)

-- ---- bytes and bits that are filled or left out

high_bytes : (size a b : ℕ) → subpiece size a b ≡ a % 256 ^ (size + b) / 256 ^ b
unfolding subpiece
high_bytes size a b =
    let e : 8 * (size + b) ≡ 8 * size + 8 * b = omega arith in
    rw (pow_bits (size + b), pow_bits size, pow_bits b, e) (sym (field a (8 * size) (8 * b)))

sign_fill : (size size0 a : ℕ) → size0 ≤ size → a < 256 ^ size0
    → int_sext size size0 a ≡ a + cond (negative (signed size0 a)) (256 ^ size - 256 ^ size0) 0
unfolding int_sext wrap negative
sign_fill size size0 a h ha = by (ltb (2 * a) (256 ^ size0)) refl
  where
    by : (t : Bool) → ltb (2 * a) (256 ^ size0) ≡ t → wrap size (signed size0 a) ≡ a + cond (negative (signed size0 a)) (256 ^ size - 256 ^ size0) 0
    by true e =
        let m : 256 ^ size0 ≤ 256 ^ size = size_mono size0 size h in
        rw (signed_low size0 a (ltb-true _ _ e)) (mod-eq_of_lt (omega arith) ∙ omega arith)
    by false e =
        let m : 256 ^ size0 ≤ 256 ^ size = size_mono size0 size h in
        let r : (256 ^ size0 - 1 - a) % 256 ^ size ≡ 256 ^ size0 - 1 - a = mod-eq_of_lt (omega arith) in
        rw (signed_high size0 a (ltb-false _ _ e) ha, r) (omega arith)

-- all bits flipped, and then shifted, is shifted and then flipped
flipped_high : (k b a : ℕ) → a < 2 ^ (k + b) → (2 ^ (k + b) - 1 - a) / 2 ^ b ≡ 2 ^ k - 1 - a / 2 ^ b
flipped_high k b a h =
    let l : a / 2 ^ b < 2 ^ k = shr_lt k b h in
    let r : a % 2 ^ b < 2 ^ b = mod-lt a (pow_pos b) in
    let p : 2 ^ (k + b) ≡ 2 ^ k * 2 ^ b = pow-add 2 k b in
    let d : 2 ^ k * 2 ^ b ≡ (2 ^ k - 1 - a / 2 ^ b + 1 + a / 2 ^ b) * 2 ^ b = ap (λ (n : ℕ). n * 2 ^ b) (omega arith) in
    let e : 2 ^ (k + b) - 1 - a ≡ (2 ^ k - 1 - a / 2 ^ b) * 2 ^ b + (2 ^ b - 1 - a % 2 ^ b) = omega (arith, div-add-mod' a (2 ^ b)) in
    ap (λ (n : ℕ). n / 2 ^ b) e ∙ high (2 ^ k - 1 - a / 2 ^ b) b (omega arith)

sign_shifted : (size a b : ℕ) → b < 8 * size → a < 256 ^ size
    → int_sright size a b ≡ a / 2 ^ b + cond (negative (signed size a)) (2 ^ (8 * size) - 2 ^ (8 * size - b)) 0
unfolding int_sright wrap negative
sign_shifted size a b h ha = rw (lt-ltb b (8 * size) h) (by (ltb (2 * a) (256 ^ size)) refl)
  where
    by : (t : Bool) → ltb (2 * a) (256 ^ size) ≡ t
        → wrap size (shr_z (signed size a) (2 ^ b)) ≡ a / 2 ^ b + cond (negative (signed size a)) (2 ^ (8 * size) - 2 ^ (8 * size - b)) 0
    by true e = rw (signed_low size a (ltb-true _ _ e)) (mod-eq_of_lt (lt_of_le_of_lt (div-le_self a (2 ^ b)) ha) ∙ omega arith)
    by false e =
        let w : 8 * size ≡ (8 * size - b) + b = omega arith in
        let m : 256 ^ size ≡ 2 ^ ((8 * size - b) + b) = pow_bits size ∙ ap (λ (n : ℕ). 2 ^ n) w in
        let f : (256 ^ size - 1 - a) / 2 ^ b ≡ 2 ^ (8 * size - b) - 1 - a / 2 ^ b =
        rw m (flipped_high (8 * size - b) b a (rw m at ha)) in
        let l : a / 2 ^ b < 2 ^ (8 * size - b) = shr_lt (8 * size - b) b (rw m at ha) in
        let g : 2 ^ (8 * size - b) ≤ 2 ^ (8 * size) = pow_mono {i = 8 * size - b} {j = 8 * size} (omega arith) in
        let q : 256 ^ size ≡ 2 ^ (8 * size) = pow_bits size in
        let r : (2 ^ (8 * size - b) - 1 - a / 2 ^ b) % 256 ^ size ≡ 2 ^ (8 * size - b) - 1 - a / 2 ^ b = mod-eq_of_lt (omega arith) in
        rw (signed_high size a (ltb-false _ _ e) ha, f, r) (omega arith)

unsigned_borrow : (a b : ℕ) → int_less a b ≡ flag (negative (pos a -ℤ pos b))
unfolding int_less negative
unsigned_borrow a b = by (ltb a b) refl
  where
    by : (t : Bool) → ltb a b ≡ t → flag t ≡ flag (negative (pos a -ℤ pos b))
    by true e = rw (sub_neg a b (ltb-true _ _ e))
    by false e = rw (sub_pos a b (ltb-false _ _ e))

-- ---- the laws

pub manual : Manual
unfolding int_add int_sub int2comp int_left int_right int_sright int_mult int_div int_rem int_sdiv int_srem wrap
manual = record {
  bit_count = λ size. (
    sym (popcount_is size 0 (size_pos size)) ∙ ones-ones 0,
    sym (popcount_is size (256 ^ size - 1) (omega (arith, size_pos size))) ∙ rw pow_bits (ones-ones (8 * size)),
  );
  high_bytes = high_bytes;
  sign_fill = sign_fill;
  sum = λ size a b ha hb. simp (wrap-add, wrap-signed);
  difference = λ size a b ha hb. simp (wrap-add, wrap_opposite, wrap-signed, mod-eq_of_lt);
  unsigned_borrow = unsigned_borrow;
  negation = λ size a h.
      let e : 256 ^ size - 1 - a + 1 ≡ 256 ^ size - a = omega arith in
      rw (wrap_opposite, wrap-signed, ← (negate_is size a (256 ^ size - 1) h refl), e);
  shift_by_zero = λ size a hs h.
      let l : ltb 0 (8 * size) ≡ true = lt-ltb 0 (8 * size) (omega arith) in
      (rw (l, mul-one) (mod-eq_of_lt h), rw (l, div-one), rw (l, unshifted) (wrap-signed size a h));
  sign_shifted = sign_shifted;
  product = λ size a b ha hb. simp (wrap-mul, wrap-signed);
  remainder = λ size a b h. rw (mod-add-mod, div-add-mod') (mod-eq_of_lt h);
  signed_remainder = λ size a b ha hb. simp (wrap-add, wrap-mul, wrap-signed) at (ap (wrap size) (divided (signed size a) (signed size b)));
}
