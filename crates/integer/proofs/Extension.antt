-- INT_SEXT byte by byte: the bytes of input0, and above them its sign bit in each bit.
use Rattle.std.proofs.Common.{◌≡◌, ℕ, ◌+◌, ◌-◌, ◌*◌, ◌/◌, ◌^◌, ◌<◌, ◌≤◌, Bool, true, false, cond, ltb, refl, ap, ◌∙◌, div-lt_iff_lt-mul, le-div_iff_mul-le, arith, ltb-false, ltb-true, le-ltb, lt-ltb}
use lib.Pow.{high_ones}
use Rattle.word.specs.Sum.{digit}
use Rattle.word.proofs.Powers.{pow_bits, size_pos, size_less}
use Rattle.word.proofs.Shifts.{digit_past, digit_top, digit_joined, digit_ones}
use Rattle.integer.specs.Integers.{signed, negative}
use Rattle.integer.specs.Operations.{int_sext}
use Rattle.integer.proofs.TwosComplement.{signed_low, signed_high}
use Rattle.integer.proofs.Manual.{manual}

module _ (size size0 a : ℕ) (some : 1 ≤ size0) (larger : size0 < size) (below : a < 256 ^ size0) where
  -- what the top byte counts
  abbrev p : ℕ
  p = 256 ^ (size0 - 1)

  top_is : digit 256 a (size0 - 1) ≡ a / p
  top_is = digit_top size0 a some below

  -- input0 is not negative where the top byte is below 128
  top_low : 2 * a < 256 ^ size0 → ltb (digit 256 a (size0 - 1)) 128 ≡ true
  top_low h = rw top_is (lt-ltb _ _ ((div-lt_iff_lt-mul (size_pos (size0 - 1))).1 (omega (arith, size_less size0 some))))

  top_high : 256 ^ size0 ≤ 2 * a → ltb (digit 256 a (size0 - 1)) 128 ≡ false
  top_high h = rw top_is (le-ltb _ _ ((le-div_iff_mul-le (size_pos (size0 - 1))).1 (omega (arith, size_less size0 some))))

  -- the fill of a negative one
  ones : 256 ^ size - 256 ^ size0 ≡ (256 ^ (size - size0) - 1) * 256 ^ size0
  ones =
      let e : 8 * size ≡ 8 * (size - size0) + 8 * size0 = omega arith in
      rw (pow_bits size, pow_bits size0, pow_bits (size - size0), e) (high_ones (8 * (size - size0)) (8 * size0))

  pub sext_digit : (k : ℕ) → k < size
      → digit 256 (int_sext size size0 a) k ≡ cond (ltb k size0) (digit 256 a k) (cond (ltb (digit 256 a (size0 - 1)) 128) 0 255)
  unfolding negative
  sext_digit k h = rw (manual.sign_fill size size0 a (omega arith) below) (by (ltb (2 * a) (256 ^ size0)) refl (ltb k size0) refl)
    where
      filled : ℕ
      filled = a + cond (negative (signed size0 a)) (256 ^ size - 256 ^ size0) 0

      low : 2 * a < 256 ^ size0 → filled ≡ a
      low e = rw (signed_low size0 a e) (omega arith)

      high : 256 ^ size0 ≤ 2 * a → filled ≡ (256 ^ (size - size0) - 1) * 256 ^ size0 + a
      high e = rw (signed_high size0 a e below, ones) (omega arith)

      by : (t : Bool) → ltb (2 * a) (256 ^ size0) ≡ t → (u : Bool) → ltb k size0 ≡ u
          → digit 256 filled k ≡ cond u (digit 256 a k) (cond (ltb (digit 256 a (size0 - 1)) 128) 0 255)
      by true e true q = ap (λ (x : ℕ). digit 256 x k) (low (ltb-true _ _ e))
      by true e false q =
          ap (λ (x : ℕ). digit 256 x k) (low (ltb-true _ _ e)) ∙ digit_past size0 a k below (ltb-false k size0 q) ∙ rw (top_low (ltb-true _ _ e)) refl
      by false e u q =
          ap (λ (x : ℕ). digit 256 x k) (high (ltb-false _ _ e)) ∙ digit_joined size0 (256 ^ (size - size0) - 1) a below k ∙ rw (q, top_high (ltb-false _ _ e)) (ones_above u q)
        where
          ones_above : (u : Bool) → ltb k size0 ≡ u → cond u (digit 256 a k) (digit 256 (256 ^ (size - size0) - 1) (k - size0)) ≡ cond u (digit 256 a k) 255
          ones_above true q = refl
          ones_above false q = digit_ones (size - size0) (k - size0) (omega (arith, ltb-false k size0 q))
