-- Values at the borders, which p-code by itself leaves open: what each is here, as statements about the definitions.
use Rattle.std.specs.Prelude.{◌≡◌, ℕ, ◌+◌, ◌-◌, ◌*◌, ◌/◌, ◌^◌, ◌<◌, ◌≤◌, true, false, ℤ, ◌+ℤ◌, ◌*ℤ◌, unsigned_abs}
use Rattle.integer.specs.Integers.{signed, negative, quotient, remainder}
use Rattle.integer.specs.Operations.{subpiece, int_left, int_right, int_sright, int_sdiv, int_srem, bool_negate, bool_xor, bool_and, bool_or}

-- A field for each of them.
pub record LeftOpen : Type 0 where
  -- A shift by the width or more gives 0;
  pub shift_by_width : (size a b : ℕ) → 8 * size ≤ b → (int_left size a b ≡ 0) × (int_right size a b ≡ 0)
  pub sright_by_width : (size a b : ℕ) → 8 * size ≤ b → negative (signed size a) ≡ false → int_sright size a b ≡ 0
  -- INT_SRIGHT gives all ones for a negative input0.
  pub sright_of_negative : (size a b : ℕ) → 8 * size ≤ b → negative (signed size a) ≡ true → int_sright size a b ≡ 256 ^ size - 1
  -- Signed division truncates towards zero: what is left of p is smaller than q, and on the same side of zero as p;
  pub truncates : (p q : ℤ)
      → (quotient p q *ℤ q +ℤ remainder p q ≡ p) × (0 < unsigned_abs q → unsigned_abs (remainder p q) < unsigned_abs q)
      × (0 < unsigned_abs (remainder p q) → negative (remainder p q) ≡ negative p)
  -- the least value by -1 gives the least value, remainder 0.
  pub least_by_minus_one : (size : ℕ) → 1 ≤ size
      → (int_sdiv size (256 ^ size / 2) (256 ^ size - 1) ≡ 256 ^ size / 2) × (int_srem size (256 ^ size / 2) (256 ^ size - 1) ≡ 0)
  -- SUBPIECE drops input1 low bytes: a number whose low part has b bytes is left with its high part;
  pub drops_low_bytes : (size high low b : ℕ) → high < 256 ^ size → low < 256 ^ b → subpiece size (high * 256 ^ b + low) b ≡ high
  -- missing high bytes are 0.
  pub missing_bytes : (size size0 a b : ℕ) → a < 256 ^ size0 → subpiece size a b < 256 ^ (size0 - b)
  -- In BOOL operations, any non-zero byte is true;
  pub any_nonzero : (a b : ℕ) → 0 < a
      → (bool_negate a ≡ bool_negate 1) × (bool_xor a b ≡ bool_xor 1 b) × (bool_xor b a ≡ bool_xor b 1)
      × (bool_and a b ≡ bool_and 1 b) × (bool_and b a ≡ bool_and b 1) × (bool_or a b ≡ bool_or 1 b) × (bool_or b a ≡ bool_or b 1)
  -- results are 0 or 1.
  pub zero_or_one : (a b : ℕ) → (bool_negate a < 2) × (bool_xor a b < 2) × (bool_and a b < 2) × (bool_or a b < 2)
