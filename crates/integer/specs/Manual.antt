-- Laws of the integer operations beyond what each computes, as a manual of p-code gives them: statements about the definitions.
-- `proofs/Manual.antt` proves them.
use Rattle.std.specs.Prelude.{◌≡◌, ℕ, ◌+◌, ◌-◌, ◌*◌, ◌/◌, ◌%◌, ◌^◌, ◌<◌, ◌≤◌, cond, pos, ◌+ℤ◌, ◌-ℤ◌, ◌*ℤ◌}
use Rattle.integer.specs.Integers.{signed, wrap, negative}
use Rattle.integer.specs.Operations.{flag, subpiece, popcount, int_less, int_sext, int_add, int_sub, int2comp, int_negate, int_left, int_right, int_sright, int_mult, int_div}
use Rattle.integer.specs.Operations.{int_rem, int_sdiv, int_srem}

-- A field for each law.
pub record Manual : Type 0 where
  -- POPCOUNT of 0 is 0; of a value with all bits set it is the number of its bits.
  pub bit_count : (size : ℕ) → (popcount size 0 ≡ 0) × (popcount size (256 ^ size - 1) ≡ 8 * size)
  -- SUBPIECE drops b low bytes, and the high bytes for which the output has no room.
  pub high_bytes : (size a b : ℕ) → subpiece size a b ≡ a % 256 ^ (size + b) / 256 ^ b
  -- INT_SEXT puts bytes above those of input0: zeros, or all ones where input0 is negative.
  pub sign_fill : (size size0 a : ℕ) → size0 ≤ size → a < 256 ^ size0
      → int_sext size size0 a ≡ a + cond (negative (signed size0 a)) (256 ^ size - 256 ^ size0) 0
  -- INT_ADD gives the sum of the signed integers too, cut to the size.
  pub sum : (size a b : ℕ) → a < 256 ^ size → b < 256 ^ size → int_add size a b ≡ wrap size (signed size a +ℤ signed size b)
  -- INT_SUB gives the difference of the signed integers too, cut to the size.
  pub difference : (size a b : ℕ) → a < 256 ^ size → b < 256 ^ size → int_sub size a b ≡ wrap size (signed size a -ℤ signed size b)
  -- INT_LESS tells that a subtraction of unsigned integers overflows: the difference is below 0.
  pub unsigned_borrow : (a b : ℕ) → int_less a b ≡ flag (negative (pos a -ℤ pos b))
  -- INT_2COMP flips every bit of input0 and adds 1.
  pub negation : (size a : ℕ) → a < 256 ^ size → int2comp size a ≡ int_add size (int_negate size a) 1
  -- INT_LEFT, INT_RIGHT and INT_SRIGHT by 0 bits give input0.
  pub shift_by_zero : (size a : ℕ) → 1 ≤ size → a < 256 ^ size → (int_left size a 0 ≡ a) × (int_right size a 0 ≡ a) × (int_sright size a 0 ≡ a)
  -- INT_SRIGHT fills the vacated bits with the sign bit of input0.
  pub sign_shifted : (size a b : ℕ) → b < 8 * size → a < 256 ^ size
      → int_sright size a b ≡ a / 2 ^ b + cond (negative (signed size a)) (2 ^ (8 * size) - 2 ^ (8 * size - b)) 0
  -- INT_MULT gives the product of the signed integers too, cut to the size.
  pub product : (size a b : ℕ) → a < 256 ^ size → b < 256 ^ size → int_mult size a b ≡ wrap size (signed size a *ℤ signed size b)
  -- INT_DIV and INT_REM: quotient times input1 plus remainder is input0, by INT_MULT and INT_ADD.
  pub remainder : (size a b : ℕ) → a < 256 ^ size → int_add size (int_mult size (int_div a b) b) (int_rem a b) ≡ a
  -- INT_SDIV and INT_SREM: the same.
  pub signed_remainder : (size a b : ℕ) → a < 256 ^ size → b < 256 ^ size → int_add size (int_mult size (int_sdiv size a b) b) (int_srem size a b) ≡ a
