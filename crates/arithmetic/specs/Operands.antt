-- Which operands the opcodes take: rule 25, and what an operation's value is asked of.
use Rattle.std.specs.Prelude.{ℕ, ◌+◌, ◌^◌, ◌≤◌, ◌<◌, ◌≡◌, Bool, true, false, ◌&&◌, eqb, ltb, leb}
use Rattle.arithmetic.specs.Opcodes.{Sizes, kept, equal, compared, extended, boolean, negated, joined, pointer, indirect, condition, free, none, sizes_of}

-- INT_DIV 35, INT_REM 36, INT_SDIV 37, INT_SREM 38.
unfoldable pub divides : (opcode : ℕ) → Bool
divides opcode = leb 35 opcode && leb opcode 38

-- Rule 25 SIZE, a sentence for each kind of opcode; size is the output's, size0 and size1 are the inputs', A is the address size.
unfoldable pub agree : Sizes → (address_size size size0 size1 : ℕ) → Bool
-- COPY, INT_2COMP, INT_NEGATE and shifts: input0 = output.
agree kept A size size0 size1 = eqb size0 size
-- Addition, subtraction, multiplication, divisions, remainders, INT_XOR, INT_AND, INT_OR: all three equal.
agree equal A size size0 size1 = eqb size0 size && eqb size1 size
-- Comparisons and the three carries: inputs equal, output 1.
agree compared A size size0 size1 = eqb size1 size0 && eqb size 1
-- Extensions: output larger than input0.
agree extended A size size0 size1 = ltb size0 size
-- BOOL: all 1; BOOL_NEGATE has no input1.
agree boolean A size size0 size1 = eqb size0 1 && eqb size1 1 && eqb size 1
agree negated A size size0 size1 = eqb size0 1 && eqb size 1
-- PIECE: inputs add up to output.
agree joined A size size0 size1 = eqb (size0 + size1) size
-- Pointer of LOAD and STORE: A.
agree pointer A size size0 size1 = eqb size1 A
-- Input0 of BRANCHIND, CALLIND, RETURN: A.
agree indirect A size size0 size1 = eqb size0 A
-- Condition: 1.
agree condition A size size0 size1 = eqb size1 1
-- SUBPIECE, POPCOUNT, and destinations of BRANCH and CALL: free.
agree free A size size0 size1 = true
-- A number that is no opcode has no sizes that agree.
agree none A size size0 size1 = false

-- Rule 25 of an opcode.
unfoldable pub sizes_agree : (address_size opcode size size0 size1 : ℕ) → Bool
sizes_agree A opcode size size0 size1 = agree (sizes_of opcode) A size size0 size1

-- The operands of which an operation's value is asked (that of an opcode below the integer operations is 0, and nobody asks for it): sizes of 1 to 8 bytes that rule 25 allows together, each value below 256^size,
-- and no divisor of 0. No integer operation looks at the address size, so it may be any. Whether input1 is present is rule 22, and not
-- asked here: one that is not looked at may be anything.
pub record Operands (opcode size size0 size1 a b : ℕ) : Type 0 where
  pub some : 1 ≤ size
  pub most : size ≤ 8
  pub some0 : 1 ≤ size0
  pub most0 : size0 ≤ 8
  pub most1 : size1 ≤ 8
  pub below0 : a < 256 ^ size0
  pub below1 : b < 256 ^ size1
  pub address_size : ℕ
  pub sizes : sizes_agree address_size opcode size size0 size1 ≡ true
  pub divisor : divides opcode ≡ true → 0 < b
