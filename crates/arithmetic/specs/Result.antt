-- The value of an operation's output, by its opcode: a table for each family of operations.
use Rattle.std.specs.Prelude.{ℕ, cond, List, [], ◌∷◌, eqb}
use Rattle.integer.specs.Operations.{piece, subpiece, popcount, int_equal, int_not_equal, int_less, int_sless, int_less_equal, int_sless_equal, int_zext, int_sext, int_add, int_sub}
use Rattle.integer.specs.Operations.{int_carry, int_scarry, int_sborrow, int2comp, int_negate, int_xor, int_and, int_or, int_left, int_right, int_sright, int_mult, int_div, int_rem}
use Rattle.integer.specs.Operations.{int_sdiv, int_srem, bool_negate, bool_xor, bool_and, bool_or}

-- What stands beside a number in a table; 0 where it is not there.
unfoldable pub lookup : ℕ → List (ℕ × ℕ) → ℕ
lookup n [] = 0
lookup n (row ∷ rows) = cond (eqb n row.0) row.1 (lookup n rows)

-- The integer operations.
unfoldable pub integer_results : (size size0 size1 a b : ℕ) → List (ℕ × ℕ)
integer_results size size0 size1 a b =
    (10, piece size1 a b)
    ∷ (11, subpiece size a b)
    ∷ (12, popcount size0 a)
    ∷ (13, int_equal a b)
    ∷ (14, int_not_equal a b)
    ∷ (15, int_less a b)
    ∷ (16, int_sless size0 a b)
    ∷ (17, int_less_equal a b)
    ∷ (18, int_sless_equal size0 a b)
    ∷ (19, int_zext a)
    ∷ (20, int_sext size size0 a)
    ∷ (21, int_add size a b)
    ∷ (22, int_sub size a b)
    ∷ (23, int_carry size0 a b)
    ∷ (24, int_scarry size0 a b)
    ∷ (25, int_sborrow size0 a b)
    ∷ (26, int2comp size a)
    ∷ (27, int_negate size a)
    ∷ (28, int_xor size a b)
    ∷ (29, int_and size a b)
    ∷ (30, int_or size a b)
    ∷ (31, int_left size a b)
    ∷ (32, int_right size a b)
    ∷ (33, int_sright size a b)
    ∷ (34, int_mult size a b)
    ∷ (35, int_div a b)
    ∷ (36, int_rem a b)
    ∷ (37, int_sdiv size a b)
    ∷ (38, int_srem size a b)
    ∷ (39, bool_negate a)
    ∷ (40, bool_xor a b)
    ∷ (41, bool_and a b)
    ∷ (42, bool_or a b)
    ∷ []

-- The value of an opcode, from the tables of all families: `size` bytes of output, inputs of size0 and size1 bytes with the values a and b.
unfoldable pub result_of : (opcode size size0 size1 a b : ℕ) → ℕ
result_of opcode size size0 size1 a b = lookup opcode (integer_results size size0 size1 a b)
