-- The opcodes, a row for each: its outputs and inputs, and the sentence of rule 25 that its sizes obey. CALL, CALLIND and RETURN take
-- only input0, as raw p-code does.
use Rattle.std.specs.Prelude.{ℕ, Bool, false, cond, ◌||◌, List, [], ◌∷◌, eqb, leb}

-- The inputs that an operation can have.
abbrev pub most_inputs : ℕ
most_inputs = 3

-- The integer operations, whose values the arithmetic computes: the first,
abbrev pub first_integer : ℕ
first_integer = 10

-- and the last.
abbrev pub last_integer : ℕ
last_integer = 42

-- The last opcode.
abbrev pub last_opcode : ℕ
last_opcode = last_integer

-- The sentences of rule 25 SIZE; `agree` of Operands says what each asks.
pub data Sizes : Type 0 where
  kept equal compared extended boolean negated joined pointer indirect condition free none : Sizes

-- Opcode, outputs, inputs, sentence.
unfoldable pub opcodes : List (ℕ × ℕ × ℕ × Sizes)
opcodes =
    (1, 1, 1, kept)  -- COPY
    ∷ (2, 1, 2, pointer)  -- LOAD
    ∷ (3, 0, 3, pointer)  -- STORE
    ∷ (4, 0, 1, free)  -- BRANCH
    ∷ (5, 0, 2, condition)  -- CBRANCH
    ∷ (6, 0, 1, indirect)  -- BRANCHIND
    ∷ (7, 0, 1, free)  -- CALL
    ∷ (8, 0, 1, indirect)  -- CALLIND
    ∷ (9, 0, 1, indirect)  -- RETURN
    ∷ (10, 1, 2, joined)  -- PIECE
    ∷ (11, 1, 2, free)  -- SUBPIECE
    ∷ (12, 1, 1, free)  -- POPCOUNT
    ∷ (13, 1, 2, compared)  -- INT_EQUAL
    ∷ (14, 1, 2, compared)  -- INT_NOTEQUAL
    ∷ (15, 1, 2, compared)  -- INT_LESS
    ∷ (16, 1, 2, compared)  -- INT_SLESS
    ∷ (17, 1, 2, compared)  -- INT_LESSEQUAL
    ∷ (18, 1, 2, compared)  -- INT_SLESSEQUAL
    ∷ (19, 1, 1, extended)  -- INT_ZEXT
    ∷ (20, 1, 1, extended)  -- INT_SEXT
    ∷ (21, 1, 2, equal)  -- INT_ADD
    ∷ (22, 1, 2, equal)  -- INT_SUB
    ∷ (23, 1, 2, compared)  -- INT_CARRY
    ∷ (24, 1, 2, compared)  -- INT_SCARRY
    ∷ (25, 1, 2, compared)  -- INT_SBORROW
    ∷ (26, 1, 1, kept)  -- INT_2COMP
    ∷ (27, 1, 1, kept)  -- INT_NEGATE
    ∷ (28, 1, 2, equal)  -- INT_XOR
    ∷ (29, 1, 2, equal)  -- INT_AND
    ∷ (30, 1, 2, equal)  -- INT_OR
    ∷ (31, 1, 2, kept)  -- INT_LEFT
    ∷ (32, 1, 2, kept)  -- INT_RIGHT
    ∷ (33, 1, 2, kept)  -- INT_SRIGHT
    ∷ (34, 1, 2, equal)  -- INT_MULT
    ∷ (35, 1, 2, equal)  -- INT_DIV
    ∷ (36, 1, 2, equal)  -- INT_REM
    ∷ (37, 1, 2, equal)  -- INT_SDIV
    ∷ (38, 1, 2, equal)  -- INT_SREM
    ∷ (39, 1, 1, negated)  -- BOOL_NEGATE
    ∷ (40, 1, 2, boolean)  -- BOOL_XOR
    ∷ (41, 1, 2, boolean)  -- BOOL_AND
    ∷ (42, 1, 2, boolean)  -- BOOL_OR
    ∷ []

-- The row of an opcode; a number that is no opcode has no varnodes.
unfoldable pub row_of : ℕ → List (ℕ × ℕ × ℕ × Sizes) → ℕ × ℕ × ℕ × Sizes
row_of opcode [] = (opcode, 0, 0, none)
row_of opcode (row ∷ rows) = cond (eqb opcode row.0) row (row_of opcode rows)

-- How many outputs an operation has, 0 or 1.
unfoldable pub outputs : (opcode : ℕ) → ℕ
outputs opcode = (row_of opcode opcodes).1

-- How many inputs it has.
unfoldable pub inputs : (opcode : ℕ) → ℕ
inputs opcode = (row_of opcode opcodes).2

-- The sentence of rule 25 on its sizes.
unfoldable pub sizes_of : (opcode : ℕ) → Sizes
sizes_of opcode = (row_of opcode opcodes).3

-- An operation has a varnode at a place: 0 is the output's, 1 and the following are the inputs'.
unfoldable pub has_place : (opcode place : ℕ) → Bool
has_place opcode place = cond (eqb place 0) (leb 1 (outputs opcode)) (leb place (inputs opcode))

-- A number is one of a list.
unfoldable pub member : ℕ → List ℕ → Bool
member n [] = false
member n (m ∷ ms) = eqb n m || member n ms
