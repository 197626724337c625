-- Well-formedness is not vacuous: every opcode has a well-formed operation.
use Rattle.std.specs.Prelude.{ℕ, ◌+◌, ◌*◌, ◌^◌, ◌≤◌, cond, List, [], ◌∷◌, ◌≡◌, replicate}
use Rattle.std.proofs.lemmas.List.Edits.{sets}
use Rattle.arithmetic.specs.Opcodes.{last_opcode, has_place, member}
use Rattle.operation.specs.Layout.{all_one, words_per_operation}
use Rattle.operation.specs.Rules.{accesses}
use Rattle.validation.specs.Verdict.{verdict}

-- The output is in register: two bytes of PIECE and the extensions, else one. The inputs are constants of one byte.
unfoldable pub output_descriptor : (opcode : ℕ) → ℕ
output_descriptor opcode = cond (member opcode (10 ∷ 19 ∷ 20 ∷ [])) 0x32 0x31

-- A place's part of the head, if the opcode has a varnode there.
unfoldable pub part_of_head : (opcode place descriptor : ℕ) → ℕ
part_of_head opcode place descriptor = cond (has_place opcode place) (descriptor * 256 ^ (place + 1)) 0

-- An operation of an opcode: all offsets are 0, but LOAD and STORE name space 3.
unfoldable pub example : (opcode : ℕ) → List ℕ
example opcode =
    sets (replicate words_per_operation 0) 0
    ((opcode + part_of_head opcode 0 (output_descriptor opcode) + part_of_head opcode 1 0x11 + part_of_head opcode 2 0x11 + part_of_head opcode 3 0x11)
    ∷ 0 ∷ cond (accesses opcode) 3 0 ∷ [])

-- The verdict on it alone is 0, with address size 1, wordsizes 1 and a register space of two bytes.
abbrev pub Inhabited : Type 0
Inhabited = (opcode : ℕ) → 1 ≤ opcode → opcode ≤ last_opcode
    → (verdict (record { order = 0; address_size = 1; wordsizes = all_one }) (record { unique = 0; register = 2; ram = 0 }) (example opcode)).ending ≡ 0
