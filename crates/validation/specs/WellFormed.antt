-- What the verdict 0 says of a list, and of each of its operations: a field for each rule, in a form that a run can use.
use Rattle.std.specs.Prelude.{ℕ, ◌+◌, ◌^◌, ◌≤◌, ◌<◌, true, false, List, ◌≡◌, pos}
use Rattle.arithmetic.specs.Opcodes.{most_inputs, last_opcode, has_place}
use Rattle.operation.specs.declared.layout.Settings.{Settings}
use Rattle.operation.specs.Spaces.{Lengths}
use Rattle.operation.specs.Layout.{operation_count, spare_at, opcode_at, absent, varnode_at}
use Rattle.operation.specs.Rules.{branches, breaks_place, length_of, breaks_size, relative_target}
use Rattle.validation.specs.Verdict.{settings_in_range, lengths_in_range, verdict}

-- What the rules say of operation i.
pub record WellFormed (address_size : ℕ) (lengths : Lengths) (list : List ℕ) (i : ℕ) : Type 0 where
  -- 21: an opcode, and no spare byte that is not zero
  pub opcode : (1 ≤ opcode_at list i) × (opcode_at list i ≤ last_opcode)
  pub spare : spare_at list i ≡ 0
  -- 22: a varnode that the opcode has is in a space of 1 to 4, with a size of 1 to 8; any other is absent, with offset 0
  pub present : (place : ℕ) → place ≤ most_inputs → has_place (opcode_at list i) place ≡ true
      → (1 ≤ (varnode_at list i place).space) × ((varnode_at list i place).space ≤ 4)
      × (1 ≤ (varnode_at list i place).size) × ((varnode_at list i place).size ≤ 8)
  pub omitted : (place : ℕ) → place ≤ most_inputs → has_place (opcode_at list i) place ≡ false → varnode_at list i place ≡ absent
  -- 23: every varnode is where it has to be
  pub placed : (place : ℕ) → place ≤ most_inputs → breaks_place (opcode_at list i) place (varnode_at list i place) ≡ false
  -- 24: a varnode of space 2 to 4 is within its space, and a constant below 256^size, but for branch destinations
  pub within : (place : ℕ) → place ≤ most_inputs → (place ≡ 1 → branches (opcode_at list i) ≡ false) → 2 ≤ (varnode_at list i place).space
      → (varnode_at list i place).offset + (varnode_at list i place).size ≤ length_of lengths (varnode_at list i place).space
  pub constant : (place : ℕ) → place ≤ most_inputs → (place ≡ 1 → branches (opcode_at list i) ≡ false) → (varnode_at list i place).space ≡ 1
      → (varnode_at list i place).offset < 256 ^ (varnode_at list i place).size
  -- 25: the sizes are as required
  pub sized : breaks_size address_size (opcode_at list i) (varnode_at list i 0).size (varnode_at list i 1).size (varnode_at list i 2).size ≡ false
  -- 26: a relative target is an index from 0 to n
  pub target : branches (opcode_at list i) ≡ true → (varnode_at list i 1).space ≡ 1
      → (t : ℕ) × (t ≤ operation_count list) × (relative_target i (varnode_at list i 1).offset ≡ pos t)

-- The verdict 0: settings and lengths in range, and every operation well-formed.
abbrev pub VerdictZero : Type 0
VerdictZero = (settings : Settings) (lengths : Lengths) (list : List ℕ) → (verdict settings lengths list).ending ≡ 0
    → (settings_in_range settings ≡ true) × (lengths_in_range lengths list ≡ true)
    × ((i : ℕ) → i < operation_count list → WellFormed settings.address_size lengths list i)
