-- `run_plan::class_of` meets its contract.
use Rattle.std.proofs.Common.{refl, sym, ◌∙◌}
use Rattle.run_plan.proofs.Opcodes.{late_no_access, late_no_branch}
use Rattle.run_plan.proofs.class_of.Goals as goal

pub returns-then-opcode-ge-FIRST_INTEGER : goal.returns-then-opcode-ge-FIRST_INTEGER
returns-then-opcode-ge-FIRST_INTEGER c = rw (late_no_access _ c.if-opcode-ge-FIRST_INTEGER.true, late_no_branch _ c.if-opcode-ge-FIRST_INTEGER.true) refl

pub returns-then-accesses : goal.returns-then-accesses
returns-then-accesses c = rw (sym c.accesses.ensures ∙ c.if-accesses.true) refl
