-- `run_taint::source_at` meets its contract.
use mathlib.Core.Path.{◌∙◌}
use Rattle.machine.specs.Effect.{operation_at}
use Rattle.run_plan.proofs.Opcodes.{opcode_is, opcode_is_not}
use Rattle.run_taint.proofs.LabelWords.{source_loaded, source_stored, source_other}
use Rattle.run_taint.proofs.source_at.Goals as goal

pub returns-then-opcode-eq-LOAD : goal.returns-then-opcode-eq-LOAD
unfolding operation_at
returns-then-opcode-eq-LOAD c =
    c.pointee_at.ensures ∙ rw c.varnode_at-output.ensures (source_loaded _ _ (opcode_is 2 c.opcode_at-opcode.ensures c.if-opcode-eq-LOAD.true))

pub returns-then-opcode-eq-STORE : goal.returns-then-opcode-eq-STORE
unfolding operation_at
returns-then-opcode-eq-STORE c =
    c.varnode_at.ensures
    ∙ source_stored _ _ (opcode_is_not 2 c.opcode_at-opcode.ensures c.if-opcode-eq-LOAD.false) (opcode_is 3 c.opcode_at-opcode.ensures c.if-opcode-eq-STORE.true)

pub returns : goal.returns
unfolding operation_at
returns c =
    c.varnode_at-2.ensures
    ∙ source_other _ _ (opcode_is_not 2 c.opcode_at-opcode.ensures c.if-opcode-eq-LOAD.false) (opcode_is_not 3 c.opcode_at-opcode.ensures c.if-opcode-eq-STORE.false)
