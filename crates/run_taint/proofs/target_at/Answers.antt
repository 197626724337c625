-- `run_taint::target_at` meets its contract.
use mathlib.Core.Path.{◌∙◌}
use Rattle.machine.specs.Effect.{operation_at}
use Rattle.run_plan.proofs.Opcodes.{opcode_is, opcode_is_not}
use Rattle.run_taint.proofs.Tainting.{stores, outputs}
use Rattle.run_taint.proofs.target_at.Goals as goal

pub returns-then-opcode_at-eq-STORE : goal.returns-then-opcode_at-eq-STORE
unfolding operation_at
returns-then-opcode_at-eq-STORE c =
    c.pointee_at.ensures ∙ rw c.varnode_at-input2.ensures (stores _ _ (opcode_is 3 c.opcode_at.ensures c.if-opcode_at-eq-STORE.true))

pub returns : goal.returns
unfolding operation_at
returns c =
    c.varnode_at.ensures ∙ outputs _ _ (opcode_is_not 3 c.opcode_at.ensures c.if-opcode_at-eq-STORE.false)
