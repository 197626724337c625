-- `run_plan::branch_at` meets its contract.
use Rattle.std.proofs.Common.{refl}
use Rattle.machine.specs.Effect.{operation_at}
use Rattle.run_plan.proofs.Planning.{code_skips, code_leaves, code_follows}
use Rattle.run_plan.proofs.branch_at.Goals as goal

pub returns-then-conditional-condition : goal.returns-then-conditional-condition
unfolding operation_at
returns-then-conditional-condition c =
    code_skips _ _ _ _ _ c.opcode_at-conditional.ensures c.varnode_at-input0.ensures c.requires.2 _
    c.if-conditional-condition.true c.control.ensures

pub returns-then-input0-eq-RAM : goal.returns-then-input0-eq-RAM
unfolding operation_at
returns-then-input0-eq-RAM c =
    code_leaves _ _ _ _ _ c.opcode_at-conditional.ensures c.varnode_at-input0.ensures c.requires.2 _
    _ c.then_some-log.ensures c.if-conditional-condition.false c.if-input0-eq-RAM.true c.control-then-input0-eq-RAM.ensures

pub returns : goal.returns
unfolding operation_at
returns c =
    code_follows _ _ _ _ _ c.opcode_at-conditional.ensures c.varnode_at-input0.ensures c.requires.2 _
    _ c.then_some-log.ensures c.if-conditional-condition.false c.if-input0-eq-RAM.false _ refl c.control-2.ensures
