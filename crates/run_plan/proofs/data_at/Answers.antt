-- `run_plan::data_at` meets its contract.
use Rattle.machine.specs.Effect.{operation_at}
use Rattle.run_plan.proofs.Planning.{code_jumps, code_copies, code_by_zero, may_compute, code_computes}
use Rattle.run_plan.proofs.data_at.Goals as goal

pub returns-then-jumps : goal.returns-then-jumps
unfolding operation_at
returns-then-jumps c =
    code_jumps _ _ _ _ c.opcode_at-opcode.ensures c.requires.2 _ c.jumps.ensures _ _ c.if-jumps.true c.control.ensures

pub returns-then-opcode-lt-FIRST_INTEGER : goal.returns-then-opcode-lt-FIRST_INTEGER
unfolding operation_at
returns-then-opcode-lt-FIRST_INTEGER c =
    code_copies _ _ _ _ c.opcode_at-opcode.ensures c.requires.2 _ c.jumps.ensures c.if-opcode-lt-FIRST_INTEGER.true c.if-jumps.false
    _ _ _ c.varnode_at-output.ensures c.writes.ensures

pub returns-then-is_division-b : goal.returns-then-is_division-b
unfolding operation_at
returns-then-is_division-b c =
    code_by_zero _ _ _ _ c.opcode_at-opcode.ensures c.requires.2 c.if-opcode-lt-FIRST_INTEGER.false
    _ c.is_division.ensures _ _ c.if-is_division-b.true c.control-then-is_division-b.ensures

pub value-x-requires : goal.value-x-requires
unfolding operation_at
value-x-requires c =
    may_compute _ _ _ _ c.opcode_at-opcode.ensures c.requires.2 c.if-opcode-lt-FIRST_INTEGER.false
    _ c.is_division.ensures c.if-is_division-b.false
    _ _ _ c.varnode_at-output.ensures c.varnode_at-input0.ensures c.varnode_at-input1.ensures

pub returns : goal.returns
unfolding operation_at
returns c =
    code_computes _ _ _ _ c.opcode_at-opcode.ensures c.requires.2 c.if-opcode-lt-FIRST_INTEGER.false
    _ c.is_division.ensures c.if-is_division-b.false
    _ _ _ c.varnode_at-output.ensures c.varnode_at-input0.ensures c.varnode_at-input1.ensures
    _ _ _ c.value-x.ensures c.writes-2.ensures
