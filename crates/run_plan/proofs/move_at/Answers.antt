-- `run_plan::move_at` meets its contract.
use mathlib.Core.Bool.{not}
use Rattle.std.proofs.Common.{sym, ap, ◌∙◌}
use Rattle.operation.specs.Spaces.{Lengths}
use Rattle.operation.specs.Rules.{length_of}
use Rattle.machine.specs.Program.{program_of}
use Rattle.machine.specs.Effect.{operation_at}
use Rattle.run_memory.proofs.Spaces.{value_read}
use Rattle.run_plan.specs.Plans.{move_plan}
use Rattle.run_plan.proofs.Planning.{code_outside, may_read, code_moves}
use Rattle.run_plan.proofs.Pointers.{may_multiply, product_fits, product_is}
use Rattle.run_plan.proofs.move_at.Goals as goal

pub offset_in-offset-requires : goal.offset_in-offset-requires
unfolding operation_at
offset_in-offset-requires c =
    let input0 = c.varnode_at-input0.ensures in
    let extent = c.length_of-length.ensures ∙ ap (λ (l : Lengths). length_of l c.varnode_at-input0.result.offset) c.lengths_of-lengths.ensures in
    may_multiply _ _ _ c.requires.3 _ input0 _ extent

pub returns-then-not-within : goal.returns-then-not-within
unfolding operation_at
returns-then-not-within c =
    let input0 = c.varnode_at-input0.ensures in
    let extent = c.length_of-length.ensures ∙ ap (λ (l : Lengths). length_of l c.varnode_at-input0.result.offset) c.lengths_of-lengths.ensures in
    let fits = product_fits _ _ _ c.requires.3 _ _ _ _ _ c.opcode_at-loads.ensures c.varnode_at-output.ensures
    input0 c.varnode_at-input2.ensures c.pick-moved.ensures _ _ _ extent c.offset_in-offset.ensures in
    code_outside _ _ _ _ _ _ _ _ c.opcode_at-loads.ensures c.varnode_at-output.ensures
    input0 c.varnode_at-input2.ensures c.pick-moved.ensures c.requires.2 _ extent _ (c.within.ensures ∙ fits)
    (program_of c.args.settings _) _ _ (ap not c.if-not-within.true) c.control.ensures

pub value_at-x-requires : goal.value_at-x-requires
unfolding operation_at
value_at-x-requires c =
    let extent = c.length_of-length.ensures ∙ ap (λ (l : Lengths). length_of l c.varnode_at-input0.result.offset) c.lengths_of-lengths.ensures in
    may_read _ _ _ _ _ _ _ _ c.opcode_at-loads.ensures c.varnode_at-output.ensures
    c.varnode_at-input0.ensures c.varnode_at-input2.ensures c.pick-moved.ensures c.requires.2
    _ extent _ c.within.ensures (ap not c.if-not-within.false) _ c.pick-from.ensures

pub returns : goal.returns
unfolding operation_at
returns c =
    let input0 = c.varnode_at-input0.ensures in
    let program = program_of c.args.settings _ in
    let extent = c.length_of-length.ensures ∙ ap (λ (l : Lengths). length_of l c.varnode_at-input0.result.offset) c.lengths_of-lengths.ensures in
    let is = product_is _ _ _ c.requires.3 _ _ _ _ _ c.opcode_at-loads.ensures c.varnode_at-output.ensures
    input0 c.varnode_at-input2.ensures c.pick-moved.ensures _ _ _ extent c.offset_in-offset.ensures
    (sym c.within.ensures ∙ c.if-not-within.false) in
    code_moves _ _ _ _ _ _ _ _ c.opcode_at-loads.ensures c.varnode_at-output.ensures
    input0 c.varnode_at-input2.ensures c.pick-moved.ensures c.requires.2 _ extent _ c.within.ensures
    (ap not c.if-not-within.false) _ c.pick-from.ensures program _ _ _
    (c.value_at-x.ensures ∙ value_read _ _ _) _ c.pick-to.ensures c.writes.ensures
    ∙ ap (move_plan program _ _ _) is
