-- `run_journal::stored_at` meets its contract.
use mathlib.Core.Path.{ap, ◌∙◌}
use native.Mathlib.Omega.{arith}
use mathlib.Core.Bool.{not}
use Rattle.operation.specs.Spaces.{Lengths}
use Rattle.operation.specs.Rules.{length_of}
use Rattle.machine.specs.Effect.{operation_at}
use Rattle.run_plan.proofs.Places.{in_words}
use Rattle.run_plan.proofs.Pointers.{may_multiply}
use Rattle.run_journal.proofs.Targets.{at_pointer, pointer_placed, stored_outside, stored_inside}
use Rattle.run_journal.proofs.stored_at.Goals as goal

pub varnode_at-input0-requires : goal.varnode_at-input0-requires
varnode_at-input0-requires c =
    let pre = c.requires in
    (in_words _ _ pre.0 _ pre.1, omega arith)

pub varnode_at-input1-requires : goal.varnode_at-input1-requires
varnode_at-input1-requires c =
    let pre = c.requires in
    (in_words _ _ pre.0 _ pre.1, omega arith)

pub varnode_at-input2-requires : goal.varnode_at-input2-requires
varnode_at-input2-requires c =
    let pre = c.requires in
    (in_words _ _ pre.0 _ pre.1, omega arith)

pub value_at-pointer-requires : goal.value_at-pointer-requires
value_at-pointer-requires c =
    let pre = c.requires in
    pointer_placed _ _ _ _ pre.0 pre.1 pre.2 pre.3 _ c.varnode_at-input1.ensures

pub offset_in-offset-requires : goal.offset_in-offset-requires
unfolding operation_at
offset_in-offset-requires c =
    let pre = c.requires in
    let extent = c.length_of-length.ensures ∙ ap (λ (l : Lengths). length_of l c.varnode_at-input0.result.offset) c.lengths_of.ensures in
    may_multiply _ _ _ (at_pointer _ _ _ _ pre.0 pre.1 pre.2 pre.3) _ c.varnode_at-input0.ensures _ extent

pub returns-then-not-within : goal.returns-then-not-within
unfolding operation_at
returns-then-not-within c =
    let pre = c.requires in
    let extent = c.length_of-length.ensures ∙ ap (λ (l : Lengths). length_of l c.varnode_at-input0.result.offset) c.lengths_of.ensures in
    c.absent.ensures
    ∙ stored_outside _ _ _ _ pre.0 pre.1 pre.2 pre.3 _ _ _ c.varnode_at-input0.ensures c.varnode_at-input1.ensures c.varnode_at-input2.ensures
    _ _ _ c.value_at-pointer.ensures extent c.offset_in-offset.ensures _ c.within.ensures (ap not c.if-not-within.true)

pub returns : goal.returns
unfolding operation_at
returns c =
    let pre = c.requires in
    let extent = c.length_of-length.ensures ∙ ap (λ (l : Lengths). length_of l c.varnode_at-input0.result.offset) c.lengths_of.ensures in
    stored_inside _ _ _ _ pre.0 pre.1 pre.2 pre.3 _ _ _ c.varnode_at-input0.ensures c.varnode_at-input1.ensures c.varnode_at-input2.ensures
    _ _ _ c.value_at-pointer.ensures extent c.offset_in-offset.ensures _ c.within.ensures (ap not c.if-not-within.false)
