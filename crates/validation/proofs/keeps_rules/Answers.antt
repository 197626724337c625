use Prim.Native.Nat.{◌+◌}
use mathlib.Core.Bool.{false}
use mathlib.Core.Path.{◌≡◌, sym, ◌∙◌}
use native.Mathlib.Omega.{arith}
use Rattle.arithmetic.specs.Opcodes.{most_inputs}
use Rattle.operation.specs.Decoding.{decoded_at}
use Rattle.operation.specs.Layout.{opcode_at, varnode_at}
use Rattle.operation.specs.Rules.{breaks_shape_at, breaks_place, breaks_range}
use Rattle.validation.proofs.Walk.{any_none, any_grows, at_head, at_shape, at_place, at_range, at_last, none_of, shape_of, varnode_of, same_place, same_range}
use Rattle.validation.proofs.keeps_rules.Goals as goal

pub returns-then-breaks_head : goal.returns-then-breaks_head
returns-then-breaks_head c =
    let a = c.args in
    sym (at_head a.address_size a.lengths a.list.now a.i (sym c.breaks_head.ensures ∙ c.if-breaks_head.true))

pub loop-place-init : goal.loop-place-init
loop-place-init c = (any_none _, sym (any_none _), sym (any_none _))

pub returns-in_default : goal.returns-in_default
unfolding breaks_shape_at decoded_at
returns-in_default c =
    let a = c.args in
    sym
    (at_shape a.address_size a.lengths a.list.now a.i (sym c.breaks_head.ensures ∙ c.if-breaks_head.false)
    c.loop-place.place (omega arith) (none_of _ _ _ (sym c.in_default.ensures)))

pub loop-place-preserved : goal.loop-place-preserved
unfolding varnode_at breaks_shape_at decoded_at
loop-place-preserved c =
    let a = c.args in
    let list = a.list.now in
    let place = c.loop-place.place in
    let inv = c.loop-place.invariant in
    let e = sym c.in-Some.ensures in
    let v = varnode_of _ _ _ _ e in (
      sym (any_grows (breaks_shape_at list a.i) place {m = false} {q = false} (sym inv.0) (sym (shape_of _ _ _ _ e))),
      any_grows (λ p. breaks_place (opcode_at list a.i) p (varnode_at list a.i p)) place inv.1
          (c.breaks_place-misplaced.ensures ∙ same_place place c.opcode_at-opcode.ensures v),
      any_grows (λ p. breaks_range a.lengths (opcode_at list a.i) p (varnode_at list a.i p)) place inv.2
          (c.breaks_range-outside.ensures ∙ same_range a.lengths place c.opcode_at-opcode.ensures v),
    )

pub returns-then-misplaced : goal.returns-then-misplaced
returns-then-misplaced c =
    let a = c.args in
    let inv = c.loop-place.invariant in
    let last : c.loop-place.place ≡ most_inputs + 1 = omega arith in
    let head = sym c.breaks_head.ensures ∙ c.if-breaks_head.false in
    sym (at_place a.address_size a.lengths a.list.now a.i head (rw last at inv.0) (sym (rw last at inv.1) ∙ c.if-misplaced.true))

pub returns-then-outside : goal.returns-then-outside
returns-then-outside c =
    let a = c.args in
    let inv = c.loop-place.invariant in
    let last : c.loop-place.place ≡ most_inputs + 1 = omega arith in
    let head = sym c.breaks_head.ensures ∙ c.if-breaks_head.false in
    sym
    (at_range a.address_size a.lengths a.list.now a.i head (rw last at inv.0)
    (sym (rw last at inv.1) ∙ c.if-misplaced.false) (sym (rw last at inv.2) ∙ c.if-outside.true))

pub returns : goal.returns
returns c =
    let a = c.args in
    let inv = c.loop-place.invariant in
    let last : c.loop-place.place ≡ most_inputs + 1 = omega arith in
    let head = sym c.breaks_head.ensures ∙ c.if-breaks_head.false in
    sym
    (at_last a.address_size a.lengths a.list.now a.i head (rw last at inv.0)
    (sym (rw last at inv.1) ∙ c.if-misplaced.false) _ (sym (rw last at inv.2) ∙ c.if-outside.false) c.keeps_size_and_target.ensures)
