use mathlib.Core.Path.{sym, ◌∙◌}
use native.Mathlib.Omega.{arith}
use Rattle.operation.specs.Layout.{operation_count}
use Rattle.operation.proofs.Numbers.{positive}
use Rattle.validation.proofs.Walk.{first_skip, left_at, left_at_end}
use Rattle.validation.proofs.first_malformed.Goals as goal

pub keeps_rules-requires : goal.keeps_rules-requires
unfolding operation_count
keeps_rules-requires c = omega arith

pub returns-in-Err : goal.returns-in-Err
returns-in-Err c =
    let a = c.args in
    left_at a.address_size a.lengths a.list.now _ c.loop-i.invariant _ c.in-Err.ensures (positive c.in-Err.why) (omega (arith, c.operation_count-i-end.ensures))

pub loop-i-preserved : goal.loop-i-preserved
loop-i-preserved c =
    sym (first_skip _ _ c.loop-i.i (omega (arith, c.operation_count-i-end.ensures)) (sym c.in_default.ensures)) ∙ c.loop-i.invariant

pub returns : goal.returns
returns c =
    let a = c.args in
    left_at_end a.address_size a.lengths a.list.now _ c.loop-i.invariant (omega (arith, c.operation_count-i-end.ensures))
