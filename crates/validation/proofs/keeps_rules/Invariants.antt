-- The loop's invariant: no place passed breaks rule 22, and the flags say whether one breaks 23 or 24.
use mathlib.Core.Bool.{false}
use mathlib.Core.Path.{◌≡◌}
use Rattle.operation.specs.Layout.{opcode_at, varnode_at}
use Rattle.operation.specs.Rules.{breaks_shape_at, breaks_place, breaks_range}
use Rattle.validation.specs.Verdict.{any_below}
use Rattle.validation.proofs.keeps_rules.Given as goal

abbrev pub invariant-loop-place : goal.invariant-loop-place
invariant-loop-place l =
    (any_below l.place (breaks_shape_at l.list l.i) ≡ false)
    × (l.misplaced ≡ any_below l.place (λ p. breaks_place (opcode_at l.list l.i) p (varnode_at l.list l.i p)))
    × (l.outside ≡ any_below l.place (λ p. breaks_range l.lengths (opcode_at l.list l.i) p (varnode_at l.list l.i p)))
