-- `show::shown_in` meets its contract.
use mathlib.Core.Path.{sym, ◌∙◌}
use native.Mathlib.Omega.{arith}
use Rattle.show.proofs.Parts.{showable_end, end_less_start}
use Rattle.show.specs.Show.{shown_in}
use Rattle.show.proofs.shown_in.Goals as goal

pub overflow_add-result : goal.overflow_add-result
overflow_add-result c = omega (arith, showable_end _ _ _ (sym c.showable.ensures ∙ c.if-showable.true))

pub slice_bounds-result-end : goal.slice_bounds-result-end
slice_bounds-result-end c = omega (arith, showable_end _ _ _ (sym c.showable.ensures ∙ c.if-showable.true))

pub returns-then-showable : goal.returns-then-showable
unfolding shown_in
returns-then-showable c = simp (sym c.showable.ensures ∙ c.if-showable.true, end_less_start)

pub returns-else-showable : goal.returns-else-showable
unfolding shown_in
returns-else-showable c = simp (sym c.showable.ensures ∙ c.if-showable.false)
