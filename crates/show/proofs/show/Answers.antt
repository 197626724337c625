-- `show::show` meets its contract.
use mathlib.Core.Path.{◌∙◌}
use Rattle.std.proofs.Common.{arith, ◌≢◌}
use borrow.Author.Tests.{ne_eqb}
use Rattle.show.specs.Show.{shown}
use Rattle.show.proofs.show.Goals as goal

pub returns-in-2 : goal.returns-in-2
unfolding shown
returns-in-2 c = c.shown_in.ensures ∙ simp c.in-2.is

pub returns-in-3 : goal.returns-in-3
unfolding shown
returns-in-3 c = c.shown_in-in-3.ensures ∙ simp c.in-3.is

pub returns-in-4 : goal.returns-in-4
unfolding shown
returns-in-4 c = c.shown_in-in-4.ensures ∙ simp c.in-4.is

pub returns-in_default : goal.returns-in_default
unfolding shown
returns-in_default c =
    let a : c.args.v.space ≢ 2 = omega arith in
    let b : c.args.v.space ≢ 3 = omega arith in
    let d : c.args.v.space ≢ 4 = omega arith in
    simp (ne_eqb _ 2 a, ne_eqb _ 3 b, ne_eqb _ 4 d)
