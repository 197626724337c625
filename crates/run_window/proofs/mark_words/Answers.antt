use native.Mathlib.Omega.{arith}
use Rattle.speculation.specs.Window.{window_mark}
use Rattle.run_window.proofs.Marks.{marking_none, marking_all, marking_fits, marking_more}
use Rattle.run_window.proofs.mark_words.Goals as goal

pub loop-k-init : goal.loop-k-init
loop-k-init c = marking_none _ _ _ c.requires.0

pub overflow_add-log : goal.overflow_add-log
unfolding window_mark
overflow_add-log c =
    omega (arith, marking_fits c.loop-k.invariant c.loop-k-test.true c.requires.2)

pub loop-k-preserved : goal.loop-k-preserved
unfolding window_mark
loop-k-preserved c = marking_more c.loop-k.invariant c.loop-k-test.true

pub returns : goal.returns
returns c = marking_all c.loop-k.invariant c.loop-k-test.false
