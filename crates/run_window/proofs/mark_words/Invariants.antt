-- `run_window::mark_words` meets its contract.
use Rattle.run_window.proofs.Marks.{Marking}
use Rattle.run_window.proofs.mark_words.Given as goal

abbrev pub invariant-loop-k : goal.invariant-loop-k
invariant-loop-k l = Marking l.initial.log l.from l.to l.log l.k
