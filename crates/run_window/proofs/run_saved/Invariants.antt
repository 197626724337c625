-- `run_window::run_saved` meets its contract.
use Prim.Native.Nat.{◌-◌}
use Rattle.secret_counts.specs.Moved.{low_bit}
use Rattle.machine.specs.Program.{program_of}
use Rattle.machine.specs.Lent.{lent, SameBuffers}
use Rattle.run_window.proofs.SavedRun.{SavedTurns}
use Rattle.machine.specs.MovedCounts.{MovedSpaces}
use Rattle.run_window.proofs.run_saved.Given as goal

-- what is left of the window is the whole window, and the counts moved with the labels
abbrev pub invariant-loop-executed : goal.invariant-loop-executed
invariant-loop-executed l = record {
  same : SameBuffers l.initial.memory l.memory × SameBuffers l.initial.labels l.labels × SameBuffers l.initial.counts l.counts;
  turns : SavedTurns (program_of l.settings l.list) l.window l.start l.from l.initial.log l.initial.journal (lent l.initial.labels) (lent l.initial.memory)
      l.i l.executed l.k l.log l.journal (lent l.labels) (lent l.memory);
  counts : MovedSpaces low_bit (lent l.initial.labels) (lent l.labels) (lent l.initial.counts) (lent l.counts);
}

abbrev pub decreases-loop-executed : goal.decreases-loop-executed
decreases-loop-executed l = l.window - l.executed
