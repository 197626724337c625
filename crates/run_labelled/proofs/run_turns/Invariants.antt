-- `run_labelled::run_turns` meets its contract.
use Prim.Native.Nat.{◌-◌}
use Rattle.secret_counts.specs.Moved.{low_bit}
use Rattle.machine.specs.Program.{program_of}
use Rattle.machine.specs.Lent.{lent, SameBuffers}
use Rattle.machine.specs.Run.{run}
use Rattle.machine.specs.MovedCounts.{MovedSpaces}
use Rattle.run_labelled.proofs.Turning.{Turning}
use Rattle.run_labelled.proofs.run_turns.Given as goal

-- what is left to do from here is the whole run, and the counts moved with the labels
abbrev pub invariant-loop-executed : goal.invariant-loop-executed
invariant-loop-executed l = record {
  same : SameBuffers l.initial.memory l.memory × SameBuffers l.initial.labels l.labels × SameBuffers l.initial.counts l.counts;
  turning : Turning l.labelled l.labelled (program_of l.settings l.list) (run (program_of l.settings l.list)) l.budget l.start l.from l.initial.log
      (lent l.initial.labels) (lent l.initial.memory) l.i l.executed l.k l.log (lent l.labels) (lent l.memory);
  counts : MovedSpaces low_bit (lent l.initial.labels) (lent l.labels) (lent l.initial.counts) (lent l.counts);
}

abbrev pub decreases-loop-executed : goal.decreases-loop-executed
decreases-loop-executed l = l.budget - l.executed
