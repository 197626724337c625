-- `run_journal::undo` meets its contract.
use Rattle.machine.specs.Lent.{lent, SameBuffers}
use Rattle.run_journal.proofs.Undoing.{Undoing}
use Rattle.run_journal.proofs.undo.Given as goal

-- what is left to undo gives the whole
abbrev pub invariant-loop-k : goal.invariant-loop-k
invariant-loop-k l = record {
  same : SameBuffers l.initial.memory l.memory × SameBuffers l.initial.labels l.labels × SameBuffers l.initial.counts l.counts;
  undoing : Undoing l.journal l.n (lent l.initial.labels) (lent l.initial.memory) (lent l.initial.counts) l.k
      (lent l.labels) (lent l.memory) (lent l.counts);
}
