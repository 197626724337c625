-- `run_journal::undo` meets its contract.
use Rattle.run_memory.proofs.Spaces.{same_still}
use Rattle.run_journal.specs.Journal.{restored}
use Rattle.run_journal.proofs.Undoing.{undoing_all, bytes_placed, labels_placed, undoing_more}
use Rattle.run_journal.proofs.undo.Goals as goal

pub write-requires : goal.write-requires
write-requires c =
    bytes_placed c.loop-k.invariant.undoing c.requires.0 c.loop-k-test.true _ c.entry_at-entry.ensures

pub mark-requires-clause-placed : goal.mark-requires-clause-placed
mark-requires-clause-placed c =
    (labels_placed c.loop-k.invariant.undoing c.requires.0 c.loop-k-test.true _ c.entry_at-entry.ensures c.requires.1).0

pub mark-requires-clause-counts : goal.mark-requires-clause-counts
mark-requires-clause-counts c =
    (labels_placed c.loop-k.invariant.undoing c.requires.0 c.loop-k-test.true _ c.entry_at-entry.ensures c.requires.1).1

pub loop-k-preserved : goal.loop-k-preserved
unfolding restored
loop-k-preserved c =
    let same = c.loop-k.invariant.same in
    record {
      same = (same_still same.0 c.write.ensures.same, same_still same.1 c.mark.ensures.same.0, same_still same.2 c.mark.ensures.same.1);
      undoing = undoing_more c.loop-k.invariant.undoing c.requires.0 c.loop-k-test.true _ c.entry_at-entry.ensures _ _ _
          c.write.ensures.written c.mark.ensures.marked;
    }

pub returns-clause-memory : goal.returns-clause-memory
returns-clause-memory c = (undoing_all c.loop-k.invariant.undoing c.loop-k-test.false).0

pub returns-clause-labels : goal.returns-clause-labels
returns-clause-labels c = (undoing_all c.loop-k.invariant.undoing c.loop-k-test.false).1
