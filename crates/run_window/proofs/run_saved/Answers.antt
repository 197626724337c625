-- `run_window::run_saved` meets its contract.
use native.Mathlib.Omega.{arith}
use Rattle.machine.specs.Program.{program_of}
use Rattle.machine.proofs.MovedCounts.{moved_spaces_none}
use Rattle.machine.proofs.Runs.{run_laws}
use Rattle.run_memory.proofs.Spaces.{same_none, same_still}
use Rattle.run_labelled.proofs.Turning.{within, may_count, counts_on, at_ended, fewer}
use Rattle.run_window.proofs.SavedRun.{saved_begun, may_save, may_run, one_turn, entry_from, saved_on, saved_next}
use Rattle.run_window.proofs.run_saved.Goals as goal

pub loop-executed-init : goal.loop-executed-init
loop-executed-init c =
    let pre = c.requires in
    record {
      same = (same_none, same_none, same_none);
      turns = saved_begun (program_of c.args.settings _) _ _ _ _ _ _ _ (λ j. (c.shared_slice_known-1.given j).fits)
          (pre.0, pre.1, pre.2, pre.3, pre.4, pre.5, pre.6);
      counts = moved_spaces_none _ _;
    }

pub save-requires : goal.save-requires
save-requires c = rw (c.reading.ensures.same, c.reading-in-loop-executed.ensures.same) (may_save c.loop-executed.invariant.turns)

pub run_any-done-requires : goal.run_any-done-requires
run_any-done-requires c =
    let inv = c.loop-executed.invariant in
    let t = may_run inv.turns in
    (t.0, t.1, t.2, t.3, t.4, may_count (run_laws _) inv.turns.turning inv.counts (λ q. c.requires.7))

pub overflow_add-executed : goal.overflow_add-executed
overflow_add-executed c =
    let g = c.loop-executed.invariant.turns in
    let h = within (run_laws _) g.turning 1 (one_turn g) _ _ _ _ c.run_any-done.ensures.outcome in
    omega (arith, c.ranges.window)

pub returns-then-not-done-executed-clause-outcome : goal.returns-then-not-done-executed-clause-outcome
returns-then-not-done-executed-clause-outcome c =
    let g = c.loop-executed.invariant.turns in
    rw c.run_report.ensures
    (at_ended (run_laws _) g.turning 1 (one_turn g) _ _ _ _ c.run_any-done.ensures.outcome c.if-not-done-executed.true)

pub returns-then-not-done-executed-clause-saved : goal.returns-then-not-done-executed-clause-saved
returns-then-not-done-executed-clause-saved c =
    let g = c.loop-executed.invariant.turns in
    rw c.run_report.ensures
    (saved_on g c.reading.ensures.bytes c.reading-in-loop-executed.ensures.bytes _ (entry_from (program_of c.args.settings _) _ _ _ c.reading-in-loop-executed.ensures.same c.reading.ensures.same c.save.ensures)
    _ _ _ _ c.run_any-done.ensures.outcome)

pub returns-then-not-done-executed-clause-counts : goal.returns-then-not-done-executed-clause-counts
returns-then-not-done-executed-clause-counts c =
    counts_on (run_laws _) c.loop-executed.invariant.turns.turning c.loop-executed.invariant.counts c.run_any-done.ensures.counts

pub loop-executed-smaller : goal.loop-executed-smaller
loop-executed-smaller c =
    let g = c.loop-executed.invariant.turns in
    fewer (run_laws _) g.turning 1 (one_turn g) _ _ _ _ c.run_any-done.ensures.outcome c.if-not-done-executed.false

pub loop-executed-preserved : goal.loop-executed-preserved
loop-executed-preserved c =
    let inv = c.loop-executed.invariant in
    let same = c.run_any-done.ensures.same in
    record {
      same = (same_still inv.same.0 same.0, same_still inv.same.1 same.1, same_still inv.same.2 same.2);
      turns = saved_next inv.turns c.reading.ensures.bytes c.reading-in-loop-executed.ensures.bytes _
          (entry_from (program_of c.args.settings _) _ _ _ c.reading-in-loop-executed.ensures.same c.reading.ensures.same c.save.ensures) _ _ _ _ c.run_any-done.ensures.outcome
          c.if-not-done-executed.false;
      counts = counts_on (run_laws _) inv.turns.turning inv.counts c.run_any-done.ensures.counts;
    }
