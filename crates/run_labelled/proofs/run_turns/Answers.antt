-- `run_labelled::run_turns` meets its contract.
use native.Mathlib.Omega.{arith}
use Rattle.machine.proofs.Runs.{run_laws}
use Rattle.run_memory.proofs.Spaces.{same_still}
use Rattle.run_labelled.proofs.Turning.{may_turn, within, may_count, counts_on, at_ended, fewer, at_next}
use Rattle.run_labelled.proofs.run_turns.Goals as goal

pub step_at-done-requires : goal.step_at-done-requires
step_at-done-requires c =
    let inv = c.loop-executed.invariant in
    let t = may_turn (run_laws _) inv.turning _ c.turn-most.ensures in
    (t.0, t.1, t.2, t.3, t.4, t.5, may_count (run_laws _) inv.turning inv.counts c.requires.5)

pub overflow_add-executed : goal.overflow_add-executed
overflow_add-executed c =
    let h = within (run_laws _) c.loop-executed.invariant.turning _ c.turn-most.ensures _ _ _ _ c.step_at-done.ensures.outcome in
    omega (arith, c.ranges.budget)

pub returns-then-not-done-executed-clause-outcome : goal.returns-then-not-done-executed-clause-outcome
returns-then-not-done-executed-clause-outcome c =
    rw c.run_report.ensures
    (at_ended (run_laws _) c.loop-executed.invariant.turning _ c.turn-most.ensures _ _ _ _ c.step_at-done.ensures.outcome
    c.if-not-done-executed.true)

pub returns-then-not-done-executed-clause-counts : goal.returns-then-not-done-executed-clause-counts
returns-then-not-done-executed-clause-counts c =
    counts_on (run_laws _) c.loop-executed.invariant.turning c.loop-executed.invariant.counts c.step_at-done.ensures.counts

pub loop-executed-smaller : goal.loop-executed-smaller
loop-executed-smaller c =
    fewer (run_laws _) c.loop-executed.invariant.turning _ c.turn-most.ensures _ _ _ _ c.step_at-done.ensures.outcome
    c.if-not-done-executed.false

pub loop-executed-preserved : goal.loop-executed-preserved
loop-executed-preserved c =
    let inv = c.loop-executed.invariant in
    let same = c.step_at-done.ensures.same in
    record {
      same = (same_still inv.same.0 same.0, same_still inv.same.1 same.1, same_still inv.same.2 same.2);
      turning = at_next (run_laws _) inv.turning _ c.turn-most.ensures _ _ _ _ c.step_at-done.ensures.outcome
          c.if-not-done-executed.false;
      counts = counts_on (run_laws _) inv.turning inv.counts c.step_at-done.ensures.counts;
    }
