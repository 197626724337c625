-- `run_speculative::speculate_from` meets its contract.
use Rattle.std.proofs.Common.{sym, refl, ◌∙◌, arith}
use Rattle.speculation.proofs.Runs.{speculate_laws}
use Rattle.run_memory.proofs.Spaces.{same_still}
use Rattle.run_labelled.proofs.Turning.{within, may_count, counts_on, at_ended, fewer}
use Rattle.run_speculative.proofs.Turns.{may_speculate, spared_on, speculating_next}
use Rattle.run_speculative.proofs.speculate_from.Goals as goal

pub speculate_at-done-requires : goal.speculate_at-done-requires
speculate_at-done-requires c =
    let inv = c.loop-executed.invariant in
    let t = may_speculate inv.speculating _ c.turn-most.ensures in
    (t.0, t.1, t.2, t.3, t.4, t.5, t.6, may_count (speculate_laws _ _) inv.speculating.turning inv.counts (λ q. c.requires.5) refl)

pub overflow_add-executed : goal.overflow_add-executed
overflow_add-executed c =
    let h = within (speculate_laws _ _) c.loop-executed.invariant.speculating.turning _ c.turn-most.ensures _ _ _ _ c.speculate_at-done.ensures.outcome in
    omega (arith, c.ranges.budget)

pub returns-then-not-done-executed-clause-outcome : goal.returns-then-not-done-executed-clause-outcome
returns-then-not-done-executed-clause-outcome c =
    rw c.run_report.ensures
    (at_ended (speculate_laws _ _) c.loop-executed.invariant.speculating.turning _ c.turn-most.ensures _ _ _ _ c.speculate_at-done.ensures.outcome
    c.if-not-done-executed.true)

pub returns-then-not-done-executed-clause-journal : goal.returns-then-not-done-executed-clause-journal
returns-then-not-done-executed-clause-journal c =
    spared_on c.loop-executed.invariant.speculating _ c.turn-most.ensures _ c.speculate_at-done.ensures.journal

pub returns-then-not-done-executed-clause-counts : goal.returns-then-not-done-executed-clause-counts
returns-then-not-done-executed-clause-counts c =
    let inv = c.loop-executed.invariant in
    counts_on (speculate_laws _ _) inv.speculating.turning inv.counts c.speculate_at-done.ensures.counts

pub loop-executed-smaller : goal.loop-executed-smaller
loop-executed-smaller c =
    fewer (speculate_laws _ _) c.loop-executed.invariant.speculating.turning _ c.turn-most.ensures _ _ _ _ c.speculate_at-done.ensures.outcome
    c.if-not-done-executed.false

pub loop-executed-preserved : goal.loop-executed-preserved
loop-executed-preserved c =
    let inv = c.loop-executed.invariant in
    let done = c.speculate_at-done.ensures in
    record {
      same = (same_still inv.same.0 done.same.0, same_still inv.same.1 done.same.1, same_still inv.same.2 done.same.2);
      speculating = speculating_next inv.speculating _ c.turn-most.ensures _ done.journal _ _ _ _ done.outcome
          c.if-not-done-executed.false;
      counts = counts_on (speculate_laws _ _) inv.speculating.turning inv.counts done.counts;
    }
