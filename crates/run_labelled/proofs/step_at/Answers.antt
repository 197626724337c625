-- `run_labelled::step_at` meets its contract.
use Rattle.machine.specs.Program.{program_of}
use Rattle.machine.proofs.MovedCounts.{moved_spaces_none}
use Rattle.run_labelled.proofs.OneTurn.{leaked_turn, may_mark, completes-labelled, turned}
use Rattle.run_labelled.proofs.step_at.Goals as goal

pub returns-then-leak-clause-outcome : goal.returns-then-leak-clause-outcome
returns-then-leak-clause-outcome c =
    let pre = c.requires in
    leaked_turn _ (program_of c.args.settings _) _ _ _ _ _ _ (λ j. (c.shared_slice_known-1.given j).fits) c.reading-bytes.ensures.bytes
    pre.0 pre.2 pre.3 pre.4 _ c.leaks_within-leak.ensures c.if-leak.true _ c.run_report.ensures

pub returns-then-leak-clause-counts : goal.returns-then-leak-clause-counts
returns-then-leak-clause-counts c = moved_spaces_none _ _

pub mark_after-requires : goal.mark_after-requires
mark_after-requires c =
    let pre = c.requires in
    λ t. (
      may_mark _ (program_of c.args.settings _) _ _ _ _ _ _ (λ j. (c.shared_slice_known-1.given j).fits) c.reading-bytes.ensures.bytes
          pre.0 pre.2 pre.3 pre.4 _ c.leaks_within-leak.ensures c.if-leak.false _ _ _ c.run_from-done.ensures.outcome
          _ c.completes-completed.ensures t,
      pre.6 (completes-labelled _ _ _ _ c.completes-completed.ensures t),
    )

pub returns-clause-outcome : goal.returns-clause-outcome
returns-clause-outcome c =
    let pre = c.requires in
    turned _ (program_of c.args.settings _) _ _ _ _ _ _ (λ j. (c.shared_slice_known-1.given j).fits) c.reading-bytes.ensures.bytes
    pre.0 pre.2 pre.3 pre.4 _ c.leaks_within-leak.ensures c.if-leak.false _ _ _ c.run_from-done.ensures.outcome
    _ c.completes-completed.ensures _ c.mark_after.ensures.labels

pub returns-clause-counts : goal.returns-clause-counts
returns-clause-counts c = c.mark_after.ensures.counts
