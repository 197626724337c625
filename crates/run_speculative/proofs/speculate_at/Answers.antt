-- `run_speculative::speculate_at` meets its contract.
use Rattle.std.proofs.Common.{sym, refl, ap, ◌∙◌}
use Rattle.machine.specs.Calls.{Outcome}
use Rattle.run_memory.proofs.Spaces.{same_still, same_lengths}
use Rattle.run_window.specs.Windows.{window_outcome}
use Rattle.run_window.proofs.GivenBack.{still_fit}
use Rattle.run_speculative.proofs.Turn.{ran_from, may_test, alone, may_look, some_window, may_open, answered, past_window}
use Rattle.run_speculative.proofs.speculate_at.Goals as goal

pub opens_window-requires : goal.opens_window-requires
opens_window-requires c =
    may_test (ran_from c.args.settings c.args.window (λ j. (c.shared_slice_known-1.given j).fits) c.reading-bytes.ensures.bytes c.requires
    c.run_any-done.ensures.outcome)

pub returns-then-not-opens_window-clause-outcome : goal.returns-then-not-opens_window-clause-outcome
returns-then-not-opens_window-clause-outcome c =
    let g =
    ran_from c.args.settings c.args.window (λ j. (c.shared_slice_known-1.given j).fits) c.reading-bytes.ensures.bytes c.requires
    c.run_any-done.ensures.outcome in
    alone g (sym c.opens_window.ensures ∙ c.if-not-opens_window.true)

pub returns-then-not-opens_window-clause-journal : goal.returns-then-not-opens_window-clause-journal
returns-then-not-opens_window-clause-journal c = record { same_length = refl; further = refl }

pub returns-then-not-opens_window-clause-counts : goal.returns-then-not-opens_window-clause-counts
returns-then-not-opens_window-clause-counts c = c.run_any-done.ensures.counts

pub other_index-other-requires : goal.other_index-other-requires
other_index-other-requires c =
    let g =
    ran_from c.args.settings c.args.window (λ j. (c.shared_slice_known-1.given j).fits) c.reading-bytes.ensures.bytes c.requires
    c.run_any-done.ensures.outcome in
    may_look g (sym c.opens_window.ensures ∙ c.if-not-opens_window.false)

pub open_window-went-requires : goal.open_window-went-requires
open_window-went-requires c =
    let g =
    ran_from c.args.settings c.args.window (λ j. (c.shared_slice_known-1.given j).fits) c.reading-bytes.ensures.bytes c.requires
    c.run_any-done.ensures.outcome in
    let opened = sym c.opens_window.ensures ∙ c.if-not-opens_window.false in
    let may = may_open g opened in
    let pre = c.requires in
    let fit = still_fit (same_lengths c.run_any-done.ensures.same.1) c.run_any-done.ensures.counts pre.7 in
    (may.0, rw c.other_index-other.ensures may.1, may.2, may.3, pre.4, some_window g opened, pre.6, fit)

pub returns-clause-outcome : goal.returns-clause-outcome
unfolding window_outcome
returns-clause-outcome c =
    let g =
    ran_from c.args.settings c.args.window (λ j. (c.shared_slice_known-1.given j).fits) c.reading-bytes.ensures.bytes c.requires
    c.run_any-done.ensures.outcome in
    answered g (sym c.opens_window.ensures ∙ c.if-not-opens_window.false) _ c.other_index-other.ensures _ _ _ _ c.open_window-went.ensures.outcome _
    c.answer_after.ensures

pub returns-clause-journal : goal.returns-clause-journal
returns-clause-journal c = c.open_window-went.ensures.journal

pub returns-clause-counts : goal.returns-clause-counts
unfolding window_outcome
returns-clause-counts c =
    past_window (ap (λ (o : Outcome). o.labels) c.open_window-went.ensures.outcome) c.open_window-went.ensures.counts c.run_any-done.ensures.counts
