-- `runs::speculative_run` meets its contract.
use mathlib.Core.Path.{◌∙◌, refl}
use Rattle.machine.specs.Lent.{lent}
use Rattle.speculation.specs.Speculation.{journal_words}
use Rattle.validation.specs.Verdict.{refusal_report}
use Rattle.runs.proofs.Accepted.{refused_ending, counted_found_ahead, counted_refused_ahead, counted_accepted_ahead, counted_ran_ahead}
use Rattle.runs.proofs.speculative_run.Goals as goal

pub returns-in-Err-clause-promise : goal.returns-in-Err-clause-promise
unfolding refusal_report
returns-in-Err-clause-promise c =
    let found = counted_found_ahead c.args.settings c.args.list.now c.args.start c.args.window c.args.journal.now (lent c.args.counts.now)
    c.reading-marks.ensures.same c.reading-bytes.ensures.same (c.into.ensures ∙ c.in-Err.ensures) c.counts_fit-fitting.ensures
    c.lengths_of.ensures c.words_of.ensures in
    counted_refused_ahead _ _ _ _ _ _ _ (lent c.args.labels.now) (lent c.args.memory.now) (lent c.args.counts.now) _ found
    (refused_ending c.in-Err.refused c.into.ensures)

pub speculate_from-ran-requires : goal.speculate_from-ran-requires
unfolding refusal_report
speculate_from-ran-requires c =
    let found = counted_found_ahead c.args.settings c.args.list.now c.args.start c.args.window c.args.journal.now (lent c.args.counts.now)
    c.reading-marks.ensures.same c.reading-bytes.ensures.same c.in_default.ensures c.counts_fit-fitting.ensures
    c.lengths_of.ensures c.words_of.ensures in
    let a = counted_accepted_ahead _ _ _ c.args.budget _ c.args.log.now _ (lent c.args.labels.now) (lent c.args.memory.now) (lent c.args.counts.now) _ found refl in
    (a.0, a.1, a.2, a.3, a.4, a.5)

pub clear-requires : goal.clear-requires
unfolding journal_words refusal_report
clear-requires c =
    let found = counted_found_ahead c.args.settings c.args.list.now c.args.start c.args.window c.args.journal.now (lent c.args.counts.now)
    c.reading-marks.ensures.same c.reading-bytes.ensures.same c.in_default.ensures c.counts_fit-fitting.ensures
    c.lengths_of.ensures c.words_of.ensures in
    rw c.speculate_from-ran.ensures.journal.same_length
    (counted_accepted_ahead _ _ _ c.args.budget _ c.args.log.now _ (lent c.args.labels.now) (lent c.args.memory.now) (lent c.args.counts.now) _ found refl).4

pub returns-clause-promise : goal.returns-clause-promise
unfolding refusal_report
returns-clause-promise c =
    let found = counted_found_ahead c.args.settings c.args.list.now c.args.start c.args.window c.args.journal.now (lent c.args.counts.now)
    c.reading-marks.ensures.same c.reading-bytes.ensures.same c.in_default.ensures c.counts_fit-fitting.ensures
    c.lengths_of.ensures c.words_of.ensures in
    counted_ran_ahead _ _ _ _ _ _ _ (lent c.args.labels.now) (lent c.args.memory.now) (lent c.args.counts.now) _ found refl _ _ _ _ _ _ _
    c.speculate_from-ran.ensures.outcome c.speculate_from-ran.ensures.journal c.clear.ensures c.speculate_from-ran.ensures.counts
    c.are_words.ensures c.are_words-2.ensures
