-- `runs::labelled_run` meets its contract.
use native.Mathlib.Omega.{arith}
use mathlib.Core.Path.{◌∙◌, refl}
use Rattle.machine.specs.Lent.{lent}
use Rattle.validation.specs.Verdict.{refusal_report}
use Rattle.runs.proofs.Accepted.{refused_ending, counted_found, counted_refused, counted_accepted, counted_ran}
use Rattle.runs.proofs.labelled_run.Goals as goal

pub returns-in-Err-clause-promise : goal.returns-in-Err-clause-promise
unfolding refusal_report
returns-in-Err-clause-promise c =
    let found = counted_found c.args.settings c.args.list.now c.args.start (lent c.args.counts.now) c.reading-marks.ensures.same c.reading-bytes.ensures.same
    (c.into.ensures ∙ c.in-Err.ensures) c.counts_fit-fitting.ensures c.lengths_of.ensures c.words_of.ensures in
    counted_refused _ _ _ _ _ (lent c.args.labels.now) (lent c.args.memory.now) (lent c.args.counts.now) _ found (refused_ending c.in-Err.refused c.into.ensures)

pub run_any-ran-requires : goal.run_any-ran-requires
unfolding refusal_report
run_any-ran-requires c =
    let found = counted_found c.args.settings c.args.list.now c.args.start (lent c.args.counts.now) c.reading-marks.ensures.same c.reading-bytes.ensures.same
    c.in_default.ensures c.counts_fit-fitting.ensures c.lengths_of.ensures c.words_of.ensures in
    let a = counted_accepted _ _ _ c.args.budget c.args.log.now (lent c.args.labels.now) (lent c.args.memory.now) (lent c.args.counts.now) _ found refl in
    (a.0, a.1, omega arith, a.2, a.4, λ t. a.5)

pub returns-clause-promise : goal.returns-clause-promise
unfolding refusal_report
returns-clause-promise c =
    let found = counted_found c.args.settings c.args.list.now c.args.start (lent c.args.counts.now) c.reading-marks.ensures.same c.reading-bytes.ensures.same
    c.in_default.ensures c.counts_fit-fitting.ensures c.lengths_of.ensures c.words_of.ensures in
    counted_ran _ _ _ _ _ (lent c.args.labels.now) (lent c.args.memory.now) (lent c.args.counts.now) _ found refl _ _ _ _ _
    c.run_any-ran.ensures.outcome c.run_any-ran.ensures.counts c.are_words.ensures c.are_words-2.ensures
