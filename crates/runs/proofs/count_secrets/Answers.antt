-- `runs::count_secrets` meets its contract.
use mathlib.Core.Path.{◌∙◌, refl}
use Rattle.machine.specs.Memory.{lengths_of}
use Rattle.machine.specs.Lent.{held, lent}
use Rattle.validation.specs.Verdict.{refusal_report}
use Rattle.runs.proofs.Accepted.{refused_ending, filling_found, may_fill, filled_all, filled_none}
use Rattle.runs.proofs.count_secrets.Goals as goal

pub fill-requires : goal.fill-requires
unfolding refusal_report
fill-requires c =
    let found = filling_found (held c.args.labels) (lent c.args.counts.now) _ _ c.in_default.ensures c.words_of.ensures in
    (may_fill (held c.args.labels) (lent c.args.counts.now) _ found refl).0

pub fill-requires-2 : goal.fill-requires-2
unfolding refusal_report
fill-requires-2 c =
    let found = filling_found (held c.args.labels) (lent c.args.counts.now) _ _ c.in_default.ensures c.words_of.ensures in
    (may_fill (held c.args.labels) (lent c.args.counts.now) _ found refl).1

pub fill-requires-3 : goal.fill-requires-3
unfolding refusal_report
fill-requires-3 c =
    let found = filling_found (held c.args.labels) (lent c.args.counts.now) _ _ c.in_default.ensures c.words_of.ensures in
    (may_fill (held c.args.labels) (lent c.args.counts.now) _ found refl).2

pub returns-clause-promise : goal.returns-clause-promise
unfolding refusal_report
returns-clause-promise c =
    let found = filling_found (held c.args.labels) (lent c.args.counts.now) _ _ c.in_default.ensures c.words_of.ensures in
    rw c.refusal_report.ensures (filled_all (held c.args.labels) (lent c.args.counts.now) _ found refl _ _ _ c.fill.ensures c.fill-2.ensures c.fill-3.ensures)

pub returns-in-Err-clause-promise : goal.returns-in-Err-clause-promise
unfolding refusal_report
returns-in-Err-clause-promise c =
    let found = filling_found (held c.args.labels) (lent c.args.counts.now) _ _ (c.into.ensures ∙ c.in-Err.ensures) c.words_of.ensures in
    filled_none (held c.args.labels) (lent c.args.counts.now) _ found (refused_ending c.in-Err.refused c.into.ensures)
