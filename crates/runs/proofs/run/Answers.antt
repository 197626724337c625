-- `runs::run` meets its contract.
use native.Mathlib.Omega.{arith}
use mathlib.Core.Path.{refl, sym, ◌∙◌}
use mathlib.Core.Bool.{true≢false}
use Rattle.machine.specs.Calls.{unlabelled, plain_run}
use Rattle.validation.specs.Verdict.{refusal_report}
use Rattle.runs.proofs.Accepted.{refused_ending, plain_found, accepted, leaves_as_lent, leaves_run, none_fit, plain_of}
use Rattle.runs.proofs.run.Goals as goal

pub returns-in-Err-clause-promise : goal.returns-in-Err-clause-promise
unfolding plain_run refusal_report
returns-in-Err-clause-promise c =
    leaves_as_lent _ _ _ _ _ _ _ _ _ (plain_found c.args.settings _ _ c.reading.ensures.same (c.into.ensures ∙ c.in-Err.ensures)) (refused_ending c.in-Err.refused c.into.ensures)

pub run_any-requires : goal.run_any-requires
unfolding unlabelled refusal_report
run_any-requires c =
    let a = accepted _ _ _ _ _ _ _ (plain_found c.args.settings _ _ c.reading.ensures.same c.in_default.ensures) refl in
    (a.0, a.1, omega arith, none_fit, a.4, λ t. absurd (true≢false (sym t)))

pub returns-clause-promise : goal.returns-clause-promise
unfolding plain_run unlabelled refusal_report
returns-clause-promise c =
    let same = c.run_any.ensures.same.1 in
    plain_of _ _ _ _ _ _ _ same.unique.size same.register.size same.ram.size
    (c.run_any.ensures.outcome ∙ leaves_run _ _ _ _ _ _ _ _ _ (plain_found c.args.settings _ _ c.reading.ensures.same c.in_default.ensures) refl)
