use Rattle.std.proofs.Common.{Some, sym, ap, arith, ◌∙◌}
use Rattle.std.proofs.lemmas.Result.{err_from_is_err_and}
use Rattle.case_reader.specs.Buffers.{case_in}
use Rattle.case_reader.proofs.Feeding.{fits, opened_none, opened_other, opened_bad, opened_case}
use Rattle.case_reader.proofs.buffers.Buffers.open.Goals as goal

pub returns-in_err-settings : goal.returns-in_err-settings
returns-in_err-settings c =
    let p = err_from_is_err_and c.from_residual.result c.from_residual.ensures.1 in
    λ n. rw p.1 (opened_none n _ (sym c.frame_of.ensures.answer ∙ c.in_err-settings.ensures.ok_part))

pub returns-in_default : goal.returns-in_default
returns-in_default c = λ n. opened_other n _ _ (sym c.frame_of.ensures.answer ∙ c.in_ok-settings.ensures.ok_part) c.in_default.not-Opening

pub returns-then-not-lengths_fit : goal.returns-then-not-lengths_fit
returns-then-not-lengths_fit c =
    let e = sym c.frame_of.ensures.answer ∙ c.in_ok-settings.ensures.ok_part ∙ ap Some c.in-Opening.is in
    λ n. opened_bad n _ _ _ _ e (sym c.lengths_fit.ensures ∙ c.if-not-lengths_fit.true)

pub invariant_of-result : goal.invariant_of-result
invariant_of-result c = record { fits = fits _ (sym c.lengths_fit.ensures ∙ c.if-not-lengths_fit.false); few = omega arith }

pub returns : goal.returns
unfolding case_in
returns c =
    let e = sym c.frame_of.ensures.answer ∙ c.in_ok-settings.ensures.ok_part ∙ ap Some c.in-Opening.is in
    λ n. opened_case n _ _ _ _ e (sym c.lengths_fit.ensures ∙ c.if-not-lengths_fit.false) _ _ c.no_bytes.ensures c.no_bytes-2.ensures
