-- `run_speculative::answer_after` meets its contract.
use Rattle.run_speculative.proofs.Ways.{answer_ended, answer_goes_on}
use Rattle.run_speculative.proofs.answer_after.Goals as goal

pub returns-in-Some : goal.returns-in-Some
returns-in-Some c = answer_ended _ _ _ _ _ c.in-Some.ensures.0 c.in-Some.ensures.1 (rw c.number.ensures at c.run_report.ensures)

pub returns : goal.returns
returns c = answer_goes_on c.args.i c.args.done c.args.went c.args.done c.in_default.ensures
