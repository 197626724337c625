use Rattle.std.proofs.Common.{rules}
use Rattle.case_printing.specs.Outcome.{report_line}
use Rattle.case_output.specs.Output.{bad_text}
use Rattle.case_output.proofs.put_bad.Goals as goal

pub returns : goal.returns
unfolding bad_text report_line
returns g c = search rules
