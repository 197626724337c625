-- `case_printing::text::put_report` meets its contract: five fields, one behind the other.
use Rattle.case_printing.specs.Outcome.{report_line}
use Rattle.case_printing.specs.Text.{report_text}
use Rattle.case_printing.proofs.Appending.{then}
use Rattle.case_printing.proofs.text.put_report.Goals as goal

pub returns-clause-appended : goal.returns-clause-appended
unfolding report_line report_text
returns-clause-appended g c =
    then (then (then (then c.put_field.ensures.appended c.put_field-2.ensures.appended) c.put_field-3.ensures.appended) c.put_field-4.ensures.appended)
    c.put_field-5.ensures.appended
