-- `case_printing::text::put_line` meets its contract.
use Rattle.case_printing.specs.Text.{dump_line}
use Rattle.case_printing.proofs.Appending.{then, then_one}
use Rattle.case_printing.proofs.text.put_line.Goals as goal

pub returns : goal.returns
unfolding dump_line
returns g c =
    then_one (then (then (then c.put_hex.ensures.appended c.put_hex-2.ensures.appended) c.put_hex-3.ensures.appended) c.put_bytes.ensures.appended)
    _ c.push.ensures.items
