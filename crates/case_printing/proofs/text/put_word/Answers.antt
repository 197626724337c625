-- `case_printing::text::put_word` meets its contract.
use Rattle.case_printing.specs.Text.{word_line}
use Rattle.case_printing.proofs.Appending.{then_one}
use Rattle.case_printing.proofs.text.put_word.Goals as goal

pub returns : goal.returns
unfolding word_line
returns g c = then_one c.put_hex.ensures.appended _ c.push.ensures.items
