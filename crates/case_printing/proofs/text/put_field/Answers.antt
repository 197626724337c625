-- `case_printing::text::put_field` meets its contract.
use Rattle.std.proofs.Common.{◌≡◌, ◌∙◌, sym, arith, rules}
use Rattle.case_printing.specs.Text.{field_text, decimal_text, most_digits}
use Rattle.case_printing.specs.Appended.{Appended}
use Rattle.case_printing.proofs.Appending.{then_one}
use Rattle.case_printing.proofs.Digits.{decimal_same}
use Rattle.case_printing.proofs.text.put_field.Goals as goal

pub returns-clause-appended : goal.returns-clause-appended
unfolding field_text
returns-clause-appended g c =
    let number : c.as_bytes.result.now ≡ decimal_text most_digits c.args.n =
    c.as_bytes.ensures.value ∙ c.format.ensures.text ∙ sym (decimal_same most_digits c.args.n (omega arith) (omega arith)) in
    let put : Appended c.args.out.now.items (decimal_text most_digits c.args.n) c.try_extend_from_slice.new.self.items =
    record { same = rw (← number) (search rules) } in
    then_one put _ c.push.ensures.items
