-- `case_printing::text::put_hex` meets its contract. The loop's invariant: the digits from the highest down to digit k are put.
use Rattle.std.proofs.Common.{◌-◌, ◌*◌, ◌/◌, ◌^◌}
use Rattle.case_printing.specs.Appended.{Appended}
use Rattle.case_printing.specs.Text.{hex_text}
use Rattle.case_printing.proofs.text.put_hex.Given as goal

abbrev pub invariant-loop-k : goal.invariant-loop-k
invariant-loop-k g l = Appended l.initial.out.items (hex_text (l.digits - l.k) (l.n / 2 ^ (4 * l.k))) l.out.items
