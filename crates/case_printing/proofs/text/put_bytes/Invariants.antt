-- `case_printing::text::put_bytes` meets its contract. The loop's invariant: the digits of the bytes passed are put.
use Rattle.std.proofs.Common.{get_or}
use Rattle.case_printing.specs.Appended.{Appended}
use Rattle.case_hexadecimal.specs.Digits.{byte_digits}
use Rattle.case_printing.specs.Text.{concatenated, hex_text}
use Rattle.case_printing.proofs.text.put_bytes.Given as goal

abbrev pub invariant-loop-byte : goal.invariant-loop-byte
invariant-loop-byte g l = Appended l.initial.out.items (concatenated l.byte-index (λ i. hex_text byte_digits (get_or l.bytes i 0))) l.out.items
