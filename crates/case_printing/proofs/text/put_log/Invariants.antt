-- `case_printing::text::put_log` meets its contract. The loop's invariant: the lines of the words passed are put.
use Rattle.std.proofs.Common.{get_or}
use Rattle.case_printing.specs.Appended.{Appended}
use Rattle.case_printing.specs.Text.{concatenated, word_line}
use Rattle.case_printing.proofs.text.put_log.Given as goal

abbrev pub invariant-loop-word : goal.invariant-loop-word
invariant-loop-word g l = Appended l.initial.out.items (concatenated l.word-index (λ i. word_line (get_or l.words i 0))) l.out.items
