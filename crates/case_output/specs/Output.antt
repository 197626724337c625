-- From a text to what is printed for it.
use Rattle.std.specs.Prelude.{ℕ, List, [], ◌∷◌}
use Rattle.case_printing.specs.Text.{report_text}
use Rattle.case_reader.specs.Case.{Progress}
use Rattle.case_reader.specs.Lines.{lines_of, rest_of, LinesRead, next_number, no_line, lines_read}
use Rattle.case_printing.specs.Outcome.{outcome_text}
use Rattle.case_run.specs.Run.{outcome}

-- Only one line: 41, the first bad line's number, 0 0 0.
unfoldable pub bad_text : (number : ℕ) → List ℕ
bad_text n = report_text 41 n 0 0 0

-- At the end of the text: what follows the last newline is a bad line, and so is line 1 of a text without lines.
unfoldable pub printed : (rest : List ℕ) → (count : ℕ) → Progress → List ℕ
printed rest n Progress.nothing = bad_text (next_number n)
printed [] n (Progress.reading c) = outcome_text (outcome c)
printed (b ∷ s) n (Progress.reading c) = bad_text (next_number n)
printed rest n (Progress.bad_line k) = bad_text k

-- The same of lines that were read.
unfoldable pub printed_after : (rest : List ℕ) → LinesRead → List ℕ
printed_after rest r = printed rest r.count r.progress

-- What the case program prints for a text.
unfoldable pub output_of : (text : List ℕ) → List ℕ
output_of text = printed_after (rest_of [] text) (lines_read no_line (lines_of [] text))
