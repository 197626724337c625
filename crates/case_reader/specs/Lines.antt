-- The lines of a text: a frame on each, and a newline after it.
use Rattle.std.specs.Prelude.{ℕ, ◌+◌, ◌-◌, ◌^◌, cond, List, [], ◌∷◌, ◌++◌, eqb, ltb}
use Rattle.case_reader.specs.Case.{Progress, after_line}

-- The code of a newline.
abbrev pub newline : ℕ
newline = 10

-- The lines of a text without their newlines; `begun` is what stands before the text on its first line.
unfoldable pub lines_of : (begun text : List ℕ) → List (List ℕ)
lines_of q [] = []
lines_of q (b ∷ s) = cond (eqb b newline) (q ∷ lines_of [] s) (lines_of (q ++ (b ∷ [])) s)

-- What follows the last newline.
unfoldable pub rest_of : (begun text : List ℕ) → List ℕ
rest_of q [] = q
rest_of q (b ∷ s) = cond (eqb b newline) (rest_of [] s) (rest_of (q ++ (b ∷ [])) s)

-- How many lines were read, and what they say.
pub record LinesRead : Type 0 where
  pub count : ℕ
  pub progress : Progress

-- Lines are numbered from 1. The count is a 64-bit number, and stays at the largest.
unfoldable pub next_number : ℕ → ℕ
next_number n = cond (ltb n (2 ^ 64 - 1)) (n + 1) n

-- Before the first line.
unfoldable pub no_line : LinesRead
no_line = record { count = 0; progress = Progress.nothing }

-- One line more.
unfoldable pub line_read : LinesRead → (line : List ℕ) → LinesRead
line_read r s = record { count = next_number r.count; progress = after_line (next_number r.count) s r.progress }

-- The reading of a text is a fold over its lines.
unfoldable pub lines_read : LinesRead → List (List ℕ) → LinesRead
lines_read r [] = r
lines_read r (s ∷ ss) = lines_read (line_read r s) ss
