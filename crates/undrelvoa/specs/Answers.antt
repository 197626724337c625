-- The words that the calls of the C interface write, other than a run's.
use Rattle.std.specs.Prelude.{ℕ, cond, List, [], ◌∷◌, eqb, length}
use Rattle.operation.specs.Rules.{length_of}
use Rattle.validation.specs.Verdict.{verdict}
use Rattle.show.specs.Show.{showable}
use Rattle.undrelvoa.specs.Buffers.{report_words, settings_in}

-- The words of a verdict.
unfoldable pub verdict_words : (settings : List ℕ) (unique register ram : ℕ) → List ℕ → List ℕ
verdict_words settings unique register ram list =
    report_words (verdict (settings_in settings) (record { unique = unique; register = register; ram = ram }) list)

-- How many bytes are shown. `length_of` gives 0 for a number that is no space with bytes, so nothing is showable there.
unfoldable pub shown_length : (unique register ram : List ℕ) (space offset size : ℕ) → ℕ
shown_length unique register ram space offset size =
    cond (showable (length_of (record { unique = length unique; register = length register; ram = length ram }) space) offset size) size 0

-- Space, offset and number of bytes of the part that is shown; zeros where it is empty.
unfoldable pub place_words : (unique register ram : List ℕ) (space offset size : ℕ) → List ℕ
place_words unique register ram space offset size =
    cond (eqb (shown_length unique register ram space offset size) 0) (0 ∷ 0 ∷ 0 ∷ [])
    (space ∷ offset ∷ shown_length unique register ram space offset size ∷ [])
