-- What a reader promises of a text that comes in parts.
use Rattle.std.specs.Prelude.{ℕ, ◌≡◌, List, [], ◌++◌, take}
use Rattle.case_reader.specs.Limits.{line_room}
use Rattle.case_reader.specs.Buffers.{progress_in}
use Rattle.case_reader.specs.Lines.{lines_of, rest_of, no_line, lines_read}
use Rattle.case_reader.specs.declared.line.Stage.{Stage}
use Rattle.case_reader.specs.declared.stream.Reader.{Reader}

-- What the definition says of a text: as much of the unfinished line as there is room for, how many lines were read, and what they say.
pub record Says (text line : List ℕ) (number : ℕ) (stage : Stage) : Type 0 where
  pub rest : line ≡ take line_room (rest_of [] text)
  pub lines : (record { count = number; progress = progress_in stage }) ≡ lines_read no_line (lines_of [] text)

-- The reader holds what the definition says of a text.
abbrev pub HasRead : (text : List ℕ) → Reader → Type 0
HasRead text r = Says text (take r.line.used r.line.bytes) r.number r.stage

-- A part of a text takes the reader from what came before to the longer text.
abbrev pub Advanced : (part : List ℕ) → (before after : Reader) → Type 0
Advanced part before after = (text : List ℕ) → HasRead text before → HasRead (text ++ part) after
