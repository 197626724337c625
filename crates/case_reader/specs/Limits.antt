-- The limits of a case, and the rooms that follow from them.
use Rattle.std.specs.Prelude.{ℕ, ◌+◌, ◌*◌, ◌/◌, ◌≤◌}
use Rattle.operation.specs.Spaces.{Lengths}
use Rattle.operation.specs.Layout.{words_per_operation}
use Rattle.case_frame.specs.Frames.{longest_frame}

-- At most 512 operations: fewer than a run takes.
abbrev pub most_case_operations : ℕ
most_case_operations = 512

-- At most 4,096 bytes a space: fewer than a run takes.
abbrev pub most_case_bytes : ℕ
most_case_bytes = 4096

-- A log of 1,024 words.
abbrev pub log_words : ℕ
log_words = 1024

-- Start 0.
abbrev pub start_index : ℕ
start_index = 0

-- Room for the counts of secret bytes of a space: a word for each 64 bytes, and the total.
abbrev pub counts_room : ℕ
counts_room = most_case_bytes / 64 + 1

-- Room for the words of the operations.
abbrev pub words_room : ℕ
words_room = words_per_operation * most_case_operations

-- Room for a line: one that fills it is longer than any frame.
abbrev pub line_room : ℕ
line_room = longest_frame + 1

-- No space is longer than a case allows.
pub record Fits (l : Lengths) : Type 0 where
  pub unique : l.unique ≤ most_case_bytes
  pub register : l.register ≤ most_case_bytes
  pub ram : l.ram ≤ most_case_bytes
