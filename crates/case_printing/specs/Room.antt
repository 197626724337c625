-- A bound on what a text prints.
use Rattle.std.specs.Prelude.{ℕ, ◌+◌, ◌*◌}
use Rattle.case_reader.specs.Limits.{most_case_bytes, log_words}
use Rattle.case_printing.specs.Text.{report_text_length, word_line_length, dump_length, bytes_per_line, line_count}

-- The most characters of a space.
abbrev pub space_text_room : ℕ
space_text_room = dump_length bytes_per_line * line_count most_case_bytes

-- The most characters of memory, or of its labels: three spaces.
abbrev pub memory_text_room : ℕ
memory_text_room = 3 * space_text_room

-- The most characters of an output: a report, the log, memory and labels.
abbrev pub output_room : ℕ
output_room = report_text_length + word_line_length * log_words + 2 * memory_text_room
