-- What the case program prints, as lists of ASCII codes: numbers, a report, a log, and the bytes of a space.
use Rattle.std.specs.Prelude.{ℕ, zero, suc, ◌+◌, ◌-◌, ◌*◌, ◌/◌, ◌%◌, cond, List, [], ◌∷◌, ◌++◌, ltb, length, get_or, take, drop}
use Rattle.operation.specs.Numbers.{report_numbers}
use Rattle.case_hexadecimal.specs.Digits.{byte_digits, number_digits, word_digits}
use Rattle.case_frame.specs.Frames.{bytes_length}
use Rattle.case_reader.specs.Lines.{newline}

-- The code of the character between two numbers of a report.
abbrev pub blank : ℕ
blank = 32

-- f 0, f 1, .. f (n - 1), one behind the other.
unfoldable pub concatenated : ℕ → (ℕ → List ℕ) → List ℕ
concatenated zero f = []
concatenated (suc n) f = concatenated n f ++ f n

-- The character of a digit below 16: 48 is the code of 0, and 97 that of a.
unfoldable pub digit_code : ℕ → ℕ
digit_code d = cond (ltb d 10) (48 + d) (97 + (d - 10))

-- The last k hexadecimal digits of n, the highest first.
unfoldable pub hex_text : (k n : ℕ) → List ℕ
hex_text zero n = []
hex_text (suc k) n = hex_text k (n / 16) ++ (digit_code (n % 16) ∷ [])

-- n in decimal, from its highest digit that is not 0, in at most k digits.
unfoldable pub decimal_text : (k n : ℕ) → List ℕ
decimal_text zero n = []
decimal_text (suc k) n = cond (ltb n 10) (digit_code n ∷ []) (decimal_text k (n / 10) ++ (digit_code (n % 10) ∷ []))

-- The most decimal digits that a 64-bit number has (`decimal_enough` of proofs/Digits.antt).
abbrev pub most_digits : ℕ
most_digits = 20

-- A number of a report, and the character behind it.
unfoldable pub field_text : (n mark : ℕ) → List ℕ
field_text n mark = decimal_text most_digits n ++ (mark ∷ [])

-- The most characters of such a number.
abbrev pub field_length : ℕ
field_length = most_digits + 1

-- A report: five numbers in decimal, with a space between two, and a newline.
unfoldable pub report_text : (a b c d e : ℕ) → List ℕ
report_text a b c d e = field_text a blank ++ field_text b blank ++ field_text c blank ++ field_text d blank ++ field_text e newline

-- The most characters of a report.
abbrev pub report_text_length : ℕ
report_text_length = report_numbers * field_length

-- A log word: 16 digits on a line.
unfoldable pub word_line : ℕ → List ℕ
word_line w = hex_text word_digits w ++ (newline ∷ [])

-- The characters of such a line.
abbrev pub word_line_length : ℕ
word_line_length = word_digits + 1

-- A log: the lines of its words.
unfoldable pub log_text : List ℕ → List ℕ
log_text words = concatenated (length words) (λ i. word_line (get_or words i 0))

-- Bytes: two digits each.
unfoldable pub bytes_text : List ℕ → List ℕ
bytes_text s = concatenated (length s) (λ i. hex_text byte_digits (get_or s i 0))

-- A line of a dump: its kind (02 for bytes, 03 for labels), the space, the offset of its first byte, and the bytes.
unfoldable pub dump_line : (kind space offset : ℕ) → List ℕ → List ℕ
dump_line kind space offset s = hex_text byte_digits kind ++ hex_text byte_digits space ++ hex_text number_digits offset ++ bytes_text s ++ (newline ∷ [])

-- The characters of such a line with n bytes: a frame and a newline.
abbrev pub dump_length : (n : ℕ) → ℕ
dump_length n = bytes_length n + 1

-- The bytes of a space that one line shows; the last may show fewer.
abbrev pub bytes_per_line : ℕ
bytes_per_line = 16

-- The lines of a space of n bytes.
abbrev pub line_count : ℕ → ℕ
line_count n = (n + (bytes_per_line - 1)) / bytes_per_line

-- The bytes of line k of a space.
unfoldable pub line_bytes : (s : List ℕ) (k : ℕ) → List ℕ
line_bytes s k = take bytes_per_line (drop (bytes_per_line * k) s)

-- A space: all its bytes, line by line.
unfoldable pub space_lines : (kind space : ℕ) → List ℕ → List ℕ
space_lines kind space s = concatenated (line_count (length s)) (λ k. dump_line kind space (bytes_per_line * k) (line_bytes s k))
