-- The frame that a line of a case stands for. The line is without its newline.
use Rattle.std.specs.Prelude.{ℕ, ◌+◌, ◌-◌, ◌*◌, ◌/◌, ◌%◌, max, Option, None, Some, Bool, cond, ◌&&◌, ◌||◌, List, [], ◌∷◌, ◌≡◌, length, leb, eqb}
use Rattle.word.specs.Sum.{tabulate}
use Rattle.operation.specs.Layout.{words_per_operation}
use Rattle.case_hexadecimal.specs.Digits.{byte_digits, number_digits, word_digits, all_digits, number_at}
use Rattle.case_frame.specs.declared.Target.{Target}
use Rattle.case_frame.specs.declared.Frame.{Frame}
use Rattle.case_frame.specs.declared.Frame.TheVariants.{Opening, Bytes, Operation}

-- ---- where the parts of a frame lie, behind its kind

-- 01: the byte order.
abbrev pub order_column : ℕ
order_column = byte_digits

-- 01: A.
abbrev pub address_size_column : ℕ
address_size_column = order_column + byte_digits

-- 01: the length of unique.
abbrev pub unique_column : ℕ
unique_column = address_size_column + byte_digits

-- 01: the length of register.
abbrev pub register_column : ℕ
register_column = unique_column + number_digits

-- 01: the length of ram.
abbrev pub ram_column : ℕ
ram_column = register_column + number_digits

-- 01: the budget.
abbrev pub budget_column : ℕ
budget_column = ram_column + number_digits

-- 01: the wordsize of unique.
abbrev pub unique_wordsize_column : ℕ
unique_wordsize_column = budget_column + number_digits

-- 01: the wordsize of register.
abbrev pub register_wordsize_column : ℕ
register_wordsize_column = unique_wordsize_column + byte_digits

-- 01: the wordsize of ram.
abbrev pub ram_wordsize_column : ℕ
ram_wordsize_column = register_wordsize_column + byte_digits

-- The digits of an 01 line.
abbrev pub opening_length : ℕ
opening_length = ram_wordsize_column + byte_digits

-- 02 and 03: the space.
abbrev pub space_column : ℕ
space_column = byte_digits

-- 02 and 03: the offset.
abbrev pub offset_column : ℕ
offset_column = space_column + byte_digits

-- 02 and 03: the bytes or labels.
abbrev pub bytes_column : ℕ
bytes_column = offset_column + number_digits

-- The most bytes or labels of a line.
abbrev pub most_frame_bytes : ℕ
most_frame_bytes = 32

-- The digits of a line with n bytes or labels.
abbrev pub bytes_length : (n : ℕ) → ℕ
bytes_length n = bytes_column + byte_digits * n

-- 04: the words.
abbrev pub words_column : ℕ
words_column = byte_digits

-- The digits of an 04 line.
abbrev pub operation_length : ℕ
operation_length = words_column + word_digits * words_per_operation

-- The digits of the longest line that is a frame.
abbrev pub longest_frame : ℕ
longest_frame = max operation_length (bytes_length most_frame_bytes)

-- ---- the frames; a line that is none of them has no frame

-- 01: byte order, A (2 digits each), lengths of unique, register, ram and budget (8 each), wordsizes of unique, register, ram (2 each).
unfoldable pub opening_of : (line : List ℕ) → Option Frame
opening_of s =
    cond (eqb (length s) opening_length)
    (Some (Opening
    (record {
      order = number_at s order_column byte_digits;
      address_size = number_at s address_size_column byte_digits;
      wordsizes = record { unique = number_at s unique_wordsize_column byte_digits; register = number_at s register_wordsize_column byte_digits; ram = number_at s ram_wordsize_column byte_digits };
    })
    (record { unique = number_at s unique_column number_digits; register = number_at s register_column number_digits; ram = number_at s ram_column number_digits })
    (number_at s budget_column number_digits)))
    None

-- 02: space, offset (8), 1 to 32 bytes; 03: the same with labels.
unfoldable pub bytes_frame_of : Target → (line : List ℕ) → Option Frame
bytes_frame_of target s =
    cond (leb (bytes_length 1) (length s) && leb (length s) (bytes_length most_frame_bytes) && eqb (length s % byte_digits) 0)
    (Some (Bytes target (number_at s space_column byte_digits) (number_at s offset_column number_digits) ((length s - bytes_column) / byte_digits)))
    None

-- The bytes or labels of such a line, of which it has n.
unfoldable pub bytes_on : (n : ℕ) → (line : List ℕ) → List ℕ
bytes_on n s = tabulate n (λ i. number_at s (bytes_length i) byte_digits)

-- 04: the words of an operation, 16 digits each.
unfoldable pub operation_of : (line : List ℕ) → Option Frame
operation_of s = cond (eqb (length s) operation_length) (Some Operation) None

-- The words of such a line.
unfoldable pub words_on : (line : List ℕ) → List ℕ
words_on s = tabulate words_per_operation (λ k. number_at s (words_column + word_digits * k) word_digits)

-- The frame's kind is its first two digits.
unfoldable pub frame_by : (kind : ℕ) → (line : List ℕ) → Option Frame
frame_by kind s =
    cond (eqb kind 1) (opening_of s)
    (cond (eqb kind 2) (bytes_frame_of Target.Memory s)
    (cond (eqb kind 3) (bytes_frame_of Target.Labels s)
    (cond (eqb kind 4) (operation_of s) None)))

-- Any other line, and one with a character that is no digit, is bad.
unfoldable pub frame_of : (line : List ℕ) → Option Frame
frame_of s = cond (leb byte_digits (length s) && all_digits s) (frame_by (number_at s 0 byte_digits) s) None

-- ---- the numbers of a frame

-- What each answer says in numbers: the frame's number, 0 for a bad line, then its values in the order of the line; of 02 and 03 then
-- how many bytes or labels.
unfoldable pub numbers_of : Option Frame → List ℕ
numbers_of (Some (Opening settings lengths budget)) =
    1 ∷ settings.order ∷ settings.address_size ∷ lengths.unique ∷ lengths.register ∷ lengths.ram ∷ budget
    ∷ settings.wordsizes.unique ∷ settings.wordsizes.register ∷ settings.wordsizes.ram ∷ []
numbers_of (Some (Bytes Target.Memory space offset count)) = 2 ∷ space ∷ offset ∷ count ∷ []
numbers_of (Some (Bytes Target.Labels space offset count)) = 3 ∷ space ∷ offset ∷ count ∷ []
numbers_of (Some Operation) = 4 ∷ []
numbers_of None = 0 ∷ []

-- Whether a frame of a kind can have this many digits. Digits and columns are written as numbers from here on, so that a slip in those
-- named above shows.
unfoldable pub length_allowed : (kind digits : ℕ) → Bool
length_allowed kind n =
    cond (eqb kind 1) (eqb n 44)
    (cond (eqb kind 2 || eqb kind 3) (leb 14 n && leb n 76 && eqb (n % 2) 0)
    (eqb kind 4 && eqb n 82))

-- The values on a line of a kind.
unfoldable pub values_on : (kind : ℕ) → (line : List ℕ) → List ℕ
values_on kind s =
    cond (eqb kind 1)
    (number_at s 2 2 ∷ number_at s 4 2 ∷ number_at s 6 8 ∷ number_at s 14 8 ∷ number_at s 22 8 ∷ number_at s 30 8
    ∷ number_at s 38 2 ∷ number_at s 40 2 ∷ number_at s 42 2 ∷ [])
    (cond (eqb kind 2 || eqb kind 3) (number_at s 2 2 ∷ number_at s 4 8 ∷ ((length s - 12) / 2) ∷ []) [])

-- The numbers on a line: those of its frame, or 0 alone.
unfoldable pub numbers_on : (line : List ℕ) → List ℕ
numbers_on s =
    cond (leb 2 (length s) && all_digits s && length_allowed (number_at s 0 2) (length s)) (number_at s 0 2 ∷ values_on (number_at s 0 2) s) (0 ∷ [])

-- The frame of a line says what stands on the line.
abbrev pub FramesNumbered : Type 0
FramesNumbered = (line : List ℕ) → numbers_of (frame_of line) ≡ numbers_on line
