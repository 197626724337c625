-- A case, and what each line of its text does to it.
use Rattle.std.specs.Prelude.{ℕ, ◌+◌, Option, None, Some, Bool, cond, ◌&&◌, List, [], ◌++◌, leb, ltb, length, replicate}
use Rattle.std.proofs.lemmas.List.Edits.{sets}
use Rattle.operation.specs.declared.layout.Settings.{Settings}
use Rattle.operation.specs.Spaces.{Lengths}
use Rattle.operation.specs.Layout.{operation_count}
use Rattle.machine.specs.Memory.{Memory, spaces, space_of, with_space}
use Rattle.case_reader.specs.Limits.{most_case_operations, most_case_bytes}
use Rattle.case_frame.specs.Frames.{frame_of, bytes_on, words_on}
use Rattle.case_frame.specs.declared.Target.{Target}
use Rattle.case_frame.specs.declared.Frame.{Frame}
use Rattle.case_frame.specs.declared.Frame.TheVariants.{Opening, Bytes, Operation}

-- What a labelled run is to be given.
pub record Case : Type 0 where
  pub settings : Settings
  pub budget : ℕ
  pub memory : Memory
  pub labels : Memory
  pub list : List ℕ

-- What has been read: no line yet, lines of a case, or the number of the first bad line.
pub data Progress : Type 0 where
  nothing : Progress
  reading : Case → Progress
  bad_line : ℕ → Progress

-- ---- the first line

-- Each space has at most 4,096 bytes.
unfoldable pub lengths_fit : Lengths → Bool
lengths_fit l = leb l.unique most_case_bytes && leb l.register most_case_bytes && leb l.ram most_case_bytes

-- Memory starts as zeros and public; a public byte has the label 0.
unfoldable pub zeros : Lengths → Memory
zeros l = spaces (replicate l.unique 0) (replicate l.register 0) (replicate l.ram 0)

-- The case after its first line.
unfoldable pub opening : Settings → Lengths → (budget : ℕ) → Case
opening settings lengths budget =
    record { settings = settings; budget = budget; memory = zeros lengths; labels = zeros lengths; list = [] }

-- First 01.
unfoldable pub opened : (number : ℕ) → Option Frame → Progress
opened n (Some (Opening settings lengths budget)) = cond (lengths_fit lengths) (reading (opening settings lengths budget)) (bad_line n)
opened n (Some (Bytes target space offset count)) = bad_line n
opened n (Some Operation) = bad_line n
opened n None = bad_line n

-- ---- the other lines

-- All bytes lie in the space; a number not 2 to 4 is no space with bytes. The sum does not wrap.
unfoldable pub in_space : Memory → (space offset count : ℕ) → Bool
in_space m space offset count = leb (offset + count) (length (space_of m space))

-- A memory, or its labels, after bytes are stored at an offset of a space.
unfoldable pub stored : Memory → (space offset : ℕ) → (bytes : List ℕ) → Memory
stored m space offset bytes = with_space m space (sets (space_of m space) offset bytes)

-- A case with another memory.
unfoldable pub with_memory : Case → Memory → Case
with_memory c m = record { settings = c.settings; budget = c.budget; memory = m; labels = c.labels; list = c.list }

-- A case with other labels.
unfoldable pub with_labels : Case → Memory → Case
with_labels c m = record { settings = c.settings; budget = c.budget; memory = c.memory; labels = m; list = c.list }

-- A case with one more operation.
unfoldable pub with_operation : Case → (words : List ℕ) → Case
with_operation c words = record { settings = c.settings; budget = c.budget; memory = c.memory; labels = c.labels; list = c.list ++ words }

-- Then any of 02, 03, 04.
unfoldable pub line_added : (number : ℕ) → (line : List ℕ) → Option Frame → Case → Progress
line_added n s (Some (Opening settings lengths budget)) c = bad_line n
line_added n s (Some (Bytes Target.Memory space offset count)) c =
    cond (in_space c.memory space offset count)
    (reading (with_memory c (stored c.memory space offset (bytes_on count s))))
    (bad_line n)
line_added n s (Some (Bytes Target.Labels space offset count)) c =
    cond (in_space c.labels space offset count)
    (reading (with_labels c (stored c.labels space offset (bytes_on count s))))
    (bad_line n)
line_added n s (Some Operation) c =
    cond (ltb (operation_count c.list) most_case_operations)
    (reading (with_operation c (words_on s)))
    (bad_line n)
line_added n s None c = bad_line n

-- One line, without its newline. After the first bad line nothing counts.
unfoldable pub after_line : (number : ℕ) → (line : List ℕ) → Progress → Progress
after_line n s nothing = opened n (frame_of s)
after_line n s (reading c) = line_added n s (frame_of s) c
after_line n s (bad_line k) = bad_line k
