-- Labels that follow the bytes: never more secret than the base's rule (paper 01), which all else keeps; and known answers.
use Rattle.std.specs.Prelude.{ℕ, false, List, [], ◌∷◌, ◌≡◌, length, get_or, replicate}
use Rattle.integer.specs.Operations.{flag}
use Rattle.arithmetic.specs.Opcodes.{member}
use Rattle.validation.specs.Verdict.{verdict}
use Rattle.machine.specs.Program.{Program, program_of}
use Rattle.machine.specs.Memory.{Memory, OfBytes, spaces, lengths_of, space_of, written}
use Rattle.machine.specs.Effect.{Operation, operation_at}
use Rattle.machine.specs.Run.{Position, Stepped, stepped, run}
use Rattle.machine.specs.Calls.{starting}
use Rattle.machine.specs.Conditions.{destination_bytes, moving, becomes_secret, operand1, Words}
use Rattle.machine.specs.Marked.{words, settings}

-- The labels after an operation by the base's rule, one label for all bytes written; b is the number that input1 stands for.
unfoldable pub base_labels : (labels : Memory) → Operation → (b : ℕ) → Memory
base_labels labels op b =
    written labels (destination_bytes op b) (replicate (destination_bytes op b).size (flag (becomes_secret labels op b)))

-- Each byte that the second labels call public is public in the first.
abbrev pub NoMoreSecret : (first second : Memory) → Type 0
NoMoreSecret first second = (space i : ℕ) → get_or (space_of second space) i 0 ≡ 0 → get_or (space_of first space) i 0 ≡ 0

-- The operation alone, in a byte order, makes these labels of the register space of those.
abbrev pub Relabels : (order : ℕ) (operation before after : List ℕ) → Type 0
Relabels order operation before after =
    (run (program_of (settings order) operation) 1 (starting 0 1) (spaces [] before []) (spaces [] (replicate (length before) 0) [])).labels ≡ spaces [] after []

-- COPY of the bytes 0 and 1 to 2 and 3.
abbrev pub copy_of_two : List ℕ
copy_of_two = words 0x323201 2 0 0

-- All of these.
pub record FinerLabels : Type 0 where
  -- One operation of a list whose verdict is 0, from the same labels, byte by byte.
  pub operation : (program : Program) (at after : Position) (labels m labels' m' : Memory) → Words program.list → OfBytes m
      → (verdict program.settings (lengths_of m) program.list).ending ≡ 0 → stepped program at labels m ≡ Stepped.going after labels' m'
      → (let op = operation_at program.list at.index in NoMoreSecret labels' (base_labels labels op (operand1 program m op)))
  -- All else keeps the base's rule.
  pub others : (program : Program) (at after : Position) (labels m labels' m' : Memory) → Words program.list → OfBytes m
      → (verdict program.settings (lengths_of m) program.list).ending ≡ 0 → stepped program at labels m ≡ Stepped.going after labels' m'
      → (let op = operation_at program.list at.index in
      member op.opcode moving ≡ false → labels' ≡ base_labels labels op (operand1 program m op))
  -- COPY, LOAD and STORE of the bytes 0 and 1 to 2 and 3: the label goes with each byte, in both orders. The base's rule marked both, or none.
  pub copied : (Relabels 0 copy_of_two (1 ∷ 0 ∷ 0 ∷ 1 ∷ []) (1 ∷ 0 ∷ 1 ∷ 0 ∷ [])) × (Relabels 1 copy_of_two (1 ∷ 0 ∷ 0 ∷ 1 ∷ []) (1 ∷ 0 ∷ 1 ∷ 0 ∷ []))
  pub base : base_labels (spaces [] (1 ∷ 0 ∷ 0 ∷ 1 ∷ []) []) (operation_at copy_of_two 0) 0 ≡ spaces [] (1 ∷ 0 ∷ 1 ∷ 1 ∷ []) []
  pub base_public : base_labels (spaces [] (0 ∷ 0 ∷ 1 ∷ 1 ∷ []) []) (operation_at copy_of_two 0) 0 ≡ spaces [] (0 ∷ 0 ∷ 0 ∷ 0 ∷ []) []
  pub loaded : (Relabels 0 (words 0x18183202 2 3 0) (0 ∷ 1 ∷ 1 ∷ 0 ∷ []) (0 ∷ 1 ∷ 0 ∷ 1 ∷ []))
      × (Relabels 1 (words 0x18183202 2 3 0) (0 ∷ 1 ∷ 1 ∷ 0 ∷ []) (0 ∷ 1 ∷ 0 ∷ 1 ∷ []))
  pub stored : (Relabels 0 (0x3218180003 ∷ 0 ∷ 3 ∷ 2 ∷ 0 ∷ []) (0 ∷ 1 ∷ 1 ∷ 0 ∷ []) (0 ∷ 1 ∷ 0 ∷ 1 ∷ []))
      × (Relabels 1 (0x3218180003 ∷ 0 ∷ 3 ∷ 2 ∷ 0 ∷ []) (0 ∷ 1 ∷ 1 ∷ 0 ∷ []) (0 ∷ 1 ∷ 0 ∷ 1 ∷ []))
  -- PIECE of byte 0, secret, above the bytes 1 and 2, to 3: its byte comes last in little order, first in big order.
  pub joined : (Relabels 0 (words 0x3231330a 3 0 1) (1 ∷ 0 ∷ 0 ∷ 1 ∷ 1 ∷ 1 ∷ []) (1 ∷ 0 ∷ 0 ∷ 0 ∷ 0 ∷ 1 ∷ []))
      × (Relabels 1 (words 0x3231330a 3 0 1) (1 ∷ 0 ∷ 0 ∷ 1 ∷ 1 ∷ 1 ∷ []) (1 ∷ 0 ∷ 0 ∷ 1 ∷ 0 ∷ 0 ∷ []))
  -- The same with one byte of the low part secret: its neighbour stays public.
  pub halves : (Relabels 0 (words 0x3231330a 3 0 1) (0 ∷ 1 ∷ 0 ∷ 1 ∷ 1 ∷ 1 ∷ []) (0 ∷ 1 ∷ 0 ∷ 1 ∷ 0 ∷ 0 ∷ []))
      × (Relabels 1 (words 0x3231330a 3 0 1) (0 ∷ 1 ∷ 0 ∷ 1 ∷ 1 ∷ 1 ∷ []) (0 ∷ 1 ∷ 0 ∷ 0 ∷ 1 ∷ 0 ∷ []))
  -- SUBPIECE of the bytes 0 and 1 without the low one, to 2 and 3: a secret low byte is gone, a secret high byte becomes the low one, and
  -- the missing high byte is public.
  pub dropped : (Relabels 0 (words 0x1132320b 2 0 1) (1 ∷ 0 ∷ 1 ∷ 1 ∷ []) (1 ∷ 0 ∷ 0 ∷ 0 ∷ [])) × (Relabels 1 (words 0x1132320b 2 0 1) (0 ∷ 1 ∷ 1 ∷ 1 ∷ []) (0 ∷ 1 ∷ 0 ∷ 0 ∷ []))
  pub kept : (Relabels 0 (words 0x1132320b 2 0 1) (0 ∷ 1 ∷ 1 ∷ 1 ∷ []) (0 ∷ 1 ∷ 1 ∷ 0 ∷ [])) × (Relabels 1 (words 0x1132320b 2 0 1) (1 ∷ 0 ∷ 1 ∷ 1 ∷ []) (1 ∷ 0 ∷ 0 ∷ 1 ∷ []))
  -- SUBPIECE of the bytes 0 to 2 without the low one, to 3 to 5: of the two bytes kept one is secret.
  pub neighbours : (Relabels 0 (words 0x1133330b 3 0 1) (1 ∷ 1 ∷ 0 ∷ 1 ∷ 1 ∷ 1 ∷ []) (1 ∷ 1 ∷ 0 ∷ 1 ∷ 0 ∷ 0 ∷ []))
      × (Relabels 1 (words 0x1133330b 3 0 1) (0 ∷ 1 ∷ 1 ∷ 1 ∷ 1 ∷ 1 ∷ []) (0 ∷ 1 ∷ 1 ∷ 0 ∷ 0 ∷ 1 ∷ []))
  -- INT_ZEXT of the bytes 0 and 1 to 2 to 4: zero fill is public.
  pub zero_fill : (Relabels 0 (words 0x323313 2 0 0) (1 ∷ 0 ∷ 1 ∷ 1 ∷ 1 ∷ []) (1 ∷ 0 ∷ 1 ∷ 0 ∷ 0 ∷ [])) × (Relabels 1 (words 0x323313 2 0 0) (1 ∷ 0 ∷ 1 ∷ 1 ∷ 1 ∷ []) (1 ∷ 0 ∷ 0 ∷ 1 ∷ 0 ∷ []))
  -- INT_SEXT of the bytes 0 and 1 to 2 to 5: the fill has the label of the top byte.
  pub low_byte : (Relabels 0 (words 0x323414 2 0 0) (1 ∷ 0 ∷ 1 ∷ 1 ∷ 1 ∷ 1 ∷ []) (1 ∷ 0 ∷ 1 ∷ 0 ∷ 0 ∷ 0 ∷ []))
      × (Relabels 1 (words 0x323414 2 0 0) (0 ∷ 1 ∷ 1 ∷ 1 ∷ 1 ∷ 1 ∷ []) (0 ∷ 1 ∷ 0 ∷ 0 ∷ 0 ∷ 1 ∷ []))
  pub top_byte : (Relabels 0 (words 0x323414 2 0 0) (0 ∷ 1 ∷ 0 ∷ 0 ∷ 0 ∷ 0 ∷ []) (0 ∷ 1 ∷ 0 ∷ 1 ∷ 1 ∷ 1 ∷ []))
      × (Relabels 1 (words 0x323414 2 0 0) (1 ∷ 0 ∷ 0 ∷ 0 ∷ 0 ∷ 0 ∷ []) (1 ∷ 0 ∷ 1 ∷ 1 ∷ 1 ∷ 0 ∷ []))
  -- INT_NEGATE of the bytes 0 and 1 to 2 and 3 computes: both become secret if one is, else public.
  pub computed : (Relabels 0 (words 0x32321b 2 0 0) (1 ∷ 0 ∷ 0 ∷ 0 ∷ []) (1 ∷ 0 ∷ 1 ∷ 1 ∷ [])) × (Relabels 1 (words 0x32321b 2 0 0) (1 ∷ 0 ∷ 0 ∷ 0 ∷ []) (1 ∷ 0 ∷ 1 ∷ 1 ∷ []))
  pub cleared : (Relabels 0 (words 0x32321b 2 0 0) (0 ∷ 0 ∷ 1 ∷ 1 ∷ []) (0 ∷ 0 ∷ 0 ∷ 0 ∷ [])) × (Relabels 1 (words 0x32321b 2 0 0) (0 ∷ 0 ∷ 1 ∷ 1 ∷ []) (0 ∷ 0 ∷ 0 ∷ 0 ∷ []))
