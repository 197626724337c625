-- Wordsize 1 gives the old answers, those of pointers that count bytes; and known answers of other wordsizes.
use Rattle.std.specs.Prelude.{ℕ, ◌+◌, ◌*◌, ◌-◌, ◌^◌, true, cond, not, ◌&&◌, List, [], ◌∷◌, ◌≡◌, eqb, leb, length, replicate}
use Rattle.std.proofs.lemmas.List.Edits.{sets}
use Rattle.word.specs.Word.{is_size}
use Rattle.arithmetic.specs.Opcodes.{member}
use Rattle.operation.specs.declared.layout.Settings.{Settings}
use Rattle.operation.specs.Layout.{all_one, wordsize_of, words_per_operation, operation_count}
use Rattle.operation.specs.Rules.{accesses}
use Rattle.validation.specs.Verdict.{settings_in_range, verdict}
use Rattle.machine.specs.Program.{Program, big_endian}
use Rattle.machine.specs.Memory.{Memory, OfBytes, spaces, lengths_of, space_of, value_at}
use Rattle.machine.specs.Effect.{Operation, operation_at, byte_offset, pointee}
use Rattle.machine.specs.Run.{Position, Stepped, ended, continued, run}
use Rattle.machine.specs.Calls.{plain_outcome, labelled_outcome, plain_run, labelled_run}
use Rattle.machine.specs.Conditions.{leaks, exceeds_space, log_word_of, exact_step_with, labels_after, exact_step, Words}

-- ---- wordsize 1

-- The exact step of a machine that knows no wordsize: input1 stands for its value, whatever the opcode.
unfoldable pub bytewise_step : Program → Operation → Position → (labels memory : Memory) → Stepped
bytewise_step program op at labels m =
    let a : ℕ = value_at program.settings m op.input0 in
    let b : ℕ = value_at program.settings m op.input1 in
    cond (leaks labels op) (Stepped.halted (ended 31 0 at labels m))
    (exact_step_with program op a b at labels (labels_after (big_endian program.settings) labels op b) m)

-- At n, END; count equals budget, BUDGET; `budget` is what is left of it.
unfoldable pub bytewise_step_within : Program → (budget : ℕ) → Position → (labels memory : Memory) → Stepped
bytewise_step_within program budget at labels m =
    cond (leb (operation_count program.list) at.index) (Stepped.halted (ended 0 0 at labels m))
    (cond (eqb budget 0) (Stepped.halted (ended 2 0 at labels m))
    (bytewise_step program (operation_at program.list at.index) at labels m))

-- A pointer into a space of wordsize 1.
pub record AtWordsizeOne (settings : Settings) (op : Operation) (pointer : ℕ) : Type 0 where
  -- The byte offset is the pointer.
  pub offset : byte_offset settings op pointer ≡ pointer
  -- The bytes there are those from the pointer on.
  pub bytes : (size : ℕ) → pointee op (byte_offset settings op pointer) size ≡ record { space = op.input0.offset; offset = pointer; size = size }
  -- BOUNDS: pointer + size beyond the space.
  pub bounds : (m : Memory) (size : ℕ)
      → exceeds_space m (pointee op (byte_offset settings op pointer) size) ≡ not (leb (pointer + size) (length (space_of m op.input0.offset)))
  -- The log word is index × 2^32 plus the pointer.
  pub word : member op.opcode (2 ∷ 3 ∷ []) ≡ true → (i : ℕ) → log_word_of op i (byte_offset settings op pointer) ≡ i * 2 ^ 32 + pointer

-- The old answers.
pub record OldAnswers : Type 0 where
  pub pointers : (settings : Settings) (op : Operation) (pointer : ℕ) → wordsize_of settings.wordsizes op.input0.offset ≡ 1
      → AtWordsizeOne settings op pointer
  -- An operation that does not access a space of another wordsize.
  pub operations : (program : Program) (op : Operation) (at : Position) (labels m : Memory)
      → (accesses op.opcode ≡ true → wordsize_of program.settings.wordsizes op.input0.offset ≡ 1)
      → exact_step program op at labels m ≡ bytewise_step program op at labels m
  -- A run with wordsize 1 for each space meets the exact conditions of that machine.
  pub runs : (program : Program) (budget : ℕ) (at : Position) (labels m : Memory) → program.settings.wordsizes ≡ all_one
      → Words program.list → OfBytes m → (verdict program.settings (lengths_of m) program.list).ending ≡ 0
      → run program budget at labels m ≡ continued (run program (budget - 1)) (bytewise_step_within program budget at labels m)
  -- 10 SETTING: byte order or A out of range.
  pub setting : (settings : Settings) → settings.wordsizes ≡ all_one
      → settings_in_range settings ≡ (leb settings.order 1 && is_size settings.address_size)

-- ---- other wordsizes

-- Little byte order, address size 8, wordsizes 2 of unique, 3 of register and 8 of ram.
abbrev pub mixed : Settings
mixed = record { order = 0; address_size = 8; wordsizes = record { unique = 2; register = 3; ram = 8 } }

-- The memory before the operation.
abbrev pub before : Memory
before =
    spaces (10 ∷ 11 ∷ 12 ∷ 13 ∷ []) (20 ∷ 21 ∷ 22 ∷ 23 ∷ 24 ∷ 25 ∷ []) (30 ∷ 31 ∷ 32 ∷ 33 ∷ 34 ∷ 35 ∷ 36 ∷ 37 ∷ 38 ∷ 39 ∷ [])

-- The memory after a byte was written at an offset.
abbrev pub in_unique : (offset byte : ℕ) → Memory
in_unique offset byte = spaces (sets before.unique offset (byte ∷ [])) before.register before.ram

abbrev pub in_register : (offset byte : ℕ) → Memory
in_register offset byte = spaces before.unique (sets before.register offset (byte ∷ [])) before.ram

abbrev pub in_ram : (offset byte : ℕ) → Memory
in_ram offset byte = spaces before.unique before.register (sets before.ram offset (byte ∷ []))

-- LOAD of a byte at a constant pointer to the first byte of register.
abbrev pub load : (space pointer : ℕ) → List ℕ
load space pointer = sets (replicate words_per_operation 0) 0 (0x18113102 ∷ 0 ∷ space ∷ pointer ∷ [])

-- STORE of the byte 255 at a constant pointer.
abbrev pub store : (space pointer : ℕ) → List ℕ
store space pointer = sets (replicate words_per_operation 0) 0 (0x1118110003 ∷ 0 ∷ space ∷ pointer ∷ 255 ∷ [])

-- A run of the operation alone leaves this log word and this memory.
abbrev pub Leaves : (operation : List ℕ) (word : ℕ) (after : Memory) → Type 0
Leaves operation word after =
    plain_run mixed operation 0 1 (0 ∷ []) before
    ≡ plain_outcome (record { ending = 0; index = 1; executed = 1; logged = 1; value = 0 }) after (word ∷ [])

-- It ends with BOUNDS.
abbrev pub OutOfBounds : (operation : List ℕ) → Type 0
OutOfBounds operation =
    plain_run mixed operation 0 1 (0 ∷ []) before
    ≡ plain_outcome (record { ending = 32; index = 0; executed = 0; logged = 0; value = 0 }) before (0 ∷ [])

-- Labels: the same for every byte but that of ram at byte offset 8, and for the first byte of register.
abbrev pub labelled : (others ram8 register0 : ℕ) → Memory
labelled others ram8 register0 =
    spaces (replicate 4 others) (sets (replicate 6 others) 0 (register0 ∷ [])) (sets (replicate 10 others) 8 (ram8 ∷ []))

-- A labelled run of the operation alone leaves this log word, these labels and this memory.
abbrev pub LeavesLabelled : (operation : List ℕ) (word : ℕ) (labels labels' after : Memory) → Type 0
LeavesLabelled operation word labels labels' after =
    labelled_run mixed operation 0 1 (0 ∷ []) labels before
    ≡ labelled_outcome (record { ending = 0; index = 1; executed = 1; logged = 1; value = 0 }) after labels' (word ∷ [])

-- Each space has its own wordsize; the product is a whole number; labels are those at the byte offset.
pub record KnownAnswers : Type 0 where
  pub load_unique : Leaves (load 2 1) 2 (in_register 0 12)
  pub load_register : Leaves (load 3 1) 3 (in_register 0 23)
  pub load_ram : Leaves (load 4 1) 8 (in_register 0 38)
  pub store_unique : Leaves (store 2 1) 2 (in_unique 2 255)
  pub store_register : Leaves (store 3 1) 3 (in_register 3 255)
  pub store_ram : Leaves (store 4 1) 8 (in_ram 8 255)
  -- the first word past each space
  pub past_unique : OutOfBounds (load 2 2)
  pub past_register : OutOfBounds (store 3 2)
  pub past_ram : OutOfBounds (load 4 2)
  -- 2^64 + 2, 2^64, and 8 × (2^64 - 1)
  pub wrapped : OutOfBounds (load 3 0x5555555555555556)
  pub at-2^64 : OutOfBounds (store 4 0x2000000000000000)
  pub largest : OutOfBounds (load 4 0xffffffffffffffff)
  -- among secret bytes, a STORE of a public one; among public bytes, a LOAD of a secret one
  pub stored_label : LeavesLabelled (store 4 1) 8 (labelled 1 1 1) (labelled 1 0 1) (in_ram 8 255)
  pub loaded_label : LeavesLabelled (load 4 1) 8 (labelled 0 1 0) (labelled 0 1 1) (in_register 0 38)
