-- The journal of a window: an entry for each operation, and what undoing them gives.
use Rattle.std.specs.Prelude.{ℕ, zero, suc, ◌+◌, ◌*◌, ◌≤◌, ◌<◌, false, cond, ◌&&◌, List, [], ◌∷◌, ◌≡◌, eqb, length, get_or}
use Rattle.word.specs.Word.{value_of, bytes_of}
use Rattle.operation.specs.declared.layout.Varnode.{Varnode}
use Rattle.operation.specs.Layout.{operation_count, absent, described_by}
use Rattle.machine.specs.Program.{Program}
use Rattle.machine.specs.Memory.{Memory, lengths_of, bytes_at, written}
use Rattle.machine.specs.Effect.{Operation, operation_at}
use Rattle.machine.specs.Conditions.{operand1, exceeds_space, destination_bytes}
use Rattle.run_memory.specs.Placed.{Placed}
use Rattle.run_journal.specs.declared.Entry.{Entry}

-- ---- an entry

-- What operation i writes to, if it is executed: nothing at the end of the list, and nothing by a STORE that is out of bounds.
unfoldable pub target_before : Program → Memory → (i : ℕ) → Varnode
target_before program m i =
    let op : Operation = operation_at program.list i in
    let target : Varnode = destination_bytes op (operand1 program m op) in
    cond (eqb i (operation_count program.list)) absent (cond (eqb op.opcode 3 && exceeds_space m target) absent target)

-- The number that a varnode's bytes make in little order, whatever the settings.
unfoldable pub number_at : Memory → Varnode → ℕ
number_at m v = cond (eqb v.space 1) v.offset (value_of false (bytes_at m v))

-- What a varnode holds: the numbers that its bytes and its labels make.
unfoldable pub entry_of : (labels memory : Memory) → Varnode → Entry
entry_of labels m v = record { target = v; bytes = number_at m v; labels = number_at labels v }

-- Words to an entry.
abbrev pub entry_words : ℕ
entry_words = 4

-- The words of an entry: descriptor and offset of its varnode, bytes, labels.
unfoldable pub words_of : Entry → List ℕ
words_of entry = (entry.target.space * 16 + entry.target.size) ∷ entry.target.offset ∷ entry.bytes ∷ entry.labels ∷ []

-- Entry n of a journal.
unfoldable pub entry_in : (journal : List ℕ) → (n : ℕ) → Entry
entry_in journal n =
    record {
      target = described_by (get_or journal (entry_words * n) 0) (get_or journal (entry_words * n + 1) 0);
      bytes = get_or journal (entry_words * n + 2) 0;
      labels = get_or journal (entry_words * n + 3) 0;
    }

-- ---- undoing

-- A varnode gets the bytes of a number back.
unfoldable pub restored : Memory → Varnode → (number : ℕ) → Memory
restored m v number = written m v (bytes_of false v.size number)

-- The number that an entry has for the bytes, and that for the labels.
abbrev pub bytes_of_entry : Entry → ℕ
bytes_of_entry entry = entry.bytes

abbrev pub labels_of_entry : Entry → ℕ
labels_of_entry entry = entry.labels

-- Bytes, or labels, after the first n entries are undone, the last one first.
unfoldable pub undone : (journal : List ℕ) → (number : Entry → ℕ) → (n : ℕ) → Memory → Memory
undone journal number zero m = m
undone journal number (suc n) m = undone journal number n (restored m (entry_in journal n).target (number (entry_in journal n)))

-- The first n entries are there, and their varnodes can be written.
pub record Undoable (journal : List ℕ) (n : ℕ) (labels m : Memory) : Type 0 where
  pub room : entry_words * n ≤ length journal
  pub placed : (k : ℕ) → k < n → Placed m (entry_in journal k).target
  pub lengths : lengths_of labels ≡ lengths_of m
