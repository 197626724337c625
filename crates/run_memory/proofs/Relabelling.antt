-- Labels that are written to a varnode, and the counts that move with them.
use Prim.Native.Nat.{ℕ, zero, suc, ◌+◌, ◌%◌, ◌^◌, ◌≤◌, ◌<◌}
use native.Mathlib.Nat.{mod-lt}
use native.Mathlib.Omega.{arith}
use mathlib.Core.Path.{◌≡◌, sym, ap, ◌∙◌}
use mathlib.Core.Bool.{true, false}
use mathlib.Core.List.{List}
use lib.ListN.{length, get_or}
use lib.Seq.{sets}
use Rattle.word.specs.Sum.{sum, tabulate}
use Rattle.word.specs.Word.{Bytes, part, value_of, bytes_of}
use Rattle.word.proofs.Laws.{part_length, part_at, part_bytes, value_lt, bytes-length, written_read}
use Rattle.word.proofs.Powers.{size_pos}
use Rattle.word.proofs.Shifts.{bytes_mod}
use Rattle.secret_counts.specs.Recount.{count_words}
use Rattle.secret_counts.specs.Moved.{low_bit, Moved}
use Rattle.secret_counts.proofs.Moves.{moved_none, moved_in}
use Rattle.operation.specs.declared.layout.Varnode.{Varnode}
use Rattle.machine.specs.Memory.{Memory, OfBytes, lengths_of, space_of, with_space, bytes_at, written}
use Rattle.machine.specs.Counts.{counts_fit}
use Rattle.machine.specs.MovedCounts.{MovedSpaces}
use Rattle.machine.proofs.Conditions.{each_space}
use Rattle.machine.proofs.MovedCounts.{moved_spaces_none, counts_fit_lem}
use Rattle.run_memory.specs.Placed.{Placed}
use Rattle.run_memory.specs.Marked.{Marked}
use Rattle.run_memory.proofs.Spaces.{placed_in, written_in, written_elsewhere, written_same}

-- ---- in one space

module _ (labels : List ℕ) (at size old new : ℕ) (bytes : Bytes labels) (inside : at + size ≤ length labels) (e : old ≡ value_of false (part labels at size)) where
  pub old_fits : old < 256 ^ size
  old_fits = rw e (rw (part_length labels at size) at (value_lt false (part labels at size) (part_bytes labels at size bytes)))

  old_bytes : bytes_of false size old ≡ part labels at size
  old_bytes =
      ap (bytes_of false size) e ∙ rw (part_length labels at size) at (written_read false (part labels at size) (part_bytes labels at size bytes))

  pub relabelled : {counts counts' : List ℕ} → Moved low_bit (length labels) at (bytes_of false size old) (bytes_of false size new) counts counts'
      → Moved low_bit (length labels) 0 labels (sets labels at (bytes_of false size new)) counts counts'
  relabelled =
      moved_in labels at (bytes_of false size old) (bytes_of false size new) (bytes-length false size old ∙ sym (bytes-length false size new))
      (rw (bytes-length false size new) inside)
      (λ k h. ap (λ (l : List ℕ). get_or l k 0) old_bytes ∙ part_at labels at size k (rw (bytes-length false size old) at h))

-- ---- at a varnode

-- no bytes make no difference
pub some_size : (l : List ℕ) (at size word : ℕ) → (value_of false (part l at size) ≡ word % 256 ^ size → ⊥) → 1 ≤ size
unfolding value_of part sum tabulate
some_size l at zero word h = absurd (h (omega arith))
some_size l at (suc size) word h = omega arith

module _ (labels counts : Memory) (v : Varnode) (word : ℕ) where
  -- what is there already
  pub marked_same : OfBytes labels → Placed labels v → value_of false (bytes_at labels v) ≡ word % 256 ^ v.size → Marked labels counts v word labels counts
  unfolding bytes_at
  marked_same bytes p e =
      let there : List ℕ = bytes_at labels v in
      let read : bytes_of false v.size (value_of false there) ≡ there =
      rw (part_length (space_of labels v.space) v.offset v.size) at
      (written_read false there (part_bytes (space_of labels v.space) v.offset v.size (bytes v.space))) in
      let same : bytes_of false v.size word ≡ there = bytes_mod false v.size word ∙ ap (bytes_of false v.size) (sym e) ∙ read in
      record { stored = sym (ap (written labels v) same ∙ written_same labels v p); moved = moved_spaces_none labels counts }

  -- in none of the three spaces
  pub marked_nowhere : (v.space ≡ 2 → ⊥) → (v.space ≡ 3 → ⊥) → (v.space ≡ 4 → ⊥) → Marked labels counts v word labels counts
  marked_nowhere not2 not3 not4 = record { stored = sym (written_elsewhere labels v not2 not3 not4 _); moved = moved_spaces_none labels counts }

  -- the counts of a space are long enough
  pub room_in : counts_fit (lengths_of labels) (lengths_of counts) ≡ true → (n : ℕ) → 2 ≤ n → n ≤ 4 → count_words (length (space_of labels n)) ≤ length (space_of counts n)
  unfolding space_of lengths_of
  room_in t =
      let f = counts_fit_lem (lengths_of labels) (lengths_of counts) t in
      each_space (λ n. count_words (length (space_of labels n)) ≤ length (space_of counts n)) f.0 f.1 f.2

  moved_in_space : (n : ℕ) → 2 ≤ n → n ≤ 4 → (after counts' : List ℕ)
      → Moved low_bit (length (space_of labels n)) 0 (space_of labels n) after (space_of counts n) counts'
      → MovedSpaces low_bit labels (with_space labels n after) counts (with_space counts n counts')
  unfolding space_of with_space
  moved_in_space =
      each_space
      (λ n. (after counts' : List ℕ) → Moved low_bit (length (space_of labels n)) 0 (space_of labels n) after (space_of counts n) counts'
      → MovedSpaces low_bit labels (with_space labels n after) counts (with_space counts n counts'))
      (λ after counts' m. record { unique = m; register = moved_none labels.register counts.register; ram = moved_none labels.ram counts.ram })
      (λ after counts' m. record { unique = moved_none labels.unique counts.unique; register = m; ram = moved_none labels.ram counts.ram })
      (λ after counts' m. record { unique = moved_none labels.unique counts.unique; register = moved_none labels.register counts.register; ram = m })

  -- in the space n
  pub marked_in : (n : ℕ) → v.space ≡ n → 2 ≤ n → n ≤ 4 → (after counts' : List ℕ) → after ≡ sets (space_of labels n) v.offset (bytes_of false v.size (word % 256 ^ v.size))
      → Moved low_bit (length (space_of labels n)) 0 (space_of labels n) after (space_of counts n) counts'
      → Marked labels counts v word (with_space labels n after) (with_space counts n counts')
  marked_in n e low high after counts' s m = record {
    stored = written_in labels v n e after _ (s ∙ ap (sets (space_of labels n) v.offset) (sym (bytes_mod false v.size word)));
    moved = moved_in_space n low high after counts' m;
  }

  -- what the writer asks for, where others are there in the space n
  pub may_relabel : (n : ℕ) → v.space ≡ n → 2 ≤ n → n ≤ 4 → Placed labels v → counts_fit (lengths_of labels) (lengths_of counts) ≡ true
      → (old new : ℕ) → old ≡ value_of false (bytes_at labels v) → new ≡ word % 256 ^ v.size → (old ≡ new → ⊥)
      → (1 ≤ v.size) × (v.size ≤ 8) × (v.offset + v.size ≤ length (space_of labels n)) × (count_words (length (space_of labels n)) ≤ length (space_of counts n))
      × (old ≡ value_of false (part (space_of labels n) v.offset v.size)) × (new < 256 ^ v.size)
  unfolding bytes_at
  may_relabel n e low high p t old new o w differ =
      let there : old ≡ value_of false (part (space_of labels n) v.offset v.size) = rw (← e) o in (
        some_size (space_of labels n) v.offset v.size word (λ z. differ (there ∙ z ∙ sym w)),
        p.size,
        placed_in labels v n e low p,
        room_in t n low high,
        there,
        rw w (mod-lt word (size_pos v.size)),
      )
