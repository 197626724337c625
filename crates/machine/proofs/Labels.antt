-- The labels that an operation writes are those that the exact conditions tell, byte by byte.
use Prim.Native.Nat.{ℕ, ◌+◌, ◌-◌, ◌^◌, ◌<◌}
use native.Mathlib.Nat.{zero-add}
use mathlib.Core.Path.{◌≡◌, refl, sym, ap, ◌∙◌}
use mathlib.Core.Bool.{Bool, true, false, cond}
use mathlib.Core.List.{List, [], ◌∷◌, append-nil}
use borrow.Author.Tests.{eqb-true, ltb-true, ltb-false, lt-ltb}
use lib.Dec.{ltb, eqb}
use lib.ListN.{length, get_or}
use Rattle.word.specs.Word.{part, significance, value_of, bytes_of}
use Rattle.word.proofs.Sums.{tabulate_past, tabulate_same}
use Rattle.word.proofs.Laws.{significance_lt, significance_twice, part_at, part_bytes, value_lt, written_read}
use Rattle.integer.specs.Operations.{flag}
use Rattle.operation.specs.declared.layout.Settings.{Settings}
use Rattle.operation.specs.declared.layout.Varnode.{Varnode}
use Rattle.machine.specs.Program.{big_endian}
use Rattle.machine.specs.Memory.{Memory, OfBytes, space_of, bytes_at, ordered}
use Rattle.machine.specs.Effect.{Operation, dropped, moves, origin, entry_from, labels_of, label_fill, secret, labels_written}
use Rattle.machine.specs.Conditions.{label_of, label_joined, label_extended, label_moved, becomes_secret, label_written, exact_labels}
use Rattle.machine.proofs.Cases.{either_equal}
use Rattle.machine.proofs.Moves.{length-ordered, ordered_at, bytes_count, joined_at, taken, extended, moved_is}

-- ---- the labels of a varnode

-- a constant has no bytes in a space
none_at : (at n i : ℕ) → get_or (part [] at n) i 0 ≡ 0
unfolding part
none_at at n i = by (ltb i n) refl
  where
    by : (t : Bool) → ltb i n ≡ t → get_or (part [] at n) i 0 ≡ 0
    by true e = part_at [] at n i (ltb-true i n e)
    by false e = tabulate_past n (λ j. get_or [] (at + j) 0) i (ltb-false i n e)

constant_at : (labels : Memory) (v : Varnode) (i : ℕ) → v.space ≡ 1 → get_or (bytes_at labels v) i 0 ≡ 0
unfolding bytes_at space_of
constant_at labels v i e = rw e (none_at v.offset v.size i)

module _ (big : Bool) (labels : Memory) (v : Varnode) where
  label_at : (k : ℕ) → get_or (ordered big (bytes_at labels v)) k 0 ≡ label_of big labels v k
  unfolding label_of
  label_at k = ordered_at big (bytes_at labels v) k ∙ rw (bytes_count labels v) (by (eqb v.space 1) refl)
    where
      by : (t : Bool) → eqb v.space 1 ≡ t
          → cond (ltb k v.size) (get_or (bytes_at labels v) (significance big v.size k) 0) 0
          ≡ cond t 0 (cond (ltb k v.size) (get_or (bytes_at labels v) (significance big v.size k) 0) 0)
      by true e = either_equal (ltb k v.size) (constant_at labels v _ (eqb-true v.space 1 e)) refl
      by false e = refl

  -- as they lie in memory
  pub label_in_memory : (i : ℕ) → i < v.size → label_of big labels v (significance big v.size i) ≡ get_or (bytes_at labels v) i 0
  label_in_memory i l =
      sym (label_at (significance big v.size i)) ∙ ordered_at big (bytes_at labels v) (significance big v.size i)
      ∙ rw (bytes_count labels v, lt-ltb (significance big v.size i) v.size (significance_lt big v.size i l), significance_twice big v.size i l) refl

  pub label_either : (t : Bool) (j k : ℕ) → label_of big labels v (cond t j k) ≡ cond t (label_of big labels v j) (label_of big labels v k)
  label_either true j k = refl
  label_either false j k = refl

-- as a number in little order
module _ (labels : Memory) (v : Varnode) (h : OfBytes labels) where
  pub word_fits : value_of false (bytes_at labels v) < 256 ^ v.size
  unfolding bytes_at
  word_fits = rw (bytes_count labels v) at (value_lt false (bytes_at labels v) (part_bytes (space_of labels v.space) v.offset v.size (h v.space)))

  pub word_bytes : bytes_of false v.size (value_of false (bytes_at labels v)) ≡ bytes_at labels v
  unfolding bytes_at
  word_bytes =
      ap (λ (n : ℕ). bytes_of false n (value_of false (bytes_at labels v))) (sym (bytes_count labels v))
      ∙ written_read false (bytes_at labels v) (part_bytes (space_of labels v.space) v.offset v.size (h v.space))

-- ---- the labels written

module _ (settings : Settings) (op : Operation) (labels : Memory) (b n : ℕ) where
  abbrev big : Bool
  big = big_endian settings

  told : (vs : List Varnode) → moves op ≡ true
      → ((k : ℕ) → entry_from label_fill (labels_of settings labels vs) (origin op (length (labels_of settings labels vs)) k) ≡ label_moved big labels op b k)
      → labels_written settings op n vs labels ≡ exact_labels big labels op b n
  unfolding labels_written exact_labels label_written moves
  told vs e h = rw e (moved_is big op n label_fill (labels_of settings labels vs) (label_moved big labels op b) (λ k l. h k))

  module _ (v : Varnode) where
    one : labels_of settings labels (v ∷ []) ≡ ordered big (bytes_at labels v)
    unfolding labels_of
    one = append-nil (ordered big (bytes_at labels v))

    -- moved from one varnode, without its d low bytes
    pub told_one : moves op ≡ true → eqb op.opcode 20 ≡ false → (d : ℕ) → dropped op ≡ d
        → ((k : ℕ) → label_of big labels v (d + k) ≡ label_moved big labels op b k)
        → labels_written settings op n (v ∷ []) labels ≡ exact_labels big labels op b n
    told_one e n20 d q h =
        told (v ∷ []) e (λ k. taken op label_fill (labels_of settings labels (v ∷ [])) k n20 ∙ rw (one, q) (label_at big labels v (d + k) ∙ h k))

  -- PIECE: input0 above input1
  pub told_both : moves op ≡ true → eqb op.opcode 20 ≡ false → dropped op ≡ 0 → ((k : ℕ) → label_joined big labels op k ≡ label_moved big labels op b k)
      → labels_written settings op n (op.input1 ∷ op.input0 ∷ []) labels ≡ exact_labels big labels op b n
  unfolding labels_of label_joined
  told_both e n20 q h =
      told (op.input1 ∷ op.input0 ∷ []) e
      (λ k. taken op label_fill (labels_of settings labels (op.input1 ∷ op.input0 ∷ [])) k n20
      ∙ rw (q, zero-add k, append-nil (ordered big (bytes_at labels op.input0)))
      (joined_at (ordered big (bytes_at labels op.input1)) (ordered big (bytes_at labels op.input0)) k
      ∙ rw (length-ordered, bytes_count labels op.input1, label_at big labels op.input1 k, label_at big labels op.input0 (k - op.input1.size)) (h k)))

  -- INT_SEXT
  pub told_extended : moves op ≡ true → op.opcode ≡ 20 → ((k : ℕ) → label_extended big labels op k ≡ label_moved big labels op b k)
      → labels_written settings op n (op.input0 ∷ []) labels ≡ exact_labels big labels op b n
  unfolding label_extended label_fill
  told_extended e e20 h =
      told (op.input0 ∷ []) e
      (λ k. extended op label_fill (labels_of settings labels (op.input0 ∷ [])) k e20
      ∙ rw (one op.input0, length-ordered, bytes_count labels op.input0)
      (rw (label_at big labels op.input0 k, label_at big labels op.input0 (op.input0.size - 1)) (sym (label_either big labels op.input0 (ltb k op.input0.size) k (op.input0.size - 1))) ∙ h k))

  -- one label for all bytes
  pub told_whole : (vs : List Varnode) → moves op ≡ false → secret labels vs ≡ becomes_secret labels op b
      → labels_written settings op n vs labels ≡ exact_labels big labels op b n
  unfolding labels_written exact_labels label_written moves
  told_whole vs e h = rw (e, h) (sym (tabulate_same n (flag (becomes_secret labels op b))))
