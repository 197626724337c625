-- The journal's entries: written, read, undone, cleared.
use Prim.Native.Nat.{ℕ, zero, suc, ◌+◌, ◌*◌, ◌-◌, ◌/◌, ◌%◌, ◌≤◌, ◌<◌}
use native.Mathlib.Omega.{arith}
use mathlib.Core.Path.{◌≡◌, refl, sym, ap, ◌∙◌}
use mathlib.Core.Bool.{Bool, true, false, cond}
use mathlib.Core.List.{List}
use borrow.Author.Tests.{ne_eqb, leb-true, leb-false, ltb-true, ltb-false}
use lib.Dec.{eqb, leb, ltb}
use lib.ListN.{length, get_or}
use lib.Seq.{sets, length-sets}
use Rattle.word.specs.Word.{part, value_of, bytes_of}
use Rattle.word.proofs.Laws.{part_length, part_at, part_bytes, stored-before, stored_at, stored-after, written_read}
use Rattle.word.proofs.Sums.{tabulate_is}
use Rattle.secret_counts.specs.Moved.{low_bit}
use Rattle.operation.specs.declared.layout.Varnode.{Varnode}
use Rattle.operation.specs.Layout.{described_by}
use Rattle.machine.specs.Memory.{Memory, OfBytes, lengths_of, space_of, with_space, bytes_at, written}
use Rattle.machine.proofs.Conditions.{each_space}
use Rattle.machine.specs.Counts.{counts_fit}
use Rattle.machine.specs.MovedCounts.{MovedSpaces}
use Rattle.machine.proofs.Kept.{written_lengths}
use Rattle.machine.proofs.MovedCounts.{moved_spaces_none, moved_spaces_on, moved_spaces_lengths}
use Rattle.run_memory.specs.Placed.{Placed}
use Rattle.run_memory.specs.Marked.{Marked}
use Rattle.run_memory.proofs.Spaces.{written_elsewhere, space_kept, written_same}
use Rattle.run_plan.proofs.Places.{space_length}
use Rattle.run_journal.specs.declared.Entry.{Entry}
use Rattle.run_journal.specs.Journal.{number_at, entry_of, entry_words, words_of, entry_in, restored, bytes_of_entry, labels_of_entry, undone, Undoable}

-- ---- entries

described : (space offset size : ℕ) → size < 16 → described_by (space * 16 + size) offset ≡ record { space = space; offset = offset; size = size }
unfolding described_by
described space offset size h =
    let s : (space * 16 + size) / 16 ≡ space = omega arith in
    let z : (space * 16 + size) % 16 ≡ size = omega arith in
    rw (s, z) refl

module _ (journal : List ℕ) (n : ℕ) (room : entry_words * n + entry_words ≤ length journal) (entry : Entry) where
  abbrev after : List ℕ
  after = sets journal (entry_words * n) (words_of entry)

  word_at : (k : ℕ) → k < entry_words → get_or after (entry_words * n + k) 0 ≡ get_or (words_of entry) k 0
  unfolding words_of
  word_at k h = stored_at journal (entry_words * n) (words_of entry) k room h

  -- an entry written is read
  pub entry_written : entry.target.size < 16 → entry_in after n ≡ entry
  unfolding entry_in words_of
  entry_written h =
      let first : entry_words * n + 0 ≡ entry_words * n = omega arith in
      let w : get_or after (entry_words * n) 0 ≡ entry.target.space * 16 + entry.target.size = rw first at (word_at 0 (omega arith)) in
      rw (w, word_at 1 (omega arith), word_at 2 (omega arith), word_at 3 (omega arith), described entry.target.space entry.target.offset entry.target.size h) refl

  -- those before it stay
  pub entry_before : (k : ℕ) → k < n → entry_in after k ≡ entry_in journal k
  unfolding entry_in
  entry_before k h =
      rw (
        stored-before journal (entry_words * n) (words_of entry) (entry_words * k) (omega arith),
        stored-before journal (entry_words * n) (words_of entry) (entry_words * k + 1) (omega arith),
        stored-before journal (entry_words * n) (words_of entry) (entry_words * k + 2) (omega arith),
        stored-before journal (entry_words * n) (words_of entry) (entry_words * k + 3) (omega arith),
      ) refl

-- the entry of a varnode, from what the code read there
pub entry_read : (labels m : Memory) (v target : Varnode) (e : v ≡ target) (bytes marks : ℕ)
    → bytes ≡ cond (eqb v.space 1) v.offset (value_of false (bytes_at m v)) → marks ≡ cond (eqb v.space 1) v.offset (value_of false (bytes_at labels v))
    → words_of (record { target = v; bytes = bytes; labels = marks }) ≡ words_of (entry_of labels m target)
unfolding entry_of number_at
entry_read labels m v target e bytes marks b l = rw (b, l, e) refl

-- ---- what an entry gives back

-- storing what was there takes a store back
stored_back : (l : List ℕ) (at : ℕ) (vs : List ℕ) → at + length vs ≤ length l → sets (sets l at vs) at (part l at (length vs)) ≡ l
stored_back l at vs h = sym (tabulate_is (length l) (λ i. get_or l i 0) back lengths there) ∙ tabulate_is (length l) (λ i. get_or l i 0) l refl (λ i k. refl)
  where
    old : List ℕ
    old = part l at (length vs)

    back : List ℕ
    back = sets (sets l at vs) at old

    lengths : length back ≡ length l
    lengths = length-sets (sets l at vs) at old ∙ length-sets l at vs

    there : (i : ℕ) → i < length l → get_or l i 0 ≡ get_or back i 0
    there i k = by (ltb i at) refl (ltb i (at + length vs)) refl
      where
        by : (p : Bool) → ltb i at ≡ p → (q : Bool) → ltb i (at + length vs) ≡ q → get_or l i 0 ≡ get_or back i 0
        by true p q e =
            let b : i < at = ltb-true i at p in
            sym (stored-before (sets l at vs) at old i b ∙ stored-before l at vs i b)
        by false p true e =
            let b : at ≤ i = ltb-false i at p in
            let c : i < at + length vs = ltb-true i (at + length vs) e in
            let j : at + (i - at) ≡ i = omega arith in
            let s = stored_at (sets l at vs) at old (i - at) (rw (part_length l at (length vs), length-sets l at vs) h) (rw (part_length l at (length vs)) (omega arith)) in
            let s' : get_or back i 0 ≡ get_or old (i - at) 0 = rw j at s in
            let o : get_or old (i - at) 0 ≡ get_or l i 0 = rw j at (part_at l at (length vs) (i - at) (omega arith)) in
            sym (s' ∙ o)
        by false p false e =
            let c : at + length vs ≤ i = ltb-false i (at + length vs) e in
            sym (stored-after (sets l at vs) at old i (rw (part_length l at (length vs)) c) ∙ stored-after l at vs i c)

-- one space of three
space_of-written : (n : ℕ) → 2 ≤ n → n ≤ 4 → (m : Memory) (x : List ℕ) → space_of (with_space m n x) n ≡ x
unfolding space_of with_space
space_of-written = each_space (λ n. (m : Memory) (x : List ℕ) → space_of (with_space m n x) n ≡ x) (λ m x. refl) (λ m x. refl) (λ m x. refl)

space_again : (n : ℕ) → 2 ≤ n → n ≤ 4 → (m : Memory) (x y : List ℕ) → with_space (with_space m n x) n y ≡ with_space m n y
unfolding with_space
space_again = each_space (λ n. (m : Memory) (x y : List ℕ) → with_space (with_space m n x) n y ≡ with_space m n y) (λ m x y. refl) (λ m x y. refl) (λ m x y. refl)

module _ (m : Memory) (v : Varnode) (p : Placed m v) (bytes : OfBytes m) (bs : List ℕ) (l : length bs ≡ v.size) where
  -- of a varnode in a space with bytes
  back_inside : 2 ≤ v.space → restored (written m v bs) v (number_at m v) ≡ m
  unfolding restored written number_at bytes_at
  back_inside h =
      let s : List ℕ = space_of m v.space in
      let read : bytes_of false v.size (value_of false (part s v.offset v.size)) ≡ part s v.offset v.size =
      rw (part_length s v.offset v.size) at (written_read false (part s v.offset v.size) (part_bytes s v.offset v.size (bytes v.space))) in
      let back : sets (sets s v.offset bs) v.offset (part s v.offset v.size) ≡ s = rw l at (stored_back s v.offset bs (rw l (p.within h))) in
      rw (
        ne_eqb v.space 1 (λ z. omega arith),
        space_of-written v.space h p.known m (sets s v.offset bs),
        space_again v.space h p.known m (sets s v.offset bs) (sets (sets s v.offset bs) v.offset (bytes_of false v.size (value_of false (part s v.offset v.size)))),
        read,
        back,
      )
      (space_kept v.space h p.known m)

  -- what an entry has of a varnode gives it back, after it was written
  pub back : restored (written m v bs) v (number_at m v) ≡ m
  unfolding restored
  back = by (leb 2 v.space) refl
    where
      by : (t : Bool) → leb 2 v.space ≡ t → restored (written m v bs) v (number_at m v) ≡ m
      by true t = back_inside (leb-true 2 v.space t)
      by false t =
          let low : v.space < 2 = leb-false 2 v.space t in
          written_elsewhere (written m v bs) v (λ z. omega arith) (λ z. omega arith) (λ z. omega arith) _
          ∙ written_elsewhere m v (λ z. omega arith) (λ z. omega arith) (λ z. omega arith) bs

-- and where nothing was written
pub back_same : (m : Memory) (v : Varnode) → Placed m v → OfBytes m → restored m v (number_at m v) ≡ m
unfolding bytes_at
back_same m v p bytes =
    ap (λ (n : Memory). restored n v (number_at m v)) (sym (written_same m v p)) ∙ back m v p bytes (bytes_at m v) (part_length _ v.offset v.size)

-- ---- the first n entries

pub undone_same : (first second : List ℕ) (number : Entry → ℕ) (n : ℕ) → ((k : ℕ) → k < n → entry_in first k ≡ entry_in second k) → (m : Memory)
    → undone first number n m ≡ undone second number n m
unfolding undone
undone_same first second number zero e m = refl
undone_same first second number (suc n) e m = rw (e n (omega arith)) (undone_same first second number n (λ k h. e k (omega arith)) _)

-- where a varnode lies is a matter of lengths
pub placed_with : {a b : Memory} (v : Varnode) → lengths_of b ≡ lengths_of a → Placed a v → Placed b v
placed_with {a} {b} v e p =
    let n : length (space_of a v.space) ≡ length (space_of b v.space) =
    sym (space_length a v.space) ∙ rw (← e) (space_length b v.space) in
    record { size = p.size; known = p.known; nowhere = p.nowhere; within = λ h. rw (← n) (p.within h) }

-- the loop: what is left to undo gives the whole, and the counts went with the labels
pub record Undoing (journal : List ℕ) (n : ℕ) (labels₀ m₀ counts₀ : Memory) (k : ℕ) (labels m counts : Memory) : Type 0 where
  pub within : k ≤ n
  pub lengths : lengths_of m ≡ lengths_of m₀
  pub label_lengths : lengths_of labels ≡ lengths_of labels₀
  pub bytes : undone journal bytes_of_entry k m ≡ undone journal bytes_of_entry n m₀
  pub marks : undone journal labels_of_entry k labels ≡ undone journal labels_of_entry n labels₀
  pub moved : MovedSpaces low_bit labels₀ labels counts₀ counts

pub undoing_none : (journal : List ℕ) (n : ℕ) (labels m counts : Memory) → Undoing journal n labels m counts n labels m counts
undoing_none journal n labels m counts =
    record { within = omega arith; lengths = refl; label_lengths = refl; bytes = refl; marks = refl; moved = moved_spaces_none labels counts }

module _ {journal : List ℕ} {n : ℕ} {labels₀ m₀ counts₀ : Memory} {k : ℕ} {labels m counts : Memory} (h : Undoing journal n labels₀ m₀ counts₀ k labels m counts) where
  pub count_lengths : lengths_of counts ≡ lengths_of counts₀
  count_lengths = moved_spaces_lengths h.moved

  -- nothing is left
  pub undoing_all : k ≤ 0
      → (m ≡ undone journal bytes_of_entry n m₀) × (labels ≡ undone journal labels_of_entry n labels₀) × MovedSpaces low_bit labels₀ labels counts₀ counts
  unfolding undone
  undoing_all z = let e : k ≡ 0 = omega arith in (rw e at h.bytes, rw e at h.marks, h.moved)

  module _ (u : Undoable journal n labels₀ m₀) (some : 0 < k) where
    pub entry_fits : entry_words * (k - 1) + entry_words ≤ length journal
    entry_fits = let r : entry_words * n ≤ length journal = u.room in let w : k ≤ n = h.within in omega arith

    module _ (entry : Entry) (e : entry ≡ entry_in journal (k - 1)) where
      pub bytes_placed : Placed m entry.target
      bytes_placed = let w : k ≤ n = h.within in placed_with _ h.lengths (rw e (u.placed (k - 1) (omega arith)))

      pub labels_placed : counts_fit (lengths_of labels₀) (lengths_of counts₀) ≡ true
          → Placed labels entry.target × (counts_fit (lengths_of labels) (lengths_of counts) ≡ true)
      labels_placed t =
          let w : k ≤ n = h.within in
          (placed_with _ (h.label_lengths ∙ u.lengths) (rw e (u.placed (k - 1) (omega arith))), rw (h.label_lengths, count_lengths) t)

      pub undoing_more : (labels' m' counts' : Memory) → m' ≡ restored m entry.target entry.bytes
          → Marked labels counts entry.target entry.labels labels' counts' → Undoing journal n labels₀ m₀ counts₀ (k - 1) labels' m' counts'
      unfolding undone restored
      undoing_more labels' m' counts' em marked =
          let s : suc (k - 1) ≡ k = omega arith in
          let el = marked.stored in
          record {
            within = let w : k ≤ n = h.within in omega arith;
            lengths = rw em (written_lengths m _ _ ∙ h.lengths);
            label_lengths = rw el (written_lengths labels _ _ ∙ h.label_lengths);
            bytes = rw (em, e) (rw (← s) at h.bytes);
            marks = rw (el, e) (rw (← s) at h.marks);
            moved = moved_spaces_on h.label_lengths h.moved marked.moved;
          }
