-- Labels that change move the counts, and what the words count is a recount.
use Rattle.std.proofs.Common.{◌≡◌, ℕ, zero, suc, ◌+◌, ◌-◌, ◌*◌, ◌/◌, ◌%◌, ◌^◌, ◌<◌, ◌≤◌, Bool, true, false, cond, ◌||◌, eqb, ltb, List, [], ◌∷◌, ◌++◌, length, get_or, take, drop, set, sym, refl, ap, ◌∙◌, zero-add, arith, length-append, length-set, length-take, length-take-le, get_or-set_other, get_or-take, get_or-set_same, take_at, ext_get_or, ltb-false, ltb-true, eq-eqb, ne_eqb, eqb-true}
use native.Mathlib.Nat.{sub-zero}
use borrow.Author.Tests.{eqb-false}
use lib.ListN.{get_or-append}
use lib.Seq.{get_or_at, take-nil, drop-nil}
use Rattle.word.specs.Sum.{tabulate}
use Rattle.word.proofs.Sums.{tabulate-length, tabulate_at}
use Rattle.integer.specs.Operations.{flag}
use Rattle.integer.proofs.Booleans.{flag_lt}
use Rattle.secret_counts.specs.Recount.{block_bytes, blocks, count_words, is_secret, secrets, block_of, recount, filled}
use Rattle.secret_counts.specs.Changes.{count_after, word_moved, label_changed, labels_changed, counts_changed}
use Rattle.secret_counts.specs.Moved.{covers, tally, secret_weight, Moved}
use Rattle.secret_counts.specs.Laws.{Words64, Turned, TrueCounts, CountLaws}
use Rattle.secret_counts.proofs.Tallies.{block_lt}
use Rattle.secret_counts.proofs.Moves.{moved_none, moved_told}

-- ---- one label

-- its count moves by as much as its weight
count_moved : (old new count : ℕ) → (count_after old new count + secret_weight old) % 2 ^ 64 ≡ (count + secret_weight new) % 2 ^ 64
unfolding count_after secret_weight flag
count_moved old new count = by (is_secret old) (is_secret new)
  where
    by : (o n : Bool)
        → (cond n (cond o count ((count + 1) % 2 ^ 64)) (cond o ((count + (2 ^ 64 - 1)) % 2 ^ 64) count) + flag o) % 2 ^ 64 ≡ (count + flag n) % 2 ^ 64
    by true true = refl
    by true false = omega arith
    by false true = omega arith
    by false false = refl

count_word : (old new count : ℕ) → count < 2 ^ 64 → count_after old new count < 2 ^ 64
unfolding count_after
count_word old new count h = by (is_secret old) (is_secret new)
  where
    by : (o n : Bool) → cond n (cond o count ((count + 1) % 2 ^ 64)) (cond o ((count + (2 ^ 64 - 1)) % 2 ^ 64) count) < 2 ^ 64
    by true true = h
    by true false = omega arith
    by false true = omega arith
    by false false = h

-- the word that moves, and another
module _ (j old new : ℕ) (counts : List ℕ) where
  word_same : (k : ℕ) → k ≡ j → j < length counts → get_or (word_moved j old new counts) k 0 ≡ count_after old new (get_or counts k 0)
  unfolding word_moved
  word_same k e h = rw e (get_or-set_same counts j _ 0 h)

  word_other : (k : ℕ) → (k ≡ j → ⊥) → get_or (word_moved j old new counts) k 0 ≡ get_or counts k 0
  unfolding word_moved
  word_other k n = get_or-set_other counts j k _ 0 n

  word_length : length (word_moved j old new counts) ≡ length counts
  unfolding word_moved
  word_length = length-set counts j _

  -- a word of 64 bits stays one
  word_word : (k : ℕ) → get_or counts k 0 < 2 ^ 64 → get_or (word_moved j old new counts) k 0 < 2 ^ 64
  unfolding word_moved
  word_word k h = set_word counts j k (count_word old new (get_or counts j 0)) h
    where
      set_word : {x : ℕ} (ws : List ℕ) (j k : ℕ) → (get_or ws j 0 < 2 ^ 64 → x < 2 ^ 64) → get_or ws k 0 < 2 ^ 64 → get_or (set ws j x) k 0 < 2 ^ 64
      set_word [] j k f h = h
      set_word (w ∷ ws) zero zero f h = f h
      set_word (w ∷ ws) zero (suc k) f h = h
      set_word (w ∷ ws) (suc j) zero f h = h
      set_word (w ∷ ws) (suc j) (suc k) f h = set_word ws j k f h

module _ (extent i old new : ℕ) (counts : List ℕ) where
  abbrev block : List ℕ
  block = word_moved (i / block_bytes) old new counts

  label_length : length (label_changed extent i old new counts) ≡ length counts
  unfolding label_changed
  label_length = word_length (blocks extent) old new block ∙ word_length (i / block_bytes) old new counts

  label_word : (k : ℕ) → get_or counts k 0 < 2 ^ 64 → get_or (label_changed extent i old new counts) k 0 < 2 ^ 64
  unfolding label_changed
  label_word k h = word_word (blocks extent) old new block k (word_word (i / block_bytes) old new counts k h)

  module _ (inside : i < extent) where
    label_further : (j : ℕ) → count_words extent ≤ j → get_or (label_changed extent i old new counts) j 0 ≡ get_or counts j 0
    unfolding label_changed count_words
    label_further j h =
        let b = block_lt extent i inside in
        word_other (blocks extent) old new block j (λ z. omega arith) ∙ word_other (i / block_bytes) old new counts j (λ z. omega arith)

    label-moved : count_words extent ≤ length counts → (j : ℕ)
        → (get_or (label_changed extent i old new counts) j 0 + cond (covers extent j i) (secret_weight old) 0) % 2 ^ 64
        ≡ (get_or counts j 0 + cond (covers extent j i) (secret_weight new) 0) % 2 ^ 64
    unfolding label_changed covers count_words
    label-moved long j = by (eqb j (blocks extent)) refl (eqb j (i / block_bytes)) refl
      where
        below : i / block_bytes < blocks extent
        below = block_lt extent i inside

        here : get_or (word_moved (blocks extent) old new block) j 0 ≡ count_after old new (get_or counts j 0)
            → (get_or (word_moved (blocks extent) old new block) j 0 + secret_weight old) % 2 ^ 64 ≡ (get_or counts j 0 + secret_weight new) % 2 ^ 64
        here e = rw e (count_moved old new (get_or counts j 0))

        by : (t : Bool) → eqb j (blocks extent) ≡ t → (b : Bool) → eqb j (i / block_bytes) ≡ b
            → (get_or (word_moved (blocks extent) old new block) j 0 + cond (t || b) (secret_weight old) 0) % 2 ^ 64
            ≡ (get_or counts j 0 + cond (t || b) (secret_weight new) 0) % 2 ^ 64
        by true t b e =
            let total : j ≡ blocks extent = eqb-true j (blocks extent) t in
            here (word_same (blocks extent) old new block j total (omega (arith, word_length (i / block_bytes) old new counts))
            ∙ ap (count_after old new) (word_other (i / block_bytes) old new counts j (λ z. omega (arith, below))))
        by false t true e =
            here (word_other (blocks extent) old new block j (eqb-false j (blocks extent) t)
            ∙ word_same (i / block_bytes) old new counts j (eqb-true j (i / block_bytes) e) (omega (arith, below)))
        by false t false e =
            ap (λ (n : ℕ). (n + 0) % 2 ^ 64)
            (word_other (blocks extent) old new block j (eqb-false j (blocks extent) t) ∙ word_other (i / block_bytes) old new counts j (eqb-false j (i / block_bytes) e))

-- ---- labels, one after the other

-- the same added to both, however the sums are bracketed
plus : (a b x s t : ℕ) → a % 2 ^ 64 ≡ b % 2 ^ 64 → s ≡ a + x → t ≡ b + x → s % 2 ^ 64 ≡ t % 2 ^ 64
plus a b x s t e f g = omega arith

-- what one label adds to the move of those after it
first : (a b c o n x y : ℕ) → (b + o) % 2 ^ 64 ≡ (a + n) % 2 ^ 64 → (c + x) % 2 ^ 64 ≡ (b + y) % 2 ^ 64 → (c + (o + x)) % 2 ^ 64 ≡ (a + (n + y)) % 2 ^ 64
first a b c o n x y e f =
    plus (c + x) (b + y) o (c + (o + x)) (b + o + y) f (omega arith) (omega arith)
    ∙ plus (b + o) (a + n) y (b + o + y) (a + (n + y)) e (omega arith) (omega arith)

pub changed_moved : (extent i : ℕ) (before after counts : List ℕ) → length after ≡ length before → i + length before ≤ extent → count_words extent ≤ length counts
    → Moved secret_weight extent i before after counts (labels_changed extent i before after counts)
unfolding labels_changed tally
changed_moved extent i [] [] counts e h long = moved_none [] counts
changed_moved extent i [] (new ∷ after) counts e h long = absurd (let z : ⊥ = omega arith in z)
changed_moved extent i (old ∷ before) [] counts e h long = absurd (let z : ⊥ = omega arith in z)
changed_moved extent i (old ∷ before) (new ∷ after) counts e h long =
    let next : List ℕ = label_changed extent i old new counts in
    let same = label_length extent i old new counts in
    let inside : i < extent = omega arith in
    let rest = changed_moved extent (suc i) before after next (omega arith) (omega arith) (rw same long) in
    record {
      same_length = rest.same_length ∙ same;
      words = λ j l. first (get_or counts j 0) (get_or next j 0) (get_or (labels_changed extent (suc i) before after next) j 0) _ _ _ _ (label-moved extent i old new counts inside long j) (rest.words j l);
      further = λ j l. rest.further j l ∙ label_further extent i old new counts inside j l;
    }

changed_word : (extent i : ℕ) (before after counts : List ℕ) (k : ℕ) → get_or counts k 0 < 2 ^ 64 → get_or (labels_changed extent i before after counts) k 0 < 2 ^ 64
unfolding labels_changed
changed_word extent i [] after counts k h = h
changed_word extent i (old ∷ before) [] counts k h = h
changed_word extent i (old ∷ before) (new ∷ after) counts k h =
    changed_word extent (suc i) before after (label_changed extent i old new counts) k (label_word extent i old new counts k h)

pub changed_words : (extent i : ℕ) (before after counts : List ℕ) → Words64 counts → Words64 (labels_changed extent i before after counts)
changed_words extent i before after counts h k = changed_word extent i before after counts k (h k)

-- ---- what the words count is a recount

tally_total : (extent i : ℕ) (ls : List ℕ) → tally secret_weight extent (blocks extent) i ls ≡ secrets ls
unfolding tally covers secret_weight secrets
tally_total extent i [] = refl
tally_total extent i (l ∷ ls) = rw (eq-eqb (blocks extent) (blocks extent) refl, tally_total extent (suc i) ls) refl

module _ (extent j : ℕ) (inside : j < blocks extent) where
  abbrev start : ℕ
  start = block_bytes * j

  abbrev tail : (i : ℕ) → (ls : List ℕ) → List ℕ
  tail i ls = drop (start - i) (take (start + block_bytes - i) ls)

  tally_block : (i : ℕ) (ls : List ℕ) → tally secret_weight extent j i ls ≡ secrets (tail i ls)
  unfolding tally secrets covers secret_weight
  tally_block i [] = rw (take-nil {A = ℕ} (start + block_bytes - i), drop-nil {A = ℕ} (start - i)) refl
  tally_block i (l ∷ ls) =
      let n : eqb j (blocks extent) ≡ false = ne_eqb j (blocks extent) (λ z. omega arith) in
      rw (n, tally_block (suc i) ls) (by (ltb i start) refl (ltb i (start + block_bytes)) refl)
    where
      by : (s : Bool) → ltb i start ≡ s → (t : Bool) → ltb i (start + block_bytes) ≡ t
          → cond (eqb j (i / block_bytes)) (secret_weight l) 0 + secrets (tail (suc i) ls) ≡ secrets (tail i (l ∷ ls))
      -- before the block, in it, and after it
      by true s t e =
          let h : i < start = ltb-true i start s in
          let other : eqb j (i / block_bytes) ≡ false = ne_eqb j (i / block_bytes) (λ z. omega arith) in
          let from : start - i ≡ suc (start - suc i) = omega arith in
          let to : start + block_bytes - i ≡ suc (start + block_bytes - suc i) = omega arith in
          rw (other, from, to) (zero-add _)
      by false s true e =
          let h : start ≤ i = ltb-false i start s in
          let k : i < start + block_bytes = ltb-true i (start + block_bytes) e in
          let this : eqb j (i / block_bytes) ≡ true = eq-eqb j (i / block_bytes) (omega arith) in
          let from : start - i ≡ 0 = omega arith in
          let next : start - suc i ≡ 0 = omega arith in
          let to : start + block_bytes - i ≡ suc (start + block_bytes - suc i) = omega arith in
          rw (this, from, next, to) refl
      by false s false e =
          let k : start + block_bytes ≤ i = ltb-false i (start + block_bytes) e in
          let other : eqb j (i / block_bytes) ≡ false = ne_eqb j (i / block_bytes) (λ z. omega arith) in
          let to : start + block_bytes - i ≡ 0 = omega arith in
          let next : start + block_bytes - suc i ≡ 0 = omega arith in
          rw (other, to, next, drop-nil {A = ℕ} (start - i), drop-nil {A = ℕ} (start - suc i)) refl

pub recount-length : (labels : List ℕ) → length (recount labels) ≡ count_words (length labels)
unfolding recount count_words
recount-length labels = length-append (tabulate (blocks (length labels)) (λ b. secrets (block_of labels b))) _ ∙ ap (◌+ 1) (tabulate-length (blocks (length labels)) _)

pub tally-recount : (labels : List ℕ) (j : ℕ) → j < count_words (length labels) → tally secret_weight (length labels) j 0 labels ≡ get_or (recount labels) j 0
unfolding recount count_words block_of
tally-recount labels j h = by (ltb j n) refl
  where
    n : ℕ
    n = blocks (length labels)

    f : ℕ → ℕ
    f b = secrets (block_of labels b)

    by : (t : Bool) → ltb j n ≡ t → tally secret_weight (length labels) j 0 labels ≡ get_or (tabulate n f ++ (secrets labels ∷ [])) j 0
    by true t =
        let inside : j < n = ltb-true j n t in
        tally_block (length labels) j inside 0 labels
        ∙ (simp sub-zero)
        ∙ sym (get_or-append (tabulate n f) (secrets labels ∷ []) 0 j (omega (arith, tabulate-length n f)) ∙ tabulate_at n f j inside)
    by false t =
        let total : j ≡ n = omega (arith, ltb-false j n t) in
        rw total (tally_total (length labels) 0 labels ∙ sym (get_or_at (tabulate n f) (secrets labels) [] 0 n (tabulate-length n f)))

-- a count is at most the labels counted
tally_most : (extent j i : ℕ) (ls : List ℕ) → tally secret_weight extent j i ls ≤ length ls
unfolding tally secret_weight
tally_most extent j i [] = omega arith
tally_most extent j i (l ∷ ls) = omega (arith, one (covers extent j i), tally_most extent j (suc i) ls)
  where
    one : (t : Bool) → cond t (flag (is_secret l)) 0 ≤ 1
    one true = omega (arith, flag_lt (is_secret l))
    one false = omega arith

-- ---- the laws

-- a move by secret bytes is told by recounts
module _ {before after counts counts' : List ℕ} (e : length after ≡ length before) where
  pub turned_of : Moved secret_weight (length before) 0 before after counts counts' → Turned before after counts counts'
  turned_of p = record {
    same_length = p.same_length;
    words = λ j h. rw (← (tally-recount before j h), ← (tally-recount after j (rw e h)), e) (p.words j h);
    further = p.further;
  }

  pub moved_of : Turned before after counts counts' → Moved secret_weight (length before) 0 before after counts counts'
  moved_of p = record {
    same_length = p.same_length;
    words = λ j h. rw (tally-recount before j h, ← e, tally-recount after j (rw e h)) (p.words j h);
    further = p.further;
  }

changed_turned : (before after counts : List ℕ) → length after ≡ length before → count_words (length before) ≤ length counts
    → Turned before after counts (counts_changed before after counts)
unfolding counts_changed
changed_turned before after counts e long = turned_of e (changed_moved (length before) 0 before after counts e (omega arith) long)

-- true counts, word by word
module _ (labels counts : List ℕ) where
  true_at : TrueCounts labels counts → (j : ℕ) → j < count_words (length labels) → get_or counts j 0 ≡ get_or (recount labels) j 0
  true_at t j h = sym (get_or-take (count_words (length labels)) counts j 0 h) ∙ ap (λ (ws : List ℕ). get_or ws j 0) t

  true_long : TrueCounts labels counts → count_words (length labels) ≤ length counts
  true_long t = omega (arith, length-take (count_words (length labels)) counts, ap length t, recount-length labels)

  true_from : count_words (length labels) ≤ length counts → ((j : ℕ) → j < count_words (length labels) → get_or counts j 0 ≡ get_or (recount labels) j 0) → TrueCounts labels counts
  true_from long h =
      let n = count_words (length labels) in
      let same = length-take-le n counts long in
      ext_get_or 0 (take n counts) (recount labels) (same ∙ sym (recount-length labels))
      (λ j l. let inside : j < n = omega (arith, same) in get_or-take n counts j 0 inside ∙ h j inside)

-- a word that moved from one recount is the other
moved_exact : (a b c n : ℕ) → n < 2 ^ 64 → a < 2 ^ 64 → b ≤ n → (a + c) % 2 ^ 64 ≡ (c + b) % 2 ^ 64 → a ≡ b
moved_exact a b c n small ha hb e = omega arith

recount_most : (labels : List ℕ) (j : ℕ) → j < count_words (length labels) → get_or (recount labels) j 0 ≤ length labels
recount_most labels j h = rw (← (tally-recount labels j h)) (tally_most (length labels) j 0 labels)

kept_true : (before after counts : List ℕ) → length after ≡ length before → length before < 2 ^ 64 → TrueCounts before counts
    → TrueCounts after (counts_changed before after counts)
unfolding counts_changed
kept_true before after counts e small t =
    let long = true_long before counts t in
    let p = changed_turned before after counts e long in
    let after_long : count_words (length after) ≤ length (counts_changed before after counts) = rw (e, p.same_length) long in
    true_from after (counts_changed before after counts) after_long
    (λ j h.
    let k : j < count_words (length before) = rw e at h in
    let was = true_at before counts t j k in
    let fits = changed_word (length before) 0 before after counts j (omega (arith, was, recount_most before j k)) in
    moved_exact (get_or (counts_changed before after counts) j 0) (get_or (recount after) j 0) (get_or (recount before) j 0) (length before) small fits
    (rw e at (recount_most after j h)) (rw was at (p.words j k)))

pub count_laws : CountLaws
unfolding counts_changed filled
count_laws = record {
  turned = changed_turned;
  words64 = λ before after. changed_words (length before) 0 before after;
  told = λ before after counts first second wf ws p q.
      moved_told {weight = secret_weight} {i = 0} wf ws (moved_none before first)
      (record {
        same_length = q.same_length ∙ sym p.same_length;
        words = λ j h. rw (tally-recount before j h) (q.words j h ∙ sym (p.words j h));
        further = λ j h. q.further j h ∙ sym (p.further j h);
      });
  kept = kept_true;
  fills = λ labels counts long. take_at (recount labels) (drop (count_words (length labels)) counts) (count_words (length labels)) (recount-length labels);
}
