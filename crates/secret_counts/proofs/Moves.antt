-- Counts that moved: nothing moves them, one move after another is a move, and a move back gives them back.
use Rattle.std.proofs.Common.{◌≡◌, ℕ, suc, ◌+◌, ◌%◌, ◌^◌, ◌<◌, ◌≤◌, Bool, true, false, ltb, List, [], ◌∷◌, length, get_or, sym, refl, ap, ◌∙◌, arith, ext_get_or, ltb-false, ltb-true}
use lib.Seq.{sets}
use Rattle.secret_counts.specs.Recount.{count_words}
use Rattle.secret_counts.specs.Moved.{tally, Moved}
use Rattle.secret_counts.specs.Laws.{Words64}
use Rattle.secret_counts.proofs.Tallies.{tally-sets}

-- ---- sums modulo 2^64

more : (a b x : ℕ) → a % 2 ^ 64 ≡ b % 2 ^ 64 → (a + x) % 2 ^ 64 ≡ (b + x) % 2 ^ 64
more a b x e = omega (arith, e)

less : (a b x : ℕ) → (a + x) % 2 ^ 64 ≡ (b + x) % 2 ^ 64 → a % 2 ^ 64 ≡ b % 2 ^ 64
less a b x e = omega (arith, e)

-- what a second move adds to the first
sums : (a b c x y z : ℕ) → (b + x) % 2 ^ 64 ≡ (a + y) % 2 ^ 64 → (c + y) % 2 ^ 64 ≡ (b + z) % 2 ^ 64 → (c + x) % 2 ^ 64 ≡ (a + z) % 2 ^ 64
sums a b c x y z e f =
    less (c + x) (a + z) y
    (ap (λ (n : ℕ). n % 2 ^ 64) (swap c x y)
    ∙ more (c + y) (b + z) x f
    ∙ ap (λ (n : ℕ). n % 2 ^ 64) (swap b z x)
    ∙ more (b + x) (a + y) z e
    ∙ ap (λ (n : ℕ). n % 2 ^ 64) (swap a y z))
  where
    swap : (p q r : ℕ) → (p + q) + r ≡ (p + r) + q
    swap p q r = omega arith

same : (a b x : ℕ) → a < 2 ^ 64 → b < 2 ^ 64 → (a + x) % 2 ^ 64 ≡ (b + x) % 2 ^ 64 → a ≡ b
same a b x ha hb e = omega (arith, ha, hb, e)

-- ---- moves

module _ {weight : ℕ → ℕ} {extent i : ℕ} where
  pub moved_none : (labels counts : List ℕ) → Moved weight extent i labels labels counts counts
  moved_none labels counts = record { same_length = refl; words = λ j h. refl; further = λ j h. refl }

  pub moved_on : {a b c counts counts' counts'' : List ℕ} → Moved weight extent i a b counts counts' → Moved weight extent i b c counts' counts''
      → Moved weight extent i a c counts counts''
  moved_on {a} {b} {c} {counts} {counts'} {counts''} p q = record {
    same_length = q.same_length ∙ p.same_length;
    words = λ j h.
        sums (get_or counts j 0) (get_or counts' j 0) (get_or counts'' j 0) (tally weight extent j i a) (tally weight extent j i b) (tally weight extent j i c)
        (p.words j h) (q.words j h);
    further = λ j h. q.further j h ∙ p.further j h;
  }

  -- two words of 64 bits are told by how they moved
  pub moved_told : {a b counts first second : List ℕ} → Words64 first → Words64 second
      → Moved weight extent i a b counts first → Moved weight extent i a b counts second → first ≡ second
  moved_told {a} {b} {counts} {first} {second} wf ws p q = ext_get_or 0 first second (p.same_length ∙ sym q.same_length) (λ j l. by j (ltb j (count_words extent)) refl)
    where
      by : (j : ℕ) (t : Bool) → ltb j (count_words extent) ≡ t → get_or first j 0 ≡ get_or second j 0
      by j true t =
          same (get_or first j 0) (get_or second j 0) (tally weight extent j i a) (wf j) (ws j)
          (p.words j (ltb-true j (count_words extent) t) ∙ sym (q.words j (ltb-true j (count_words extent) t)))
      by j false t = p.further j (ltb-false j (count_words extent) t) ∙ sym (q.further j (ltb-false j (count_words extent) t))

-- ---- labels that are stored in a space

module _ {weight : ℕ → ℕ} (labels : List ℕ) (at : ℕ) (old new : List ℕ) (e : length old ≡ length new) (h : at + length new ≤ length labels)
    (r : (k : ℕ) → k < length old → get_or old k 0 ≡ get_or labels (at + k) 0) where
  pub moved_in : {counts counts' : List ℕ} → Moved weight (length labels) at old new counts counts'
      → Moved weight (length labels) 0 labels (sets labels at new) counts counts'
  moved_in {counts} {counts'} p = record {
    same_length = p.same_length;
    words = λ j l. carried j (p.words j l) (tally-sets weight (length labels) j labels at old new e h r);
    further = p.further;
  }
    where
      carried : (j : ℕ) → (get_or counts' j 0 + tally weight (length labels) j at old) % 2 ^ 64 ≡ (get_or counts j 0 + tally weight (length labels) j at new) % 2 ^ 64
          → tally weight (length labels) j 0 (sets labels at new) + tally weight (length labels) j at old
          ≡ tally weight (length labels) j 0 labels + tally weight (length labels) j at new
          → (get_or counts' j 0 + tally weight (length labels) j 0 labels) % 2 ^ 64 ≡ (get_or counts j 0 + tally weight (length labels) j 0 (sets labels at new)) % 2 ^ 64
      carried j p s = omega (arith, p, s)

-- ---- other weights of the same labels

module _ {weight weight' : ℕ → ℕ} (same-weight : (l : ℕ) → l ≤ 1 → weight l ≡ weight' l) where
  tally_weight : (extent j i : ℕ) (ls : List ℕ) → ((k : ℕ) → get_or ls k 0 ≤ 1) → tally weight extent j i ls ≡ tally weight' extent j i ls
  unfolding tally
  tally_weight extent j i [] h = refl
  tally_weight extent j i (l ∷ ls) h = rw (same-weight l (h 0), tally_weight extent j (suc i) ls (λ k. h (suc k))) refl

  pub moved_weight : {extent i : ℕ} {before after counts counts' : List ℕ} → ((k : ℕ) → get_or before k 0 ≤ 1) → ((k : ℕ) → get_or after k 0 ≤ 1)
      → Moved weight extent i before after counts counts' → Moved weight' extent i before after counts counts'
  moved_weight {extent} {i} {before} {after} {counts} {counts'} hb ha p = record {
    same_length = p.same_length;
    words = λ j l. rw (tally_weight extent j i before hb, tally_weight extent j i after ha) at (p.words j l);
    further = p.further;
  }
