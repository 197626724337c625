-- Laws of counts that moved in three spaces, space by space.
use Prim.Native.Nat.{ℕ, zero, suc, ◌≤◌}
use native.Mathlib.Omega.{arith}
use mathlib.Core.Bool.{Bool, true, false, cond, ◌&&◌}
use mathlib.Core.List.{List, []}
use mathlib.Core.Path.{◌≡◌, refl, ap}
use borrow.Author.Tests.{leb-true}
use lib.Dec.{eqb, leb}
use lib.ListN.{length, get_or}
use Rattle.integer.specs.Operations.{flag}
use Rattle.integer.proofs.Booleans.{both}
use Rattle.secret_counts.specs.Recount.{count_words, is_secret}
use Rattle.secret_counts.specs.Changes.{labels_changed, counts_changed}
use Rattle.secret_counts.specs.Moved.{secret_weight, low_bit, Moved}
use Rattle.secret_counts.specs.Laws.{Words64}
use Rattle.secret_counts.proofs.Moves.{moved_none, moved_on, moved_told, moved_weight}
use Rattle.secret_counts.proofs.Recounting.{changed_moved, count_laws}
use Rattle.operation.specs.Spaces.{Lengths}
use Rattle.machine.specs.Memory.{Memory, spaces, lengths_of, space_of}
use Rattle.machine.specs.Calls.{labels_in_range}
use Rattle.machine.specs.Counts.{counts_after, counts_fit}
use Rattle.machine.specs.MovedCounts.{MovedSpaces}
use Rattle.machine.specs.Recounts.{WordsOf}
use Rattle.machine.proofs.Cases.{either, either₂}
use Rattle.machine.proofs.Kept.{all_at, all_space}

-- two memories with the same spaces
same_spaces : (m n : Memory) → m.unique ≡ n.unique → m.register ≡ n.register → m.ram ≡ n.ram → m ≡ n
same_spaces m n e f g = rw (e, f, g) refl

module _ {weight : ℕ → ℕ} where
  pub moved_spaces_none : (labels counts : Memory) → MovedSpaces weight labels labels counts counts
  moved_spaces_none labels counts = record {
    unique = moved_none labels.unique counts.unique;
    register = moved_none labels.register counts.register;
    ram = moved_none labels.ram counts.ram;
  }

  -- one move after another, where the labels between have the lengths of those before
  pub moved_spaces_on : {a b c counts counts' counts'' : Memory} → lengths_of b ≡ lengths_of a → MovedSpaces weight a b counts counts'
      → MovedSpaces weight b c counts' counts'' → MovedSpaces weight a c counts counts''
  unfolding lengths_of
  moved_spaces_on e p q = record {
    unique = moved_on p.unique (rw (ap (λ (x : Lengths). x.unique) e) at q.unique);
    register = moved_on p.register (rw (ap (λ (x : Lengths). x.register) e) at q.register);
    ram = moved_on p.ram (rw (ap (λ (x : Lengths). x.ram) e) at q.ram);
  }

  pub moved_spaces_told : {a b counts first second : Memory} → WordsOf first → WordsOf second → MovedSpaces weight a b counts first
      → MovedSpaces weight a b counts second → first ≡ second
  unfolding space_of
  moved_spaces_told {first} {second} wf ws p q =
      same_spaces first second (moved_told (wf 2) (ws 2) p.unique q.unique) (moved_told (wf 3) (ws 3) p.register q.register)
      (moved_told (wf 4) (ws 4) p.ram q.ram)

  pub moved_spaces_lengths : {a b counts counts' : Memory} → MovedSpaces weight a b counts counts' → lengths_of counts' ≡ lengths_of counts
  unfolding lengths_of
  moved_spaces_lengths p = rw (p.unique.same_length, p.register.same_length, p.ram.same_length) refl

-- counts that fit, space by space
pub counts_fit_lem : (lengths words : Lengths) → counts_fit lengths words ≡ true
    → (count_words lengths.unique ≤ words.unique) × (count_words lengths.register ≤ words.register) × (count_words lengths.ram ≤ words.ram)
unfolding counts_fit
counts_fit_lem lengths words t =
    let unique = leb (count_words lengths.unique) words.unique in
    let register = leb (count_words lengths.register) words.register in
    let e = both (unique && register) (leb (count_words lengths.ram) words.ram) t in
    let f = both unique register e.0 in
    (leb-true _ _ f.0, leb-true _ _ f.1, leb-true _ _ e.1)

-- labels that change move the counts
pub after-moved : (before after counts : Memory) → lengths_of after ≡ lengths_of before → counts_fit (lengths_of before) (lengths_of counts) ≡ true
    → MovedSpaces secret_weight before after counts (counts_after before after counts)
unfolding lengths_of counts_after counts_changed
after-moved before after counts e t =
    let long = counts_fit_lem (lengths_of before) (lengths_of counts) t in
    record {
      unique = in_space_lem before.unique after.unique counts.unique (ap (λ (x : Lengths). x.unique) e) long.0;
      register = in_space_lem before.register after.register counts.register (ap (λ (x : Lengths). x.register) e) long.1;
      ram = in_space_lem before.ram after.ram counts.ram (ap (λ (x : Lengths). x.ram) e) long.2;
    }
  where
    in_space_lem : (before after counts : List ℕ) → length after ≡ length before → count_words (length before) ≤ length counts
        → Moved secret_weight (length before) 0 before after counts (counts_changed before after counts)
    in_space_lem before after counts e long = changed_moved (length before) 0 before after counts e (omega arith) long

-- space by space
pub space_lengths : (m n : Memory) → lengths_of m ≡ lengths_of n → (space : ℕ) → length (space_of m space) ≡ length (space_of n space)
unfolding lengths_of space_of
space_lengths m n e space =
    either₂ Same (eqb space 2) _ _ _ _ (ap (λ (x : Lengths). x.unique) e)
    (either₂ Same (eqb space 3) _ _ _ _ (ap (λ (x : Lengths). x.register) e) (either₂ Same (eqb space 4) _ _ _ _ (ap (λ (x : Lengths). x.ram) e) refl))
  where
    Same : List ℕ → List ℕ → Type 0
    Same a b = length a ≡ length b

pub after_space : (before after counts : Memory) (space : ℕ)
    → space_of (counts_after before after counts) space ≡ counts_changed (space_of before space) (space_of after space) (space_of counts space)
unfolding counts_after space_of counts_changed labels_changed
after_space before after counts space = by (eqb space 2) (eqb space 3) (eqb space 4)
  where
    changed : (Memory → List ℕ) → List ℕ
    changed f = counts_changed (f before) (f after) (f counts)

    one : (p q r : Bool) → Memory → List ℕ
    one p q r m = cond p m.unique (cond q m.register (cond r m.ram []))

    by : (p q r : Bool) → cond p (changed (λ m. m.unique)) (cond q (changed (λ m. m.register)) (cond r (changed (λ m. m.ram)) [])) ≡ changed (one p q r)
    by true q r = refl
    by false true r = refl
    by false false true = refl
    by false false false = refl

-- words of 64 bits stay such words
pub after-words : (before after counts : Memory) → WordsOf counts → WordsOf (counts_after before after counts)
after-words before after counts w space =
    rw (after_space before after counts space) (count_laws.words64 (space_of before space) (space_of after space) (space_of counts space) (w space))

-- three lent buffers of such words
pub of_words : (unique register ram : List ℕ) → Words64 unique → Words64 register → Words64 ram → WordsOf (spaces unique register ram)
unfolding space_of
of_words unique register ram u r m space =
    either Words64 (eqb space 2) _ _ u (either Words64 (eqb space 3) _ _ r (either Words64 (eqb space 4) _ _ m (λ k. omega arith)))

-- of labels the lowest bit is what is secret
pub label_weight : (l : ℕ) → l ≤ 1 → low_bit l ≡ secret_weight l
unfolding low_bit secret_weight is_secret flag
label_weight zero h = refl
label_weight (suc zero) h = refl
label_weight (suc (suc l)) h = absurd (let z : ⊥ = omega arith in z)

pub moved_labels : {before after counts counts' : Memory} → labels_in_range before ≡ true → labels_in_range after ≡ true
    → MovedSpaces low_bit before after counts counts' → MovedSpaces secret_weight before after counts counts'
unfolding space_of
moved_labels {before} {after} hb ha p = record {
  unique = moved_weight label_weight (few before hb 2) (few after ha 2) p.unique;
  register = moved_weight label_weight (few before hb 3) (few after ha 3) p.register;
  ram = moved_weight label_weight (few before hb 4) (few after ha 4) p.ram;
}
  where
    few : (labels : Memory) → labels_in_range labels ≡ true → (space k : ℕ) → get_or (space_of labels space) k 0 ≤ 1
    few labels h space k = leb-true _ 1 (all_at (space_of labels space) (all_space labels h space) k)
