-- What every operation keeps: the lengths of memory and labels, that each label is 0 or 1, and the log's room.
use Prim.Native.Nat.{ℕ, zero, suc, ◌+◌, ◌≤◌}
use native.Mathlib.Omega.{arith}
use mathlib.Core.Path.{◌≡◌, refl, ◌∙◌}
use mathlib.Core.Bool.{Bool, true, false, cond, ◌&&◌}
use mathlib.Core.List.{List, [], ◌∷◌, ◌++◌}
use borrow.Author.Tests.{eqb-false}
use lib.ListN.{length, get_or, set, replicate, length-append}
use lib.Seq.{sets, length-sets}
use lib.Dec.{ltb, leb, eqb}
use Rattle.word.specs.Sum.{tabulate}
use Rattle.word.specs.Word.{part, significance}
use Rattle.integer.specs.Operations.{flag}
use Rattle.integer.proofs.Booleans.{both}
use Rattle.operation.specs.declared.layout.Settings.{Settings}
use Rattle.operation.specs.declared.layout.Varnode.{Varnode}
use Rattle.operation.specs.Spaces.{Lengths}
use Rattle.operation.specs.Layout.{operation_count}
use Rattle.machine.specs.Program.{Program, big_endian}
use Rattle.machine.specs.Memory.{Memory, lengths_of, space_of, with_space, bytes_at, written, ordered}
use Rattle.machine.specs.Effect.{Operation, Kind, operation_at, target, moves, Origin, origin, entry_from, moved, secret, labels_of, label_fill, labels_written}
use Rattle.machine.specs.Run.{Stop, Decision, Position, Ended, Stepped, logging, go_to, access, checked, decided, advanced, ended, apply_decision, execute_as, execute}
use Rattle.machine.specs.Run.{stepped, continued}
use Rattle.machine.specs.Calls.{all_labels, labels_in_range}
use Rattle.machine.proofs.Cases.{either}
use Rattle.machine.proofs.Budget.{Repeats}

-- ---- writing keeps lengths, and labels of 0 or 1

pub written_lengths : (m : Memory) (v : Varnode) (bs : List ℕ) → lengths_of (written m v bs) ≡ lengths_of m
unfolding written with_space space_of lengths_of
written_lengths m v bs = by (eqb v.space 2) (eqb v.space 3) (eqb v.space 4)
  where
    by : (p q r : Bool)
        → lengths_of
        (cond p (record { unique = sets (cond p m.unique (cond q m.register (cond r m.ram []))) v.offset bs; register = m.register; ram = m.ram })
        (cond q (record { unique = m.unique; register = sets (cond p m.unique (cond q m.register (cond r m.ram []))) v.offset bs; ram = m.ram })
        (cond r (record { unique = m.unique; register = m.register; ram = sets (cond p m.unique (cond q m.register (cond r m.ram []))) v.offset bs }) m)))
        ≡ lengths_of m
    by true q r = rw (length-sets m.unique v.offset bs)
    by false true r = rw (length-sets m.register v.offset bs)
    by false false true = rw (length-sets m.ram v.offset bs)
    by false false false = refl

all_set : (l : List ℕ) (i x : ℕ) → all_labels l ≡ true → leb x 1 ≡ true → all_labels (set l i x) ≡ true
unfolding all_labels
all_set [] i x h e = refl
all_set (y ∷ l) zero x h e = let b = both (leb y 1) (all_labels l) h in rw (e, b.1)
all_set (y ∷ l) (suc i) x h e = let b = both (leb y 1) (all_labels l) h in rw (b.0, all_set l i x b.1 e)

all_sets : (l : List ℕ) (i : ℕ) (xs : List ℕ) → all_labels l ≡ true → all_labels xs ≡ true → all_labels (sets l i xs) ≡ true
unfolding all_labels
all_sets l i [] h e = h
all_sets l i (x ∷ xs) h e = let b = both (leb x 1) (all_labels xs) e in all_sets (set l i x) (suc i) xs (all_set l i x h b.0) b.1

flag_label : (t : Bool) → leb (flag t) 1 ≡ true
unfolding flag
flag_label true = refl
flag_label false = refl

all_flags : (n : ℕ) (t : Bool) → all_labels (replicate n (flag t)) ≡ true
unfolding all_labels
all_flags zero t = refl
all_flags (suc n) t = rw (flag_label t, all_flags n t)

pub all_at : (ls : List ℕ) → all_labels ls ≡ true → (i : ℕ) → leb (get_or ls i 0) 1 ≡ true
unfolding all_labels
all_at [] h i = refl
all_at (l ∷ ls) h zero = (both (leb l 1) (all_labels ls) h).0
all_at (l ∷ ls) h (suc i) = all_at ls (both (leb l 1) (all_labels ls) h).1 i

all_tabulate : (n : ℕ) (f : ℕ → ℕ) → ((i : ℕ) → leb (f i) 1 ≡ true) → all_labels (tabulate n f) ≡ true
unfolding all_labels tabulate
all_tabulate zero f h = refl
all_tabulate (suc n) f h = rw (h 0, all_tabulate n (λ i. f (suc i)) (λ i. h (suc i)))

all_append : (ls ks : List ℕ) → all_labels ls ≡ true → all_labels ks ≡ true → all_labels (ls ++ ks) ≡ true
unfolding all_labels
all_append [] ks h e = e
all_append (l ∷ ls) ks h e = let b = both (leb l 1) (all_labels ls) h in rw (b.0, all_append ls ks b.1 e)

module _ (labels : Memory) (h : labels_in_range labels ≡ true) where
  pub all_space : (space : ℕ) → all_labels (space_of labels space) ≡ true
  unfolding labels_in_range space_of all_labels
  all_space space =
      let b = both (all_labels labels.unique && all_labels labels.register) (all_labels labels.ram) h in
      let a = both (all_labels labels.unique) (all_labels labels.register) b.0 in
      either (λ (l : List ℕ). all_labels l ≡ true) (eqb space 2) _ _ a.0
      (either (λ (l : List ℕ). all_labels l ≡ true) (eqb space 3) _ _ a.1 (either (λ (l : List ℕ). all_labels l ≡ true) (eqb space 4) _ _ b.1 refl))

  all_label_bytes : (v : Varnode) → all_labels (bytes_at labels v) ≡ true
  unfolding bytes_at part
  all_label_bytes v = all_tabulate v.size (λ i. get_or (space_of labels v.space) (v.offset + i) 0) (λ i. all_at (space_of labels v.space) (all_space v.space) (v.offset + i))

  all_read : (settings : Settings) (vs : List Varnode) → all_labels (labels_of settings labels vs) ≡ true
  unfolding labels_of ordered all_labels
  all_read settings [] = refl
  all_read settings (v ∷ vs) =
      let bs : List ℕ = bytes_at labels v in
      let f : ℕ → ℕ = λ i. get_or bs (significance (big_endian settings) (length bs) i) 0 in
      all_append (tabulate (length bs) f) (labels_of settings labels vs) (all_tabulate (length bs) f (λ i. all_at bs (all_label_bytes v) _)) (all_read settings vs)

  entry_label : (ls : List ℕ) → all_labels ls ≡ true → (o : Origin) → leb (entry_from label_fill ls o) 1 ≡ true
  unfolding entry_from label_fill
  entry_label ls e (Origin.read k) = all_at ls e k
  entry_label ls e Origin.zeros = refl
  entry_label ls e (Origin.filled k) = all_at ls e k

  all_written : (settings : Settings) (op : Operation) (size : ℕ) (vs : List Varnode) → all_labels (labels_written settings op size vs labels) ≡ true
  unfolding labels_written moved
  all_written settings op size vs =
      either (λ (l : List ℕ). all_labels l ≡ true) (moves op) _ _
      (all_tabulate size (λ i. entry_from label_fill (labels_of settings labels vs) (origin op (length (labels_of settings labels vs)) (significance (big_endian settings) size i)))
      (λ i. entry_label (labels_of settings labels vs) (all_read settings vs) _))
      (all_flags size (secret labels vs))

written_labels : (labels : Memory) (v : Varnode) (xs : List ℕ) → labels_in_range labels ≡ true → all_labels xs ≡ true → labels_in_range (written labels v xs) ≡ true
unfolding written with_space space_of labels_in_range
written_labels m v xs h e = by (eqb v.space 2) (eqb v.space 3) (eqb v.space 4)
  where
    b : (all_labels m.unique && all_labels m.register ≡ true) × (all_labels m.ram ≡ true)
    b = both (all_labels m.unique && all_labels m.register) (all_labels m.ram) h

    a : (all_labels m.unique ≡ true) × (all_labels m.register ≡ true)
    a = both (all_labels m.unique) (all_labels m.register) b.0

    by : (p q r : Bool)
        → labels_in_range
        (cond p (record { unique = sets (cond p m.unique (cond q m.register (cond r m.ram []))) v.offset xs; register = m.register; ram = m.ram })
        (cond q (record { unique = m.unique; register = sets (cond p m.unique (cond q m.register (cond r m.ram []))) v.offset xs; ram = m.ram })
        (cond r (record { unique = m.unique; register = m.register; ram = sets (cond p m.unique (cond q m.register (cond r m.ram []))) v.offset xs }) m)))
        ≡ true
    by true q r = rw (all_sets m.unique v.offset xs a.0 e, a.1, b.1)
    by false true r = rw (all_sets m.register v.offset xs a.1 e, a.0, b.1)
    by false false true = rw (all_sets m.ram v.offset xs b.1 e, a.0, a.1)
    by false false false = h

-- ---- an operation writes at most one log word, and none without room for it

pub data Fits (room : ℕ) : Decision → Type 0 where
  stops : {e : Stop} → Fits room (Decision.stop e)
  nexts : {words : List ℕ} {i : ℕ} → length words ≤ room → length words ≤ 1 → Fits room (Decision.next words i)
  exited : {words : List ℕ} {d : ℕ} → length words ≤ room → length words ≤ 1 → Fits room (Decision.exit words d)

logging_fits : (room word : ℕ) (d : List ℕ → Decision) → ((words : List ℕ) → length words ≤ room → length words ≤ 1 → Fits room (d words)) → Fits room (logging room word d)
unfolding logging
logging_fits room word d h = by (eqb room 0) refl
  where
    by : (t : Bool) → eqb room 0 ≡ t → Fits room (cond t (Decision.stop Stop.log_full) (d (word ∷ [])))
    by true t = stops
    by false t = h (word ∷ []) (let n : room ≡ 0 → ⊥ = eqb-false room 0 t in omega arith) (omega arith)

goto_fits : (room i : ℕ) (v : Varnode) (words : List ℕ) → length words ≤ room → length words ≤ 1 → Fits room (go_to i v words)
unfolding go_to
goto_fits room i v words h s = either (Fits room) (eqb v.space 1) _ _ (nexts h s) (exited h s)

access_fits : (i extent room offset size : ℕ) → Fits room (access i extent room offset size)
unfolding access
access_fits i extent room offset size = either (Fits room) (leb (offset + size) extent) _ _ (logging_fits room _ _ (λ words h s. nexts h s)) stops

none : {room i : ℕ} → Fits room (Decision.next [] i)
none = nexts {words = []} (omega arith) (omega arith)

checked_fits : (k : Kind) (op : Operation) (i extent room x : ℕ) → Fits room (checked k op i extent room x)
unfolding checked
checked_fits Kind.copy op i extent room x = none
checked_fits Kind.load op i extent room x = access_fits i extent room x _
checked_fits Kind.store op i extent room x = access_fits i extent room x _
checked_fits Kind.branch op i extent room x = goto_fits room i op.input0 [] (omega arith) (omega arith)
checked_fits Kind.cbranch op i extent room x =
    either (Fits room) (eqb x 0) _ _ (logging_fits room _ _ (λ words h s. nexts h s)) (logging_fits room _ _ (goto_fits room i op.input0))
checked_fits Kind.jump op i extent room x = exited {words = []} (omega arith) (omega arith)
checked_fits Kind.piece op i extent room x = none
checked_fits Kind.subpiece op i extent room x = none
checked_fits Kind.divide op i extent room x = either (Fits room) (eqb x 0) _ _ stops none
checked_fits Kind.compute op i extent room x = none

pub decided_fits : (t : Bool) (k : Kind) (op : Operation) (i extent room x : ℕ) → Fits room (decided t k op i extent room x)
unfolding decided
decided_fits t k op i extent room x = either (Fits room) t _ _ stops (checked_fits k op i extent room x)

-- ---- the run

-- A log of `words` words, spaces and labels of the same lengths as at the start, and every label 0 or 1 if all were at the start.
pub record Kept (words : ℕ) (spaces : Lengths) (marks : Memory) (at : Position) (labels m : Memory) : Type 0 where
  pub log : at.room + length at.log ≡ words
  pub memory : lengths_of m ≡ spaces
  pub lengths : lengths_of labels ≡ lengths_of marks
  pub values : labels_in_range marks ≡ true → labels_in_range labels ≡ true

module _ (words : ℕ) (spaces : Lengths) (marks : Memory) where
  pub data KeptStep : Stepped → Type 0 where
    halts : {r : Ended} → Kept words spaces marks r.position r.labels r.memory → KeptStep (Stepped.halted r)
    goes : {at : Position} {labels m : Memory} → Kept words spaces marks at labels m → KeptStep (Stepped.going at labels m)

  advanced_log : (at : Position) (i : ℕ) (vs : List ℕ) → length vs ≤ at.room → at.room + length at.log ≡ words
      → (advanced at i vs).room + length (advanced at i vs).log ≡ words
  unfolding advanced
  advanced_log at i vs h e = rw (length-append at.log vs) (omega (arith, h, e))

  applied_kept : (program : Program) (k : Kind) (op : Operation) (at : Position) (labels m : Memory) (x : ℕ) {d : Decision} → Fits at.room d
      → Kept words spaces marks at labels m → KeptStep (apply_decision program k op at labels m x d)
  unfolding apply_decision ended
  applied_kept program k op at labels m x stops h = halts h
  applied_kept program k op at labels m x (exited l s) h =
      halts (record { log = advanced_log at _ _ l h.log; memory = h.memory; lengths = h.lengths; values = h.values })
  applied_kept program k op at labels m x (nexts l s) h =
      goes (record {
        log = advanced_log at _ _ l h.log;
        memory = written_lengths m (target k op x) _ ∙ h.memory;
        lengths = written_lengths labels (target k op x) _ ∙ h.lengths;
        values = λ q. written_labels labels (target k op x) _ (h.values q) (all_written labels (h.values q) program.settings op _ _);
      })

  pub stepped_kept : (program : Program) (at : Position) (labels m : Memory) → Kept words spaces marks at labels m → KeptStep (stepped program at labels m)
  unfolding stepped execute execute_as ended
  stepped_kept program at labels m h =
      either KeptStep (ltb at.index (operation_count program.list)) _ _
      (applied_kept program _ (operation_at program.list at.index) at labels m _ (decided_fits _ _ _ _ _ _ _) h) (halts h)

  continued_kept : (f : Position → Memory → Memory → Ended)
      → ((at : Position) (labels m : Memory) → Kept words spaces marks at labels m
      → Kept words spaces marks (f at labels m).position (f at labels m).labels (f at labels m).memory)
      → {a : Stepped} → KeptStep a → Kept words spaces marks (continued f a).position (continued f a).labels (continued f a).memory
  unfolding continued
  continued_kept f q (halts h) = h
  continued_kept f q (goes {at} {labels} {m} h) = q at labels m h

  pub run_kept : {program : Program} {S : Position → Memory → Memory → Stepped} {R : ℕ → Position → Memory → Memory → Ended} → Repeats program S R
      → ((at : Position) (labels m : Memory) → Kept words spaces marks at labels m → KeptStep (S at labels m))
      → (b : ℕ) (at : Position) (labels m : Memory) → Kept words spaces marks at labels m
      → Kept words spaces marks (R b at labels m).position (R b at labels m).labels (R b at labels m).memory
  unfolding ended
  run_kept u k zero at labels m h = rw (u.none at labels m) h
  run_kept u k (suc b) at labels m h = rw (u.next b at labels m) (continued_kept _ (λ at' l m' h'. run_kept u k b at' l m' h') (k at labels m h))
