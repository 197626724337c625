-- Noninterference, first half: two low-equivalent memories have runs that cannot be told apart.
use Prim.Native.Nat.{ℕ, zero, suc}
use native.Mathlib.Omega.{arith}
use mathlib.Core.Path.{◌≡◌, refl, sym, ap, ap₂, ◌∙◌}
use mathlib.Core.Bool.{Bool, true, false, cond, not}
use mathlib.Core.List.{List, [], ◌∷◌}
use borrow.Author.Tests.{eqb-true, not-false}
use lib.ListN.{length, replicate}
use lib.Dec.{ltb, eqb}
use Rattle.word.specs.Sum.{tabulate}
use Rattle.word.specs.Word.{part, bytes_of}
use Rattle.word.proofs.Laws.{bytes-length}
use Rattle.integer.specs.Operations.{flag}
use Rattle.integer.proofs.Booleans.{neither}
use Rattle.operation.specs.declared.layout.Settings.{Settings}
use Rattle.operation.specs.declared.layout.Varnode.{Varnode}
use Rattle.operation.specs.Layout.{operation_count, absent}
use Rattle.machine.specs.Program.{Program, big_endian}
use Rattle.machine.specs.Memory.{Memory, bytes_at, value_at, ordered, digits_at}
use Rattle.machine.specs.Effect.{Operation, Kind, operation_at, sinks, tested, resolved, moves, Origin, entry_from, moved, sign_fill, digits_of, values_of, computed, bytes_written}
use Rattle.machine.specs.Effect.{any_secret, secret, labels_of, label_fill, labels_written}
use Rattle.machine.specs.Run.{Decision, Position, Ended, Stepped, decided, checked, ended, resolved_value, apply_decision, execute_as, execute, stepped, continued, run}
use Rattle.machine.proofs.Pointwise.{Each, Spaces, each_length, each_label_length, each_at, each_tabulate, each_append, each_ordered, spaces_space, spaces_at, spaces-written}
use Rattle.machine.proofs.Cases.{either₂, either₃}
use Rattle.machine.proofs.Moves.{length-ordered, bytes_count}

-- Under the label 0 (public) the two bytes are the same.
abbrev pub Public : (label first second : ℕ) → Type 0
Public l a b = l ≡ 0 → a ≡ b

-- The same ending, value, position and labels, and the same public bytes.
pub record SameView (r q : Ended) : Type 0 where
  pub ending : r.ending ≡ q.ending
  pub value : r.value ≡ q.value
  pub position : r.position ≡ q.position
  pub labels : r.labels ≡ q.labels
  pub memory : Spaces Public r.labels r.memory q.memory

-- ---- public bytes

public_same : {ls a b : List ℕ} → Each Public ls a b → any_secret ls ≡ false → a ≡ b
unfolding any_secret
public_same Each.empty h = refl
public_same (Each.entry {l} {a} {b} {ls} {as'} {bs} e r) h =
    let n = neither (not (eqb l 0)) (any_secret ls) h in
    ap₂ ◌∷◌ (e (eqb-true l 0 (not-false (eqb l 0) n.0))) (public_same r n.1)

pub flag-zero : (t : Bool) → flag t ≡ 0 → t ≡ false
unfolding flag
flag-zero true h = absurd (omega arith)
flag-zero false h = refl

-- One label for all bytes: secret, or the two lists are the same.
whole : (t : Bool) (a b : List ℕ) → length a ≡ length b → (t ≡ false → a ≡ b) → Each Public (replicate (length a) (flag t)) a b
whole t [] [] n h = Each.empty
whole t [] (y ∷ b) n h = absurd (omega arith)
whole t (x ∷ a) [] n h = absurd (omega arith)
whole t (x ∷ a) (y ∷ b) n h =
    let first : flag t ≡ 0 → x ≡ y = λ z. cc (h (flag-zero t z)) in
    let rest : t ≡ false → a ≡ b = λ z. cc (h z) in
    Each.entry first (whole t a b (omega arith) rest)

-- The same bytes, whatever their labels.
same : (ls a : List ℕ) → length ls ≡ length a → Each Public ls a a
same [] [] n = Each.empty
same [] (x ∷ a) n = absurd (omega arith)
same (l ∷ ls) [] n = absurd (omega arith)
same (l ∷ ls) (x ∷ a) n = Each.entry (λ e. refl) (same ls a (omega arith))

absent_bytes : (labels : Memory) → any_secret (bytes_at labels absent) ≡ false
unfolding any_secret bytes_at absent part tabulate
absent_bytes labels = refl

-- what is tested is public where all that must be public is
tested_public : (labels : Memory) (k : Kind) (op : Operation) → secret labels (sinks k op) ≡ false → any_secret (bytes_at labels (tested k op)) ≡ false
unfolding sinks tested secret
tested_public labels Kind.load op h = (neither _ _ h).0
tested_public labels Kind.store op h = (neither _ _ h).0
tested_public labels Kind.cbranch op h = (neither _ _ h).0
tested_public labels Kind.jump op h = (neither _ _ h).0
tested_public labels Kind.divide op h = (neither _ _ h).0
tested_public labels Kind.copy op h = absent_bytes labels
tested_public labels Kind.branch op h = absent_bytes labels
tested_public labels Kind.piece op h = absent_bytes labels
tested_public labels Kind.subpiece op h = absent_bytes labels
tested_public labels Kind.compute op h = absent_bytes labels

-- ---- moved bytes, with their labels

entry_view : {ls a b : List ℕ} → Each Public ls a b → (o : Origin) → Public (entry_from label_fill ls o) (entry_from sign_fill a o) (entry_from sign_fill b o)
unfolding entry_from label_fill
entry_view r (Origin.read k) = each_at (λ e. refl) r k
entry_view r Origin.zeros = λ e. refl
entry_view r (Origin.filled k) = λ e. ap sign_fill (each_at (λ z. refl) r k e)

moved_view : (big : Bool) (op : Operation) (size : ℕ) {ls a b : List ℕ} → Each Public ls a b
    → Each Public (moved big op size label_fill ls) (moved big op size sign_fill a) (moved big op size sign_fill b)
unfolding moved
moved_view big op size r = rw (each_label_length r, each_length r) (each_tabulate size _ _ _ (λ i. entry_view r _))

module _ {labels m n : Memory} (r : Spaces Public labels m n) where
  public_bytes : (v : Varnode) → any_secret (bytes_at labels v) ≡ false → bytes_at m v ≡ bytes_at n v
  public_bytes v h = public_same (spaces_at (λ e. refl) r v) h

  digits_view : (settings : Settings) (v : Varnode) → Each Public (ordered (big_endian settings) (bytes_at labels v)) (digits_at settings m v) (digits_at settings n v)
  unfolding digits_at
  digits_view settings v = by (eqb v.space 1)
    where
      big : Bool
      big = big_endian settings

      number : List ℕ
      number = bytes_of false v.size v.offset

      by : (t : Bool) → Each Public (ordered big (bytes_at labels v)) (cond t number (ordered big (bytes_at m v))) (cond t number (ordered big (bytes_at n v)))
      by true = same _ _ (length-ordered big (bytes_at labels v) ∙ bytes_count labels v ∙ sym (bytes-length false v.size v.offset))
      by false = each_ordered (λ e. refl) big (spaces_at (λ e. refl) r v)

  all_digits-view : (settings : Settings) (vs : List Varnode) → Each Public (labels_of settings labels vs) (digits_of settings m vs) (digits_of settings n vs)
  unfolding digits_of labels_of
  all_digits-view settings [] = Each.empty
  all_digits-view settings (v ∷ vs) = each_append (digits_view settings v) (all_digits-view settings vs)

  public_value : (settings : Settings) (v : Varnode) → any_secret (bytes_at labels v) ≡ false → value_at settings m v ≡ value_at settings n v
  unfolding value_at
  public_value settings v h = rw (public_bytes v h)

  pub public_values : (settings : Settings) (vs : List Varnode) → secret labels vs ≡ false → values_of settings m vs ≡ values_of settings n vs
  unfolding values_of secret
  public_values settings [] h = refl
  public_values settings (v ∷ vs) h =
      let e = neither (any_secret (bytes_at labels v)) (secret labels vs) h in
      rw (public_value settings v e.0, public_values settings vs e.1)

  pub public_tested : (settings : Settings) (k : Kind) (op : Operation) → secret labels (sinks k op) ≡ false
      → value_at settings m (tested k op) ≡ value_at settings n (tested k op)
  public_tested settings k op h = public_value settings (tested k op) (tested_public labels k op h)

  -- ---- one operation

  computed-view : (settings : Settings) (op : Operation) (size : ℕ) (vs : List Varnode)
      → Each Public (replicate size (flag (secret labels vs))) (bytes_of (big_endian settings) size (computed op (values_of settings m vs)))
      (bytes_of (big_endian settings) size (computed op (values_of settings n vs)))
  computed-view settings op size vs =
      let l = bytes-length (big_endian settings) size (computed op (values_of settings m vs)) in
      let w = whole (secret labels vs) (bytes_of (big_endian settings) size (computed op (values_of settings m vs))) (bytes_of (big_endian settings) size (computed op (values_of settings n vs)))
      (l ∙ sym (bytes-length (big_endian settings) size (computed op (values_of settings n vs)))) (λ h. rw (public_values settings vs h)) in
      rw l at w

  written-view : (settings : Settings) (op : Operation) (size : ℕ) (vs : List Varnode)
      → Each Public (labels_written settings op size vs labels) (bytes_written settings op size vs m) (bytes_written settings op size vs n)
  unfolding labels_written bytes_written
  written-view settings op size vs =
      either₃ (Each Public) (moves op) _ _ _ _ _ _ (moved_view (big_endian settings) op size (all_digits-view settings vs)) (computed-view settings op size vs)

pub data SameSteps : Stepped → Stepped → Type 0 where
  halts : {r q : Ended} → SameView r q → SameSteps (Stepped.halted r) (Stepped.halted q)
  goes : {at : Position} {labels m n : Memory} → Spaces Public labels m n → SameSteps (Stepped.going at labels m) (Stepped.going at labels n)

module _ (program : Program) {labels m n : Memory} (r : Spaces Public labels m n) where
  pub ended-view : (e v : ℕ) (at : Position) → SameView (ended e v at labels m) (ended e v at labels n)
  unfolding ended
  ended-view e v at = record { ending = refl; value = refl; position = refl; labels = refl; memory = r }

  applied_view : (k : Kind) (op : Operation) (at : Position) (x : ℕ) (d : Decision)
      → SameSteps (apply_decision program k op at labels m x d) (apply_decision program k op at labels n x d)
  unfolding apply_decision
  applied_view k op at x (Decision.stop e) = halts (ended-view _ 0 at)
  applied_view k op at x (Decision.exit words d) = halts (ended-view 1 d _)
  applied_view k op at x (Decision.next words i) = goes (spaces-written r _ (written-view r program.settings op _ _))

  -- what follows from the value tested is the same where it is public, and is LEAK where it is not
  decided-view : (t : Bool) (k : Kind) (op : Operation) (at : Position) (i extent room x y : ℕ) → (t ≡ false → x ≡ y)
      → SameSteps (apply_decision program k op at labels m x (decided t k op i extent room x)) (apply_decision program k op at labels n y (decided t k op i extent room y))
  unfolding decided apply_decision
  decided-view true k op at i extent room x y h = halts (ended-view _ 0 at)
  decided-view false k op at i extent room x y h = rw (h refl) (applied_view k op at y (checked k op i extent room y))

  execute-view : (k : Kind) (op : Operation) (at : Position) → SameSteps (execute_as program k op at labels m) (execute_as program k op at labels n)
  unfolding execute_as resolved_value
  execute-view k op at =
      rw (each_length (spaces_space r op.input0.offset))
      (decided-view (secret labels (sinks k op)) k op at _ _ _ _ _ (λ e. ap (resolved program.settings k op) (public_tested r program.settings k op e)))

  pub stepped-view : (at : Position) → SameSteps (stepped program at labels m) (stepped program at labels n)
  unfolding stepped execute
  stepped-view at = either₂ SameSteps (ltb at.index (operation_count program.list)) _ _ _ _ (execute-view _ (operation_at program.list at.index) at) (halts (ended-view 0 0 at))

-- ---- the run

pub continued-view : (f : Position → Memory → Memory → Ended) → ((at : Position) (labels m n : Memory) → Spaces Public labels m n → SameView (f at labels m) (f at labels n))
    → {a b : Stepped} → SameSteps a b → SameView (continued f a) (continued f b)
unfolding continued
continued-view f h (halts t) = t
continued-view f h (goes {at} {labels} {m} {n} r) = h at labels m n r

pub run-view : (program : Program) (budget : ℕ) (at : Position) (labels m n : Memory) → Spaces Public labels m n
    → SameView (run program budget at labels m) (run program budget at labels n)
unfolding run
run-view program zero at labels m n r = ended-view program r _ 0 at
run-view program (suc budget) at labels m n r =
    continued-view _ (λ at' labels' m' n' r'. run-view program budget at' labels' m' n' r') (stepped-view program r at)
