-- A run stopped by BUDGET and gone on with, from where it stopped: laws of every run that repeats one operation.
use Prim.Native.Nat.{ℕ, zero, suc, ◌+◌, ◌<◌}
use native.Mathlib.Nat.{zero-add, suc-add, add-suc, add-zero}
use native.Mathlib.Omega.{arith}
use mathlib.Core.Path.{◌≡◌, refl}
use mathlib.Core.Bool.{Bool, true, false, cond}
use mathlib.Core.List.{List, [], ◌++◌, append_assoc, append-nil}
use borrow.Author.Tests.{ltb-true}
use lib.Dec.{ltb}
use Rattle.operation.specs.Layout.{operation_count}
use Rattle.machine.specs.Program.{Program}
use Rattle.machine.specs.Memory.{Memory}
use Rattle.machine.specs.Effect.{Operation, Kind, operation_at}
use Rattle.machine.specs.Run.{Decision, Position, Ended, Stepped, advanced, ended, apply_decision, execute_as, execute, stepped, continued, run}
use Rattle.machine.proofs.Cases.{either₂}

-- ---- a run

-- A run that repeats an operation S while the budget lasts: at n, END; count equals budget, BUDGET.
pub record Repeats (program : Program) (S : Position → Memory → Memory → Stepped) (R : ℕ → Position → Memory → Memory → Ended) : Type 0 where
  pub none : (at : Position) (labels m : Memory) → R 0 at labels m ≡ ended (cond (ltb at.index (operation_count program.list)) 2 0) 0 at labels m
  pub next : (b : ℕ) (at : Position) (labels m : Memory) → R (suc b) at labels m ≡ continued (R b) (S at labels m)

pub run_repeats : (program : Program) → Repeats program (stepped program) (run program)
unfolding run
run_repeats program = record { none = λ at labels m. refl; next = λ b at labels m. refl }

-- ---- an operation

-- it never stops for the budget
pub data Goes : Stepped → Type 0 where
  halts : {r : Ended} → (r.ending ≡ 2 → ⊥) → Goes (Stepped.halted r)
  goes : {at : Position} {labels m : Memory} → Goes (Stepped.going at labels m)

-- at n, END
abbrev pub Ends : Program → (S : Position → Memory → Memory → Stepped) → Position → (labels m : Memory) → Type 0
Ends program S at labels m = ltb at.index (operation_count program.list) ≡ false → S at labels m ≡ Stepped.halted (ended 0 0 at labels m)

pub stepped_ends : (program : Program) (at : Position) (labels m : Memory) → Ends program (stepped program) at labels m
unfolding stepped
stepped_ends program at labels m e = rw e refl

-- ---- the budgets add up

continued_more : (f g h : Position → Memory → Memory → Ended)
    → ((at : Position) (labels m : Memory) → (f at labels m).ending ≡ 2 → g at labels m ≡ h (f at labels m).position (f at labels m).labels (f at labels m).memory)
    → {a : Stepped} → Goes a → (continued f a).ending ≡ 2 → continued g a ≡ h (continued f a).position (continued f a).labels (continued f a).memory
unfolding continued
continued_more f g h q (halts ne) e = absurd (ne e)
continued_more f g h q (goes {at} {labels} {m}) e = q at labels m e

-- a run that BUDGET did not stop is the same with a larger budget
continued_done : (f g : Position → Memory → Memory → Ended)
    → ((at : Position) (labels m : Memory) → ((f at labels m).ending ≡ 2 → ⊥) → g at labels m ≡ f at labels m)
    → {a : Stepped} → Goes a → ((continued f a).ending ≡ 2 → ⊥) → continued g a ≡ continued f a
unfolding continued
continued_done f g q (halts ne) e = refl
continued_done f g q (goes {at} {labels} {m}) e = q at labels m e

-- a run stopped by BUDGET has an operation before it
continued_index : (n : ℕ) (f : Position → Memory → Memory → Ended)
    → ((at : Position) (labels m : Memory) → (f at labels m).ending ≡ 2 → (f at labels m).position.index < n)
    → {a : Stepped} → Goes a → (continued f a).ending ≡ 2 → (continued f a).position.index < n
unfolding continued
continued_index n f q (halts ne) e = absurd (ne e)
continued_index n f q (goes {at} {labels} {m}) e = q at labels m e

module _ {program : Program} {S : Position → Memory → Memory → Stepped} {R : ℕ → Position → Memory → Memory → Ended}
    (u : Repeats program S R) (goes : (at : Position) (labels m : Memory) → Goes (S at labels m)) where
  pub run_more : (b c : ℕ) (at : Position) (labels m : Memory) → (R b at labels m).ending ≡ 2
      → R (b + c) at labels m ≡ R c (R b at labels m).position (R b at labels m).labels (R b at labels m).memory
  unfolding ended
  run_more zero c at labels m e = rw (zero-add, u.none at labels m) refl
  run_more (suc b) c at labels m e =
      rw (suc-add, u.next (b + c) at labels m, u.next b at labels m)
      (continued_more _ _ (R c) (λ at' l m' e'. run_more b c at' l m' e') (goes at labels m) (rw (u.next b at labels m) at e))

  pub run_done : ((at : Position) (labels m : Memory) → Ends program S at labels m) → (b c : ℕ) (at : Position) (labels m : Memory) → ((R b at labels m).ending ≡ 2 → ⊥)
      → R (b + c) at labels m ≡ R b at labels m
  unfolding ended continued
  run_done ends zero c at labels m e = rw zero-add (end c (ltb at.index (operation_count program.list)) refl)
    where
      end : (c : ℕ) (t : Bool) → ltb at.index (operation_count program.list) ≡ t → R c at labels m ≡ R 0 at labels m
      end zero t k = refl
      end (suc c) true k = absurd (e (rw (u.none at labels m, k) refl))
      end (suc c) false k = rw (u.next c at labels m, u.none at labels m, ends at labels m k, k) refl
  run_done ends (suc b) c at labels m e =
      rw (suc-add, u.next (b + c) at labels m, u.next b at labels m)
      (continued_done _ _ (λ at' l m' e'. run_done ends b c at' l m' e') (goes at labels m) (rw (u.next b at labels m) at e))

  pub run_index : (b : ℕ) (at : Position) (labels m : Memory) → (R b at labels m).ending ≡ 2
      → (R b at labels m).position.index < operation_count program.list
  unfolding ended
  run_index zero at labels m e = rw (u.none at labels m) (by (ltb at.index (operation_count program.list)) refl (rw (u.none at labels m) at e))
    where
      by : (t : Bool) → ltb at.index (operation_count program.list) ≡ t → ◌≡◌ {A = ℕ} (cond t 2 0) 2 → at.index < operation_count program.list
      by true t z = ltb-true at.index (operation_count program.list) t
      by false t z = absurd (let w : ◌≡◌ {A = ℕ} 0 2 = z in omega (arith, w))
  run_index (suc b) at labels m e =
      rw (u.next b at labels m)
      (continued_index (operation_count program.list) _ (λ at' l m' e'. run_index b at' l m' e') (goes at labels m) (rw (u.next b at labels m) at e))

-- ---- the count and the log are carried along

-- a position reached after c operations that wrote some words
unfoldable pub later : ℕ → List ℕ → Position → Position
later c words at = record { index = at.index; room = at.room; executed = c + at.executed; log = words ++ at.log }

unfoldable pub later_ended : ℕ → List ℕ → Ended → Ended
later_ended c words r = ended r.ending r.value (later c words r.position) r.labels r.memory

pub data Later (c : ℕ) (words : List ℕ) : Stepped → Stepped → Type 0 where
  halts : {r : Ended} → Later c words (Stepped.halted (later_ended c words r)) (Stepped.halted r)
  goes : {at : Position} {labels m : Memory} → Later c words (Stepped.going (later c words at) labels m) (Stepped.going at labels m)

advanced_later : (c : ℕ) (words : List ℕ) (at : Position) (i : ℕ) (vs : List ℕ) → advanced (later c words at) i vs ≡ later c words (advanced at i vs)
unfolding advanced later
advanced_later c words at i vs = rw (add-suc, append_assoc)

module _ (c : ℕ) (words : List ℕ) where
  applied_later : (program : Program) (k : Kind) (op : Operation) (at : Position) (labels m : Memory) (x : ℕ) (d : Decision)
      → Later c words (apply_decision program k op (later c words at) labels m x d) (apply_decision program k op at labels m x d)
  unfolding apply_decision ended later_ended later
  applied_later program k op at labels m x (Decision.stop e) = halts
  applied_later program k op at labels m x (Decision.exit vs d) = rw (advanced_later c words at at.index vs) halts
  applied_later program k op at labels m x (Decision.next vs i) = rw (advanced_later c words at i vs) goes

  pub stepped_later : (program : Program) (at : Position) (labels m : Memory) → Later c words (stepped program (later c words at) labels m) (stepped program at labels m)
  unfolding stepped execute execute_as later later_ended ended
  stepped_later program at labels m =
      either₂ (Later c words) (ltb at.index (operation_count program.list)) _ _ _ _ (applied_later program _ (operation_at program.list at.index) at labels m _ _) halts

  continued_later : (f : Position → Memory → Memory → Ended) → ((at : Position) (labels m : Memory) → f (later c words at) labels m ≡ later_ended c words (f at labels m))
      → {a b : Stepped} → Later c words a b → continued f a ≡ later_ended c words (continued f b)
  unfolding continued
  continued_later f h halts = refl
  continued_later f h (goes {at} {labels} {m}) = h at labels m

  pub run_later : {program : Program} {S : Position → Memory → Memory → Stepped} {R : ℕ → Position → Memory → Memory → Ended} → Repeats program S R
      → ((at : Position) (labels m : Memory) → Later c words (S (later c words at) labels m) (S at labels m))
      → (b : ℕ) (at : Position) (labels m : Memory) → R b (later c words at) labels m ≡ later_ended c words (R b at labels m)
  unfolding later_ended ended later
  run_later u h zero at labels m = rw (u.none (later c words at) labels m, u.none at labels m) refl
  run_later u h (suc b) at labels m =
      rw (u.next b (later c words at) labels m, u.next b at labels m) (continued_later _ (λ at' l m'. run_later u h b at' l m') (h at labels m))

unfoldable pub fresh : Position → Position
fresh at = record { index = at.index; room = at.room; executed = 0; log = [] }

pub fresh_later : (at : Position) → later at.executed at.log (fresh at) ≡ at
unfolding later fresh
fresh_later at = rw (add-zero, append-nil)
