-- The speculative run is the labelled run, marked log words aside, unless it ends with LOG or LEAK AHEAD.
use Prim.Native.Nat.{ℕ, zero, suc, ◌+◌, ◌-◌, ◌≤◌}
use native.Mathlib.Nat.{le_trans}
use native.Mathlib.Omega.{arith}
use mathlib.Core.Bool.{Bool, true, false, cond}
use mathlib.Core.List.{List, [], ◌∷◌, ◌++◌}
use mathlib.Core.Path.{◌≡◌, refl}
use borrow.Author.Tests.{eqb-false, ne_eqb}
use lib.Dec.{eqb, leb, ltb}
use lib.ListN.{length}
use Rattle.operation.specs.Layout.{operation_count}
use Rattle.machine.specs.Program.{Program}
use Rattle.machine.specs.Memory.{Memory}
use Rattle.machine.specs.Effect.{Operation, Kind, operation_at}
use Rattle.machine.specs.Run.{Stop, Decision, Position, Ended, Stepped, ending_of, logging, access, checked, decided, advanced, ended, apply_decision, execute_as, execute}
use Rattle.machine.specs.Run.{stepped, continued, run}
use Rattle.machine.proofs.Cases.{either₂}
use Rattle.speculation.specs.Window.{marked, with_words, right_way, reached, speculated}
use Rattle.speculation.specs.Speculation.{speculate}
use Rattle.speculation.proofs.Windows.{Short, full, speculated_by}

-- ---- what is shown

-- A log with words of windows in it, and the same log without them.
pub data Aside : List ℕ → List ℕ → Type 0 where
  start : Aside [] []
  own : {a b : List ℕ} → Aside a b → (ws : List ℕ) → Aside (a ++ ws) (b ++ ws)
  other : {a b : List ℕ} → Aside a b → (ws : List ℕ) → Aside (a ++ marked ws) b

-- The same index and count; windows have used up room and written words.
pub data At : Position → Position → Type 0 where
  placed : {i n k c : ℕ} {a b : List ℕ} → n ≤ k → Aside a b
      → At (record { index = i; room = n; executed = c; log = a }) (record { index = i; room = k; executed = c; log = b })

pub at_parts : {p q : Position} → At p q → (p.index ≡ q.index) × (p.executed ≡ q.executed) × Aside p.log q.log
at_parts (placed h l) = (refl, refl, l)

pub record Equal (r q : Ended) : Type 0 where
  pub ending : r.ending ≡ q.ending
  pub value : r.value ≡ q.value
  pub position : At r.position q.position
  pub labels : r.labels ≡ q.labels
  pub memory : r.memory ≡ q.memory

-- ---- with less room an operation is stopped by LOG, or decided in the same way

data Rooms : Decision → Decision → Type 0 where
  none : {d : Decision} → Rooms (Decision.stop Stop.log_full) d
  same : {d : Decision} → Rooms d d

module _ {n k : ℕ} (h : n ≤ k) where
  logging_rooms : (word : ℕ) (d : List ℕ → Decision) → Rooms (logging n word d) (logging k word d)
  unfolding logging
  logging_rooms word d = by (eqb n 0) refl
    where
      by : (t : Bool) → eqb n 0 ≡ t → Rooms (cond t (Decision.stop Stop.log_full) (d (word ∷ []))) (cond (eqb k 0) (Decision.stop Stop.log_full) (d (word ∷ [])))
      by true e = none
      by false e = rw (ne_eqb k 0 (λ (z : k ≡ 0). eqb-false n 0 e (omega (arith, h, z)))) same

  access_rooms : (i extent offset size : ℕ) → Rooms (access i extent n offset size) (access i extent k offset size)
  unfolding access
  access_rooms i extent offset size = either₂ Rooms (leb (offset + size) extent) _ _ _ _ (logging_rooms _ _) same

  checked_rooms : (o : Kind) (op : Operation) (i extent x : ℕ) → Rooms (checked o op i extent n x) (checked o op i extent k x)
  unfolding checked
  checked_rooms Kind.copy op i extent x = same
  checked_rooms Kind.load op i extent x = access_rooms i extent x _
  checked_rooms Kind.store op i extent x = access_rooms i extent x _
  checked_rooms Kind.branch op i extent x = same
  checked_rooms Kind.cbranch op i extent x = either₂ Rooms (eqb x 0) _ _ _ _ (logging_rooms _ _) (logging_rooms _ _)
  checked_rooms Kind.jump op i extent x = same
  checked_rooms Kind.piece op i extent x = same
  checked_rooms Kind.subpiece op i extent x = same
  checked_rooms Kind.divide op i extent x = same
  checked_rooms Kind.compute op i extent x = same

  decided_rooms : (t : Bool) (o : Kind) (op : Operation) (i extent x : ℕ) → Rooms (decided t o op i extent n x) (decided t o op i extent k x)
  unfolding decided
  decided_rooms t o op i extent x = either₂ Rooms t _ _ _ _ same (checked_rooms o op i extent x)

-- ---- one operation by itself

pub data Equals : Stepped → Stepped → Type 0 where
  short : {r : Ended} {b : Stepped} → Short r.ending → Equals (Stepped.halted r) b
  halts : {r q : Ended} → Equal r q → Equals (Stepped.halted r) (Stepped.halted q)
  goes : {p q : Position} {labels m : Memory} → At p q → Equals (Stepped.going p labels m) (Stepped.going q labels m)

advanced_at : {p q : Position} → At p q → (i : ℕ) (ws : List ℕ) → At (advanced p i ws) (advanced q i ws)
unfolding advanced
advanced_at (placed {n} {k} h l) i ws = let x : n - length ws ≤ k - length ws = omega (arith, h) in placed x (Aside.own l ws)

module _ (program : Program) (labels m : Memory) where
  ended_equal : (e v : ℕ) {p q : Position} → At p q → Equal (ended e v p labels m) (ended e v q labels m)
  unfolding ended
  ended_equal e v t = record { ending = refl; value = refl; position = t; labels = refl; memory = refl }

  applied_equal : (o : Kind) (op : Operation) (x : ℕ) {p q : Position} → At p q → {d e : Decision} → Rooms d e
      → Equals (apply_decision program o op p labels m x d) (apply_decision program o op q labels m x e)
  unfolding apply_decision ended ending_of
  applied_equal o op x t none = short full
  applied_equal o op x t (same {d = Decision.stop e}) = halts (ended_equal _ 0 t)
  applied_equal o op x (placed h l) (same {d = Decision.exit ws d}) = halts (ended_equal 1 d (advanced_at (placed h l) _ ws))
  applied_equal o op x t (same {d = Decision.next ws i}) = goes (advanced_at t i ws)

  stepped_equal : {p q : Position} → At p q → Equals (stepped program p labels m) (stepped program q labels m)
  unfolding stepped execute execute_as
  stepped_equal (placed {i} h l) =
      either₂ Equals (ltb i (operation_count program.list)) _ _ _ _
      (applied_equal _ (operation_at program.list i) _ (placed h l) (decided_rooms h _ _ _ _ _ _)) (halts (ended_equal 0 0 (placed h l)))

-- ---- a window

words_at : {p q : Position} → At p q → (w : Ended) → w.position.room ≤ p.room → At (with_words w p) q
unfolding with_words
words_at (placed h l) w x = placed (le_trans x h) (Aside.other l _)

right_equal : {a b : Stepped} → Equals a b → (w : Ended) → w.position.room ≤ (reached a).room → Equals (right_way w a) b
unfolding right_way reached ended
right_equal (short x) w h = short x
right_equal (halts e) w h =
    halts (record { ending = e.ending; value = e.value; position = words_at e.position w h; labels = e.labels; memory = e.memory })
right_equal (goes t) w h = goes (words_at t w h)

pub speculated_equal : (program : Program) (window : ℕ) (labels m : Memory) {p q : Position} → At p q
    → Equals (speculated program window p labels m) (stepped program q labels m)
unfolding ended
speculated_equal program window labels m {p} {q} t =
    let s = stepped_equal program labels m t in
    speculated_by program window labels m (λ (a : Stepped). Equals a (stepped program q labels m)) p s
    (λ w h. right_equal s w (omega (arith, h))) (λ w h e x. short x)

-- ---- the run

continued_equal : (f g : Position → Memory → Memory → Ended)
    → ((p q : Position) (labels m : Memory) → At p q → (Short (f p labels m).ending → ⊥) → Equal (f p labels m) (g q labels m))
    → {a b : Stepped} → Equals a b → (Short (continued f a).ending → ⊥) → Equal (continued f a) (continued g b)
unfolding continued
continued_equal f g h (short x) ne = absurd (ne x)
continued_equal f g h (halts e) ne = e
continued_equal f g h (goes {p} {q} {labels} {m} t) ne = h p q labels m t ne

pub speculate_equal : (program : Program) (window budget : ℕ) (p q : Position) (labels m : Memory) → At p q
    → (Short (speculate program window budget p labels m).ending → ⊥) → Equal (speculate program window budget p labels m) (run program budget q labels m)
unfolding speculate run
speculate_equal program window zero p q labels m (placed h l) ne = ended_equal program labels m _ 0 (placed h l)
speculate_equal program window (suc budget) p q labels m t ne =
    continued_equal _ _ (λ p' q' l m' t' ne'. speculate_equal program window budget p' q' l m' t' ne') (speculated_equal program window labels m t) ne
