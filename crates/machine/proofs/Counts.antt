-- How an operation ends and what it counts, and so a run.
use Prim.Native.Nat.{ℕ, zero, suc, ◌+◌, ◌≤◌}
use native.Mathlib.Omega.{arith}
use mathlib.Core.Path.{◌≡◌, refl, sym, ap, subst, ◌∙◌}
use mathlib.Core.Bool.{Bool, true, false, cond}
use lib.Dec.{ltb}
use Rattle.operation.specs.Layout.{operation_count}
use Rattle.machine.specs.Program.{Program}
use Rattle.machine.specs.Memory.{Memory}
use Rattle.machine.specs.Effect.{Operation, Kind, operation_at}
use Rattle.machine.specs.Run.{Stop, Decision, Position, Ended, Stepped, ending_of, advanced, ended, apply_decision, execute_as, execute, stepped, continued}
use Rattle.machine.proofs.Cases.{either}
use Rattle.machine.proofs.Budget.{Repeats, Goes}

-- ---- one operation

-- END; or a stop, 31 to 35
pub data Stopping : ℕ → Type 0 where
  end : Stopping 0
  stop : (e : ℕ) → 31 ≤ e → e ≤ 35 → Stopping e

pub not_exit : {e : ℕ} → Stopping e → e ≡ 1 → ⊥
not_exit end z = omega (arith, z)
not_exit (stop e l h) z = omega (arith, l, z)

not_budget : {e : ℕ} → Stopping e → e ≡ 2 → ⊥
not_budget end z = omega (arith, z)
not_budget (stop e l h) z = omega (arith, l, z)

-- `at` is where it begins, and P is what is left of it where it is stopped
pub data Counts (at : Position) (P : Ended → Type 0) : Stepped → Type 0 where
  stays : {r : Ended} → Stopping r.ending → r.position.executed ≡ at.executed → P r → Counts at P (Stepped.halted r)
  exited : {r : Ended} → r.ending ≡ 1 → r.position.executed ≡ suc at.executed → Counts at P (Stepped.halted r)
  goes : {next : Position} {ls n : Memory} → next.executed ≡ suc at.executed → Counts at P (Stepped.going next ls n)

-- it never stops for the budget
pub counts_goes : {at : Position} {P : Ended → Type 0} {a : Stepped} → Counts at P a → Goes a
counts_goes (stays s c p) = Goes.halts (not_budget s)
counts_goes (exited {r} e c) = Goes.halts (λ (z : r.ending ≡ 2). omega (arith, e, z))
counts_goes (goes c) = Goes.goes

-- a stopped operation writes nothing
abbrev pub Stays : Position → (labels m : Memory) → Ended → Type 0
Stays at labels m r = (r.position ≡ at) × (r.labels ≡ labels) × (r.memory ≡ m) × (r.value ≡ 0)

stop_stopping : (e : Stop) → Stopping (ending_of e)
unfolding ending_of
stop_stopping Stop.leak = stop 31 (omega arith) (omega arith)
stop_stopping Stop.bounds = stop 32 (omega arith) (omega arith)
stop_stopping Stop.zero_divisor = stop 33 (omega arith) (omega arith)
stop_stopping Stop.log_full = stop 34 (omega arith) (omega arith)

applied_counts : (program : Program) (k : Kind) (op : Operation) (at : Position) (labels m : Memory) (x : ℕ) (d : Decision)
    → Counts at (Stays at labels m) (apply_decision program k op at labels m x d)
unfolding apply_decision ended advanced
applied_counts program k op at labels m x (Decision.stop e) =
    stays {r = ended (ending_of e) 0 at labels m} (stop_stopping e) refl (refl, refl, refl, refl)
applied_counts program k op at labels m x (Decision.exit words d) = exited {r = ended 1 d (advanced at at.index words) labels m} refl refl
applied_counts program k op at labels m x (Decision.next words i) = goes refl

pub stepped_counts : (program : Program) (at : Position) (labels m : Memory) → Counts at (Stays at labels m) (stepped program at labels m)
unfolding stepped execute execute_as ended
stepped_counts program at labels m =
    either (Counts at (Stays at labels m)) (ltb at.index (operation_count program.list)) _ _ (applied_counts program _ (operation_at program.list at.index) at labels m _ _)
    (stays {r = ended 0 0 at labels m} end refl (refl, refl, refl, refl))

abbrev goes_on : Stepped → ℕ
goes_on (Stepped.halted r) = 0
goes_on (Stepped.going at labels m) = 1

-- one that ended, but not by EXIT, was stopped
pub stopped_operation : {at : Position} {P : Ended → Type 0} {a : Stepped} → Counts at P a → (r : Ended) → a ≡ Stepped.halted r → (r.ending ≡ 1 → ⊥) → P r
stopped_operation {P} (stays s c p) r e h = subst P (cc e) p
stopped_operation (exited {r = q} l c) r e h =
    let w : q ≡ r = cc e in
    absurd (h (sym (ap (λ (x : Ended). x.ending) w) ∙ l))
stopped_operation (goes x) r e h = absurd (let z : ◌≡◌ {A = ℕ} 1 0 = ap goes_on e in omega (arith, z))

pub counted_operation : {at : Position} {P : Ended → Type 0} {a : Stepped} → Counts at P a → (next : Position) (ls n : Memory)
    → a ≡ Stepped.going next ls n → next.executed ≡ suc at.executed
counted_operation (stays s c p) next ls n e = absurd (let z : ◌≡◌ {A = ℕ} 0 1 = ap goes_on e in omega (arith, z))
counted_operation (exited s c) next ls n e = absurd (let z : ◌≡◌ {A = ℕ} 0 1 = ap goes_on e in omega (arith, z))
counted_operation (goes {next = q} c) next ls n e = let w : q ≡ next = cc e in sym (ap (λ (p : Position). p.executed) w) ∙ c

-- ---- the run

-- 0 to 2 END, EXIT and BUDGET; or a stop, 31 to 35
pub data Ran : ℕ → Type 0 where
  finished : (e : ℕ) → e ≤ 2 → Ran e
  stopped : (e : ℕ) → 31 ≤ e → e ≤ 35 → Ran e

-- no ending of a run is a refusal's
pub not_refused : {e : ℕ} → Ran e → 10 ≤ e → e ≤ 27 → ⊥
not_refused (finished e h) x y = omega (arith, h, x)
not_refused (stopped e l h) x y = omega (arith, l, y)

stopping_ran : {e : ℕ} → Stopping e → Ran e
stopping_ran end = finished 0 (omega arith)
stopping_ran (stop e l h) = stopped e l h

-- the count is at most the budget, and with BUDGET all of it
pub record Run (executed budget : ℕ) (r : Ended) : Type 0 where
  pub ending : Ran r.ending
  pub before : executed ≤ r.position.executed
  pub counted : r.position.executed ≤ executed + budget
  pub stopped : r.ending ≡ 2 → r.position.executed ≡ executed + budget

continued_counts : (budget : ℕ) (f : Position → Memory → Memory → Ended) → ((at : Position) (labels m : Memory) → Run at.executed budget (f at labels m))
    → (at : Position) {P : Ended → Type 0} {a : Stepped} → Counts at P a → Run at.executed (suc budget) (continued f a)
unfolding continued
continued_counts budget f h at (stays s c p) =
    record { ending = stopping_ran s; before = omega (arith, c); counted = omega (arith, c); stopped = λ z. absurd (not_budget s z) }
continued_counts budget f h at (exited {r} e c) =
    record { ending = finished r.ending (omega (arith, e)); before = omega (arith, c); counted = omega (arith, c); stopped = λ z. absurd (omega (arith, e, z)) }
continued_counts budget f h at (goes {next} {ls} {n} e) =
    let r = h next ls n in
    record { ending = r.ending; before = omega (arith, r.before, e); counted = omega (arith, r.counted, e); stopped = λ z. omega (arith, r.stopped z, e) }

pub run_counts_lem : {program : Program} {S : Position → Memory → Memory → Stepped} {R : ℕ → Position → Memory → Memory → Ended} → Repeats program S R
    → {P : Position → Memory → Memory → Ended → Type 0} → ((at : Position) (labels m : Memory) → Counts at (P at labels m) (S at labels m))
    → (budget : ℕ) (at : Position) (labels m : Memory) → Run at.executed budget (R budget at labels m)
unfolding ended
run_counts_lem {program} u c zero at labels m = rw (u.none at labels m) (by (ltb at.index (operation_count program.list)))
  where
    by : (t : Bool) → Run at.executed 0 (record { ending = cond t 2 0; value = 0; position = at; labels = labels; memory = m })
    by true = record { ending = finished 2 (omega arith); before = omega arith; counted = omega arith; stopped = λ z. omega arith }
    by false = record { ending = finished 0 (omega arith); before = omega arith; counted = omega arith; stopped = λ z. omega arith }
run_counts_lem u c (suc budget) at labels m =
    rw (u.next budget at labels m) (continued_counts budget _ (λ at' l m'. run_counts_lem u c budget at' l m') at (c at labels m))
