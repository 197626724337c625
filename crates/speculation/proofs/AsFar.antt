-- For every ending the speculative run has come as far as the labelled run of as many operations as it counts.
use Prim.Native.Nat.{ℕ, zero, suc, ◌+◌}
use native.Mathlib.Omega.{arith}
use mathlib.Core.Path.{◌≡◌, refl}
use Rattle.machine.specs.Program.{Program}
use Rattle.machine.specs.Memory.{Memory}
use Rattle.machine.specs.Run.{Position, Ended, Stepped, ended, stepped, continued, run}
use Rattle.machine.proofs.Counts.{Counts}
use Rattle.speculation.specs.Speculation.{speculate}
use Rattle.speculation.specs.Limits.{StoppedAt}
use Rattle.speculation.proofs.Windows.{Short, full, leaked}
use Rattle.speculation.proofs.Runs.{speculated_counts}
use Rattle.speculation.proofs.Aside.{At, placed, at_parts, Equal, Equals, speculated_equal}

-- The same index, count, labels and bytes.
pub record Reaches (r q : Ended) : Type 0 where
  pub index : r.position.index ≡ q.position.index
  pub executed : r.position.executed ≡ q.position.executed
  pub labels : r.labels ≡ q.labels
  pub memory : r.memory ≡ q.memory

-- From a count on it counts some operations; the labelled run of these from `q` reaches the same.
pub record Far (program : Program) (q : Position) (labels m : Memory) (executed : ℕ) (r : Ended) : Type 0 where
  pub operations : ℕ
  pub counted : r.position.executed ≡ executed + operations
  pub reaches : Reaches r (run program operations q labels m)

equal_reaches : {r q : Ended} → Equal r q → Reaches r q
equal_reaches e = let p = at_parts e.position in record { index = p.0; executed = p.1; labels = e.labels; memory = e.memory }

-- a stopped operation leaves what was before it
stopped_far : (program : Program) {p q : Position} {labels m : Memory} → At p q → {r : Ended} → StoppedAt p labels m r → Far program q labels m p.executed r
unfolding run ended
stopped_far program (placed h l) s = record {
  operations = 0;
  counted = omega (arith, s.executed);
  reaches = record { index = s.index; executed = s.executed; labels = s.same_labels; memory = s.same_memory };
}

not_exited : {e : ℕ} → Short e → e ≡ 1 → ⊥
not_exited full z = omega (arith, z)
not_exited leaked z = omega (arith, z)

module _ (program : Program) (f : Position → Memory → Memory → Ended)
    (rest : (p q : Position) (labels m : Memory) → At p q → Far program q labels m p.executed (f p labels m)) where
  continued_far : {p q : Position} {labels m : Memory} → At p q → {a b : Stepped} → b ≡ stepped program q labels m → Equals a b → Counts p (StoppedAt p labels m) a
      → Far program q labels m p.executed (continued f a)
  unfolding continued run
  continued_far t e (Equals.short x) (Counts.stays s c r) = stopped_far program t r
  continued_far t e (Equals.short x) (Counts.exited z c) = absurd (not_exited x z)
  continued_far t e (Equals.halts y) (Counts.stays s c r) = stopped_far program t r
  continued_far t e (Equals.halts y) (Counts.exited z c) = record { operations = 1; counted = omega (arith, c); reaches = rw (← e) (equal_reaches y) }
  continued_far t e (Equals.goes {p} {q} {labels} {m} u) (Counts.goes c) =
      let r = rest p q labels m u in
      record { operations = suc r.operations; counted = omega (arith, r.counted, c); reaches = rw (← e) r.reaches }

pub speculate_far : (program : Program) (window budget : ℕ) (p q : Position) (labels m : Memory) → At p q
    → Far program q labels m p.executed (speculate program window budget p labels m)
unfolding speculate run ended
speculate_far program window zero p q labels m (placed h l) =
    record { operations = 0; counted = omega arith; reaches = record { index = refl; executed = refl; labels = refl; memory = refl } }
speculate_far program window (suc budget) p q labels m t =
    continued_far program _ (λ p' q' l m'. speculate_far program window budget p' q' l m') t refl (speculated_equal program window labels m t)
    (speculated_counts program window p labels m)
