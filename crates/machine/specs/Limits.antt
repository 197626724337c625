-- Stops, counts and log words, of the whole plain and the whole labelled run.
use Rattle.std.specs.Prelude.{ℕ, zero, suc, ◌-◌, ◌≤◌, List, ◌≡◌, length}
use Rattle.operation.specs.declared.layout.Settings.{Settings}
use Rattle.machine.specs.Program.{Program}
use Rattle.machine.specs.Memory.{Memory}
use Rattle.machine.specs.Run.{Position, Ended, Stepped, stepped, run}
use Rattle.machine.specs.Calls.{Outcome, unlabelled, labelled_run, plain_run}

-- A refusal before the first operation, 10 to 27, leaves memory, labels and log as lent; its last three numbers are 0.
pub record Unchanged (log : List ℕ) (labels m : Memory) (o : Outcome) : Type 0 where
  pub same_memory : o.memory ≡ m
  pub same_labels : o.labels ≡ labels
  pub same_log : o.log ≡ log
  pub executed : o.report.executed ≡ 0
  pub logged : o.report.logged ≡ 0
  pub value : o.report.value ≡ 0

-- The operations executed are at most the budget, and with the ending 2 BUDGET all of it; the log words written are at most the room,
-- and the log buffer keeps its length.
pub record Limited (budget : ℕ) (log : List ℕ) (o : Outcome) : Type 0 where
  pub executed : o.report.executed ≤ budget
  pub stopped : o.report.ending ≡ 2 → o.report.executed ≡ budget
  pub logged : o.report.logged ≤ length log
  pub same_length : length o.log ≡ length log

-- The state after k single operations, each from where the one before it went on; `one` is what an operation does.
unfoldable pub after_operations : (one : Position → Memory → Memory → Stepped) → ℕ → Stepped → Stepped
after_operations one zero s = s
after_operations one (suc k) (Stepped.halted r) = Stepped.halted r
after_operations one (suc k) (Stepped.going at labels m) = after_operations one k (one at labels m)

-- Position, labels and memory, whether the run ended or goes on.
unfoldable pub state_of : Stepped → Position × Memory × Memory
state_of (Stepped.halted r) = (r.position, r.labels, r.memory)
state_of (Stepped.going at labels m) = (at, labels, m)

-- All of these, of both runs.
pub record Limits : Type 0 where
  pub labelled_refusal : (settings : Settings) (list : List ℕ) (start budget : ℕ) (log : List ℕ) (labels m : Memory)
      → 10 ≤ (labelled_run settings list start budget log labels m).report.ending
      → (labelled_run settings list start budget log labels m).report.ending ≤ 27
      → Unchanged log labels m (labelled_run settings list start budget log labels m)
  pub plain_refusal : (settings : Settings) (list : List ℕ) (start budget : ℕ) (log : List ℕ) (m : Memory)
      → 10 ≤ (plain_run settings list start budget log m).report.ending
      → (plain_run settings list start budget log m).report.ending ≤ 27
      → Unchanged log unlabelled m (plain_run settings list start budget log m)
  pub labelled_limited : (settings : Settings) (list : List ℕ) (start budget : ℕ) (log : List ℕ) (labels m : Memory)
      → Limited budget log (labelled_run settings list start budget log labels m)
  pub plain_limited : (settings : Settings) (list : List ℕ) (start budget : ℕ) (log : List ℕ) (m : Memory)
      → Limited budget log (plain_run settings list start budget log m)
  -- A stopped operation, 31 to 34, writes nothing and isn't counted.
  pub stopped_operation : (program : Program) (at : Position) (labels m : Memory) (r : Ended)
      → stepped program at labels m ≡ Stepped.halted r → 31 ≤ r.ending → (r.position ≡ at) × (r.labels ≡ labels) × (r.memory ≡ m)
  -- The state after a run is that after as many single operations as it executed.
  pub counted_operations : (program : Program) (budget : ℕ) (at : Position) (labels m : Memory)
      → (let r = run program budget at labels m in
      state_of (after_operations (stepped program) (r.position.executed - at.executed) (Stepped.going at labels m)) ≡ (r.position, r.labels, r.memory))
