-- Refusals, counts, log words and the journal of the speculative run.
use Rattle.std.specs.Prelude.{ℕ, suc, ◌+◌, ◌*◌, ◌-◌, ◌≤◌, ◌<◌, Bool, true, false, List, ◌≡◌, length, get_or}
use Rattle.operation.specs.declared.layout.Settings.{Settings}
use Rattle.operation.specs.Spaces.{Lengths}
use Rattle.validation.specs.Verdict.{settings_in_range, refusal_report}
use Rattle.machine.specs.Program.{Program}
use Rattle.machine.specs.Memory.{Memory}
use Rattle.machine.specs.Run.{Position, Ended, Stepped}
use Rattle.machine.specs.Calls.{refusal}
use Rattle.machine.specs.Limits.{Unchanged, Limited, after_operations}
use Rattle.speculation.specs.Window.{ahead, speculated}
use Rattle.speculation.specs.Speculation.{speculate, speculative_refusal, speculative_run}

-- ---- refusals

-- Each at its place: `fitting` says that no labels and no other lent buffer call for 11, `valid` that no label calls for 12, `words` are those of the journal.
pub record AtTheirPlace (settings : Settings) (lengths : Lengths) (list : List ℕ) (start window words : ℕ) (fitting valid : Bool) : Type 0 where
  -- 10 for W over 64, whatever else is wrong.
  pub window_refused : 64 < window → speculative_refusal settings lengths list start window words fitting valid ≡ refusal_report 10 0
  -- 10 for another setting, before a short journal.
  pub setting_refused : settings_in_range settings ≡ false → speculative_refusal settings lengths list start window words fitting valid ≡ refusal_report 10 0
  -- 11 for a journal under 4W words, before labels, list and start.
  pub journal_refused : window ≤ 64 → settings_in_range settings ≡ true → words < 4 * window
      → speculative_refusal settings lengths list start window words fitting valid ≡ refusal_report 11 0
  -- Else what a labelled run refuses.
  pub otherwise : window ≤ 64 → 4 * window ≤ words
      → speculative_refusal settings lengths list start window words fitting valid ≡ refusal settings lengths list start fitting valid

-- ---- the journal

-- After a run, its first 4W words are zeros and the later ones as lent.
pub record Cleared (window : ℕ) (journal journal' : List ℕ) : Type 0 where
  pub same_length : length journal' ≡ length journal
  pub zeros : (k : ℕ) → k < 4 * window → get_or journal' k 0 ≡ 0
  pub lent : (k : ℕ) → 4 * window ≤ k → get_or journal' k 0 ≡ get_or journal k 0

-- ---- operations

-- What a stop, 31 to 35, leaves of the operation at `at`: it isn't counted, and bytes and labels are those before it.
pub record StoppedAt (at : Position) (labels m : Memory) (r : Ended) : Type 0 where
  pub value : r.value ≡ 0
  pub index : r.position.index ≡ at.index
  pub executed : r.position.executed ≡ at.executed
  pub same_labels : r.labels ≡ labels
  pub same_memory : r.memory ≡ m

-- How a run that ended stands to the state after as many single operations as it counts, each with its window.
pub data Counted (program : Program) (window : ℕ) (r : Ended) : Stepped → Type 0 where
  -- 2 BUDGET: it is this state.
  spent : r.ending ≡ 2 → Counted program window r (Stepped.going r.position r.labels r.memory)
  -- 1 EXIT: the last of them exited.
  exited : r.ending ≡ 1 → Counted program window r (Stepped.halted r)
  -- Any other: at n, or the next operation stops, and isn't counted.
  stopped : (at : Position) (labels m : Memory) → speculated program window at labels m ≡ Stepped.halted r → r.position.executed ≡ at.executed
      → Counted program window r (Stepped.going at labels m)

-- ---- the call

-- 0 to 2 END, EXIT, BUDGET; 10 to 12 and 21 to 27 the refusals; 31 to 35 the stops.
pub data Answer : ℕ → Type 0 where
  finished : (e : ℕ) → e ≤ 2 → Answer e
  early : (e : ℕ) → 10 ≤ e → e ≤ 12 → Answer e
  late : (e : ℕ) → 21 ≤ e → e ≤ 27 → Answer e
  stopped : (e : ℕ) → 31 ≤ e → e ≤ 35 → Answer e

-- All of these.
pub record SpeculativeLimits : Type 0 where
  pub in_order : (settings : Settings) (lengths : Lengths) (list : List ℕ) (start window words : ℕ) (fitting valid : Bool)
      → AtTheirPlace settings lengths list start window words fitting valid
  -- A refusal leaves all as lent.
  pub refused : (settings : Settings) (list : List ℕ) (start budget window : ℕ) (log journal : List ℕ) (labels m : Memory)
      → (let s = speculative_run settings list start budget window log journal labels m in
      10 ≤ s.outcome.report.ending → s.outcome.report.ending ≤ 27 → Unchanged log labels m s.outcome × (s.journal ≡ journal))
  -- 0 to 2.
  pub finished : (settings : Settings) (list : List ℕ) (start budget window : ℕ) (log journal : List ℕ) (labels m : Memory)
      → (let s = speculative_run settings list start budget window log journal labels m in s.outcome.report.ending ≤ 2 → Cleared window journal s.journal)
  -- 31 to 35.
  pub stopped : (settings : Settings) (list : List ℕ) (start budget window : ℕ) (log journal : List ℕ) (labels m : Memory)
      → (let s = speculative_run settings list start budget window log journal labels m in 31 ≤ s.outcome.report.ending → Cleared window journal s.journal)
  -- No other ending.
  pub endings : (settings : Settings) (list : List ℕ) (start budget window : ℕ) (log journal : List ℕ) (labels m : Memory)
      → Answer (speculative_run settings list start budget window log journal labels m).outcome.report.ending
  -- Operations of windows spend no budget.
  pub limited : (settings : Settings) (list : List ℕ) (start budget window : ℕ) (log journal : List ℕ) (labels m : Memory)
      → Limited budget log (speculative_run settings list start budget window log journal labels m).outcome
  -- A run writes at most W + 1 log words for each operation of its budget.
  pub words : (settings : Settings) (list : List ℕ) (start budget window : ℕ) (log journal : List ℕ) (labels m : Memory)
      → (speculative_run settings list start budget window log journal labels m).outcome.report.logged ≤ budget * (window + 1)
  -- A window executes at most W operations. An operation has at most one window, so that a run executes at most W + 1 times its budget.
  pub ahead_limited : (program : Program) (window i room : ℕ) (labels m : Memory) → (ahead program window i room labels m).position.executed ≤ window
  -- An operation that goes on is counted once, whatever its window did.
  pub counted : (program : Program) (window : ℕ) (at at' : Position) (labels m labels' m' : Memory)
      → speculated program window at labels m ≡ Stepped.going at' labels' m' → at'.executed ≡ suc at.executed
  pub stopped_operation : (program : Program) (window : ℕ) (at : Position) (labels m : Memory) (r : Ended)
      → speculated program window at labels m ≡ Stepped.halted r → 31 ≤ r.ending → StoppedAt at labels m r
  pub counted_operations : (program : Program) (window budget : ℕ) (at : Position) (labels m : Memory)
      → (let r = speculate program window budget at labels m in
      Counted program window r (after_operations (speculated program window) (r.position.executed - at.executed) (Stepped.going at labels m)))
