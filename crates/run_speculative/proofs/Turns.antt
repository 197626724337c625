-- The loop over turns of the speculative run.
use Rattle.std.proofs.Common.{◌≡◌, ℕ, ◌+◌, ◌≤◌, true, false, not, ◌&&◌, eqb, ltb, List, length, refl, ◌∙◌, true≢false, arith}
use Rattle.operation.specs.declared.report.Report.{Report}
use Rattle.operation.specs.Layout.{operation_count}
use Rattle.validation.specs.Verdict.{settings_in_range}
use Rattle.machine.specs.Program.{Program}
use Rattle.machine.specs.Memory.{Memory, lengths_of}
use Rattle.machine.specs.Calls.{outcome_of, labelled_outcome}
use Rattle.speculation.specs.Speculation.{journal_words, speculate}
use Rattle.speculation.proofs.Runs.{speculate_laws}
use Rattle.run_plan.specs.Valid.{Valid}
use Rattle.run_execution.specs.Loops.{position}
use Rattle.run_labelled.specs.Turns.{turn_of}
use Rattle.run_labelled.proofs.Turning.{Turning, begun, may_turn, at_next}
use Rattle.run_window.specs.Windows.{Spared}

-- what is left to do from here is the whole run, and the journal's further words are as lent
pub record Speculating (program : Program) (window budget start : ℕ) (log₀ journal₀ : List ℕ) (labels₀ m₀ : Memory) (i executed k : ℕ) (log journal : List ℕ) (labels m : Memory)
    : Type 0 where
  pub turning : Turning true (not (eqb window 0)) program (speculate program window) budget start 0 log₀ labels₀ m₀ i executed k log labels m
  pub spared : Spared window journal₀ journal
  pub room : journal_words window ≤ length journal₀

pub speculating : (program : Program) (window budget start : ℕ) (log journal : List ℕ) (labels m : Memory)
    → Valid (lengths_of m) program.list × (start ≤ operation_count program.list) × (lengths_of labels ≡ lengths_of m) × (settings_in_range program.settings ≡ true)
    × (journal_words window ≤ length journal)
    → Speculating program window budget start log journal labels m start 0 0 log journal labels m
speculating program window budget start log journal labels m pre = record {
  turning = begun true (not (eqb window 0)) program (speculate program window) budget start 0 log labels m pre.3 pre.0 pre.1 (omega arith)
      (record { lengths = λ t. pre.2; none = λ t. absurd (true≢false t) });
  spared = record { same_length = refl; further = refl };
  room = pre.4;
}

module _ {program : Program} {window budget start : ℕ} {log₀ journal₀ : List ℕ} {labels₀ m₀ : Memory} {i executed k : ℕ} {log journal : List ℕ} {labels m : Memory}
    (g : Speculating program window budget start log₀ journal₀ labels₀ m₀ i executed k log journal labels m) (most : ℕ) (em : most ≡ turn_of (not (eqb window 0)) budget) where
  pub may_speculate : Valid (lengths_of m) program.list × (i ≤ operation_count program.list) × (k ≤ length log) × (lengths_of labels ≡ lengths_of m)
      × (settings_in_range program.settings ≡ true) × (eqb window 0 ≡ false → most ≤ 1) × (journal_words window ≤ length journal)
  may_speculate =
      let may = may_turn (speculate_laws program window) g.turning most em in
      (may.0, may.1, may.2, may.3.lengths refl, may.5, λ z. may.4 (rw z refl), rw g.spared.same_length g.room)

  module _ (journal' : List ℕ) (s : Spared window journal journal') where
    pub spared_on : Spared window journal₀ journal'
    spared_on = record { same_length = s.same_length ∙ g.spared.same_length; further = s.further ∙ g.spared.further }

    pub speculating_next : (done : Report) (m' labels' : Memory) (log' : List ℕ)
        → labelled_outcome done m' labels' log' ≡ outcome_of log (speculate program window most (position i k 0 log) labels m)
        → eqb done.ending 2 && ltb (executed + done.executed) budget ≡ true
        → Speculating program window budget start log₀ journal₀ labels₀ m₀ done.index (executed + done.executed) done.logged log' journal' labels' m'
    speculating_next done m' labels' log' e p = record {
      turning = at_next (speculate_laws program window) g.turning most em done m' labels' log' e p;
      spared = spared_on;
      room = g.room;
    }
