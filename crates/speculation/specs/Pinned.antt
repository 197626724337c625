-- What a speculative call answers, field by field: an accepted one what its run did, a refused one its refusal.
use Rattle.std.specs.Prelude.{ℕ, List, ◌≡◌, length}
use Rattle.operation.specs.declared.layout.Settings.{Settings}
use Rattle.operation.specs.declared.report.Report.{Report}
use Rattle.machine.specs.Program.{program_of}
use Rattle.machine.specs.Memory.{Memory, lengths_of}
use Rattle.machine.specs.Calls.{same_lengths, labels_in_range, starting}
use Rattle.machine.specs.Pinned.{Answers}
use Rattle.speculation.specs.Speculation.{speculate, speculative_refusal, speculation, speculative_run}

-- The refusal of a speculative run, told here again: so the labels and the journal that it looks at are part of what is stated.
abbrev pub speculative_refusal_of : Settings → (list : List ℕ) → (start window : ℕ) → (journal : List ℕ) → (labels memory : Memory) → Report
speculative_refusal_of settings list start window journal labels m =
    speculative_refusal settings (lengths_of m) list start window (length journal) (same_lengths (lengths_of labels) (lengths_of m)) (labels_in_range labels)

-- Both of these. The journal of an accepted call is told by `Cleared`.
pub record SpeculativePinned : Type 0 where
  pub accepted : (settings : Settings) (list : List ℕ) (start budget window : ℕ) (log journal : List ℕ) (labels m : Memory)
      → (speculative_refusal_of settings list start window journal labels m).ending ≡ 0
      → Answers log (speculate (program_of settings list) window budget (starting start (length log)) labels m)
      (speculative_run settings list start budget window log journal labels m).outcome
  -- It leaves all as lent.
  pub refused : (settings : Settings) (list : List ℕ) (start budget window : ℕ) (log journal : List ℕ) (labels m : Memory)
      → ((speculative_refusal_of settings list start window journal labels m).ending ≡ 0 → ⊥)
      → speculative_run settings list start budget window log journal labels m
      ≡ speculation (speculative_refusal_of settings list start window journal labels m) m labels log journal
