-- A speculative run stopped by BUDGET, resumed at its index with what it left, the unused part of the log and a further budget, ends as one
-- run with the two budgets added, operations and log words summed.
use Rattle.std.specs.Prelude.{ℕ, ◌+◌, List, ◌≡◌}
use Rattle.operation.specs.declared.layout.Settings.{Settings}
use Rattle.machine.specs.Memory.{Memory}
use Rattle.machine.specs.Resume.{Summed, unused}
use Rattle.speculation.specs.Speculation.{Speculation, speculative_run}

-- The whole run ends as the second part does, after the first, and leaves its journal.
pub record SummedAhead (first second whole : Speculation) : Type 0 where
  pub outcomes : Summed first.outcome second.outcome whole.outcome
  pub journals : second.journal ≡ whole.journal

-- Of every call.
abbrev pub SpeculativeResumes : Type 0
SpeculativeResumes = (settings : Settings) (list : List ℕ) (start budget further window : ℕ) (log journal : List ℕ) (labels m : Memory)
    → (let first = speculative_run settings list start budget window log journal labels m in
    first.outcome.report.ending ≡ 2
    → SummedAhead first
    (speculative_run settings list first.outcome.report.index further window (unused first.outcome) first.journal first.outcome.labels first.outcome.memory)
    (speculative_run settings list start (budget + further) window log journal labels m))
