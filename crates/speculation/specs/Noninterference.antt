-- Noninterference: what a speculative run shows does not depend on secret bytes, also by the ways not taken.
use Rattle.std.specs.Prelude.{ℕ, List, ◌≡◌, length}
use Rattle.operation.specs.declared.layout.Settings.{Settings}
use Rattle.machine.specs.Memory.{Memory}
use Rattle.machine.specs.Noninterference.{LowEquivalent, Indistinguishable}
use Rattle.speculation.specs.Speculation.{Speculation, speculative_run}

-- The same report, log, final labels and public bytes; and the same journal, if the same was lent.
pub record IndistinguishableAhead (journal journal' : List ℕ) (first second : Speculation) : Type 0 where
  pub runs : Indistinguishable first.outcome second.outcome
  pub journals : journal ≡ journal' → first.journal ≡ second.journal

-- Of every call, with W, the lengths of log and journal, and all else but the secret bytes fixed; refusals included.
abbrev pub SpeculativeNoninterference : Type 0
SpeculativeNoninterference = (settings : Settings) (list : List ℕ) (start budget window : ℕ) (log log' journal journal' : List ℕ)
    → length log ≡ length log' → length journal ≡ length journal'
    → (labels first second : Memory) → LowEquivalent labels first second
    → IndistinguishableAhead journal journal' (speculative_run settings list start budget window log journal labels first)
    (speculative_run settings list start budget window log' journal' labels second)
