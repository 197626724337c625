-- What the runs promise: the buffers when a call returns, and its answer, are what the definition gives for the buffers lent.
use Rattle.std.specs.Prelude.{ℕ, List, ◌≡◌}
use Rattle.operation.specs.declared.layout.Settings.{Settings}
use Rattle.operation.specs.declared.report.Report.{Report}
use Rattle.machine.specs.Memory.{Memory}
use Rattle.machine.specs.Calls.{plain_outcome, plain_run}
use Rattle.machine.specs.Counts.{counted_outcome, counted_run, counting, count_secrets}
use Rattle.speculation.specs.Counts.{counted_speculation, counted_speculative_run}

-- The plain run.
abbrev pub RunPromise : Settings → (list : List ℕ) → (start budget : ℕ) → (memory : Memory) → (log : List ℕ) → (memory' : Memory) → (log' : List ℕ) → Report → Type 0
RunPromise settings list start budget m log m' log' report = plain_outcome report m' log' ≡ plain_run settings list start budget log m

-- The labelled run.
abbrev pub LabelledRunPromise : Settings → (list : List ℕ) → (start budget : ℕ) → (memory labels counts : Memory) → (log : List ℕ)
    → (memory' labels' counts' : Memory) → (log' : List ℕ) → Report → Type 0
LabelledRunPromise settings list start budget m labels counts log m' labels' counts' log' report =
    counted_outcome report m' labels' counts' log' ≡ counted_run settings list start budget log labels m counts

-- The speculative run.
abbrev pub SpeculativeRunPromise : Settings → (list : List ℕ) → (start budget window : ℕ) → (memory labels counts : Memory) → (log journal : List ℕ)
    → (memory' labels' counts' : Memory) → (log' journal' : List ℕ) → Report → Type 0
SpeculativeRunPromise settings list start budget window m labels counts log journal m' labels' counts' log' journal' report =
    counted_speculation report m' labels' counts' log' journal' ≡ counted_speculative_run settings list start budget window log journal labels m counts

-- The filling of counts.
abbrev pub CountingPromise : (labels counts counts' : Memory) → Report → Type 0
CountingPromise labels counts counts' report = counting report counts' ≡ count_secrets labels counts
