-- A run stopped by BUDGET, resumed at its index with the memory and labels it left, the unused part of the log and a further
-- budget, ends as one run with the two budgets added, operations and log words summed.
use Rattle.std.specs.Prelude.{ℕ, ◌+◌, List, ◌++◌, ◌≡◌, take, drop}
use Rattle.operation.specs.declared.layout.Settings.{Settings}
use Rattle.machine.specs.Memory.{Memory}
use Rattle.machine.specs.Calls.{Outcome, labelled_run, plain_run}

-- The whole run ends as the second part does, after the first.
pub record Summed (first second whole : Outcome) : Type 0 where
  pub ending : whole.report.ending ≡ second.report.ending
  pub index : whole.report.index ≡ second.report.index
  pub executed : whole.report.executed ≡ first.report.executed + second.report.executed
  pub logged : whole.report.logged ≡ first.report.logged + second.report.logged
  pub value : whole.report.value ≡ second.report.value
  pub memory : whole.memory ≡ second.memory
  pub labels : whole.labels ≡ second.labels
  pub log : whole.log ≡ take first.report.logged first.log ++ second.log

-- The part of the log that a run left unused.
abbrev pub unused : Outcome → List ℕ
unused o = drop o.report.logged o.log

-- Of the plain run.
abbrev pub PlainResumes : Type 0
PlainResumes = (settings : Settings) (list : List ℕ) (start budget further : ℕ) (log : List ℕ) (m : Memory)
    → (let first = plain_run settings list start budget log m in
    first.report.ending ≡ 2
    → Summed first (plain_run settings list first.report.index further (unused first) first.memory)
    (plain_run settings list start (budget + further) log m))

-- Of the labelled run.
abbrev pub LabelledResumes : Type 0
LabelledResumes = (settings : Settings) (list : List ℕ) (start budget further : ℕ) (log : List ℕ) (labels m : Memory)
    → (let first = labelled_run settings list start budget log labels m in
    first.report.ending ≡ 2
    → Summed first (labelled_run settings list first.report.index further (unused first) first.labels first.memory)
    (labelled_run settings list start (budget + further) log labels m))
