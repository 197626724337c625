-- The papers' plain and labelled runs, with all refusals before anything runs.
use Rattle.std.specs.Prelude.{ℕ, Bool, true, cond, not, ◌&&◌, List, [], ◌∷◌, ◌++◌, eqb, leb, ltb, length, drop}
use Rattle.operation.specs.declared.layout.Settings.{Settings}
use Rattle.operation.specs.Spaces.{Lengths}
use Rattle.operation.specs.declared.report.Report.{Report}
use Rattle.operation.specs.Layout.{operation_count}
use Rattle.validation.specs.Verdict.{settings_in_range, lengths_in_range, malformed, refusal_report}
use Rattle.machine.specs.Program.{program_of}
use Rattle.machine.specs.Memory.{Memory, lengths_of}
use Rattle.machine.specs.Run.{Position, Ended, run}

-- What a call leaves: its report, and the buffers lent to it.
pub record Outcome : Type 0 where
  pub report : Report
  pub memory : Memory
  pub labels : Memory
  pub log : List ℕ

-- A plain run has no labels: every byte is public.
unfoldable pub unlabelled : Memory
unlabelled = record { unique = []; register = []; ram = [] }

-- What a plain run leaves.
abbrev pub plain_outcome : Report → (memory : Memory) → (log : List ℕ) → Outcome
plain_outcome report m log = record { report = report; memory = m; labels = unlabelled; log = log }

-- What a labelled run leaves.
abbrev pub labelled_outcome : Report → (memory labels : Memory) → (log : List ℕ) → Outcome
labelled_outcome report m labels log = record { report = report; memory = m; labels = labels; log = log }

-- ---- refusals

-- 11 LENGTH, for labels: label and space lengths unequal.
unfoldable pub same_lengths : Lengths → Lengths → Bool
same_lengths x y = eqb x.unique y.unique && eqb x.register y.register && eqb x.ram y.ram

-- 12 LABEL: a label not 0 or 1.
unfoldable pub all_labels : List ℕ → Bool
all_labels [] = true
all_labels (l ∷ ls) = leb l 1 && all_labels ls

-- Of all three spaces.
unfoldable pub labels_in_range : Memory → Bool
labels_in_range labels = all_labels labels.unique && all_labels labels.register && all_labels labels.ram

-- The refusals in their order, 10, 11, 12, 21 to 26, 27, as a report; its ending is 0 where nothing is refused. `fitting` says
-- that no labels and no other lent buffer call for 11, `valid` that no label calls for 12.
unfoldable pub refusal : Settings → Lengths → (list : List ℕ) → (start : ℕ) → (fitting valid : Bool) → Report
refusal settings lengths list start fitting valid =
    cond (not (settings_in_range settings)) (refusal_report 10 0)
    (cond (not (lengths_in_range lengths list && fitting)) (refusal_report 11 0)
    (cond (not valid) (refusal_report 12 0)
    (cond (not (eqb (malformed settings.address_size lengths list).rule 0))
    (refusal_report (malformed settings.address_size lengths list).rule (malformed settings.address_size lengths list).index)
    (cond (ltb (operation_count list) start) (refusal_report 27 0) (refusal_report 0 0)))))

-- ---- the runs

-- The log words written, then the further words as lent.
unfoldable pub log_after : (words log : List ℕ) → List ℕ
log_after words log = words ++ drop (length words) log

-- The report has five numbers: ending, index, operations executed, log words written, value.
unfoldable pub outcome_of : (log : List ℕ) → Ended → Outcome
outcome_of log r =
    record {
      report = record {
        ending = r.ending;
        index = r.position.index;
        executed = r.position.executed;
        logged = length r.position.log;
        value = r.value;
      };
      memory = r.memory;
      labels = r.labels;
      log = log_after r.position.log log;
    }

-- A run takes a start index; nothing is executed or logged yet.
unfoldable pub starting : (start room : ℕ) → Position
starting start room = record { index = start; room = room; executed = 0; log = [] }

-- A refusal changes no lent buffer.
unfoldable pub called : Settings → (list : List ℕ) → (start budget : ℕ) → (log : List ℕ) → (labels memory : Memory) → (refused : Report) → Outcome
called settings list start budget log labels m refused =
    cond (eqb refused.ending 0)
    (outcome_of log (run (program_of settings list) budget (starting start (length log)) labels m))
    (record { report = refused; memory = m; labels = labels; log = log })

-- The labelled run, with the refusals that its labels call for.
unfoldable pub labelled_run : Settings → (list : List ℕ) → (start budget : ℕ) → (log : List ℕ) → (labels memory : Memory) → Outcome
labelled_run settings list start budget log labels m =
    called settings list start budget log labels m
    (refusal settings (lengths_of m) list start (same_lengths (lengths_of labels) (lengths_of m)) (labels_in_range labels))

-- The plain run; no label can call for a refusal.
unfoldable pub plain_run : Settings → (list : List ℕ) → (start budget : ℕ) → (log : List ℕ) → (memory : Memory) → Outcome
plain_run settings list start budget log m =
    called settings list start budget log unlabelled m (refusal settings (lengths_of m) list start true true)

-- The plain step is a run with budget 1.
abbrev pub plain_step : Settings → (list : List ℕ) → (start : ℕ) → (log : List ℕ) → (memory : Memory) → Outcome
plain_step settings list start log m = plain_run settings list start 1 log m
