-- The labelled run with counts of secret bytes, and the call that fills them: paper 02's A7.
use Rattle.std.specs.Prelude.{ℕ, zero, suc, Bool, cond, not, ◌&&◌, List, [], eqb, leb, length}
use Rattle.secret_counts.specs.Recount.{count_words, filled}
use Rattle.secret_counts.specs.Changes.{counts_changed}
use Rattle.operation.specs.declared.layout.Settings.{Settings}
use Rattle.operation.specs.Spaces.{Lengths}
use Rattle.operation.specs.declared.report.Report.{Report}
use Rattle.validation.specs.Verdict.{lengths_in_range, refusal_report}
use Rattle.machine.specs.Program.{Program, program_of}
use Rattle.machine.specs.Memory.{Memory, spaces, lengths_of}
use Rattle.machine.specs.Run.{Position, Stepped, stepped}
use Rattle.machine.specs.Calls.{Outcome, labelled_outcome, same_lengths, labels_in_range, refusal, starting, called}

-- ---- the counts of three spaces have the form of a memory, with words for bytes

-- Each label changed moves them.
unfoldable pub counts_after : (before after counts : Memory) → Memory
counts_after before after counts =
    spaces (counts_changed before.unique after.unique counts.unique) (counts_changed before.register after.register counts.register)
    (counts_changed before.ram after.ram counts.ram)

-- An operation moves them by the labels that it changed, and the rest of the run follows.
unfoldable pub counted_on : (rest : Position → (labels memory counts : Memory) → Memory) → (labels counts : Memory) → Stepped → Memory
counted_on rest labels counts (Stepped.halted r) = counts_after labels r.labels counts
counted_on rest labels counts (Stepped.going at labels' m) = rest at labels' m (counts_after labels labels' counts)

-- The counts after a run with a budget, operation by operation.
unfoldable pub run_counts : Program → (budget : ℕ) → Position → (labels memory counts : Memory) → Memory
run_counts program zero at labels m counts = counts
run_counts program (suc budget) at labels m counts = counted_on (run_counts program budget) labels counts (stepped program at labels m)

-- ---- the labelled run

-- 11 LENGTH, for counts: each space has at least as many words as it needs; `words` are those lent.
unfoldable pub counts_fit : (lengths words : Lengths) → Bool
counts_fit lengths words =
    leb (count_words lengths.unique) words.unique && leb (count_words lengths.register) words.register && leb (count_words lengths.ram) words.ram

-- What a call with counts leaves.
pub record CountedOutcome : Type 0 where
  pub outcome : Outcome
  pub counts : Memory

-- Its report and the buffers lent to it.
abbrev pub counted_outcome : Report → (memory labels counts : Memory) → (log : List ℕ) → CountedOutcome
counted_outcome report m labels counts log = record { outcome = labelled_outcome report m labels log; counts = counts }

-- The refusals of a labelled run, with 11 for counts that are too short.
unfoldable pub counted_refusal : Settings → (list : List ℕ) → (start : ℕ) → (labels memory counts : Memory) → Report
counted_refusal settings list start labels m counts =
    refusal settings (lengths_of m) list start (same_lengths (lengths_of labels) (lengths_of m) && counts_fit (lengths_of m) (lengths_of counts)) (labels_in_range labels)

-- The labelled run. A refusal changes no lent buffer.
unfoldable pub counted_run : Settings → (list : List ℕ) → (start budget : ℕ) → (log : List ℕ) → (labels memory counts : Memory) → CountedOutcome
counted_run settings list start budget log labels m counts =
    let refused : Report = counted_refusal settings list start labels m counts in
    record {
      outcome = called settings list start budget log labels m refused;
      counts = cond (eqb refused.ending 0) (run_counts (program_of settings list) budget (starting start (length log)) labels m counts) counts;
    }

-- The step is a run with budget 1.
abbrev pub counted_step : Settings → (list : List ℕ) → (start : ℕ) → (log : List ℕ) → (labels memory counts : Memory) → CountedOutcome
counted_step settings list start log labels m counts = counted_run settings list start 1 log labels m counts

-- ---- filling

-- What filling leaves: its report, and the counts.
pub record Counting : Type 0 where
  pub report : Report
  pub counts : Memory

-- Its report and the counts lent to it.
abbrev pub counting : Report → (counts : Memory) → Counting
counting report counts = record { report = report; counts = counts }

-- 11 for labels of a space over 65,536 bytes (there is no list) or for counts that are too short; 12 for a label not 0 or 1; else zeros.
unfoldable pub counting_refusal : (labels counts : Memory) → Report
counting_refusal labels counts =
    cond (not (lengths_in_range (lengths_of labels) [] && counts_fit (lengths_of labels) (lengths_of counts))) (refusal_report 11 0)
    (cond (not (labels_in_range labels)) (refusal_report 12 0) (refusal_report 0 0))

-- The counts of three spaces filled from their labels.
unfoldable pub counts_filled : (labels counts : Memory) → Memory
counts_filled labels counts =
    spaces (filled labels.unique counts.unique) (filled labels.register counts.register) (filled labels.ram counts.ram)

-- The call that fills the counts. A refusal changes none.
unfoldable pub count_secrets : (labels counts : Memory) → Counting
count_secrets labels counts =
    let refused : Report = counting_refusal labels counts in
    counting refused (cond (eqb refused.ending 0) (counts_filled labels counts) counts)
