-- The speculative run with counts of secret bytes: an undo moves them too.
use Rattle.std.specs.Prelude.{ℕ, zero, suc, cond, ◌&&◌, List, eqb, length}
use Rattle.operation.specs.declared.layout.Settings.{Settings}
use Rattle.operation.specs.declared.report.Report.{Report}
use Rattle.machine.specs.Program.{Program, program_of}
use Rattle.machine.specs.Memory.{Memory, lengths_of}
use Rattle.machine.specs.Run.{Position, Stepped, stepped}
use Rattle.machine.specs.Calls.{same_lengths, labels_in_range, starting}
use Rattle.machine.specs.Counts.{counts_after, counted_on, run_counts, counts_fit}
use Rattle.speculation.specs.Window.{Way, ahead, reached, opens_window, other_way_at, speculated}
use Rattle.speculation.specs.Speculation.{Speculation, speculation, speculative_refusal, called_ahead}

-- The window of a way: its operations move the counts, and then the undo, which gives all labels back, does. Outside the list there is none.
unfoldable pub window_counts : Program → (window room : ℕ) → (labels memory counts : Memory) → Way → Memory
window_counts program window room labels m counts Way.outside = counts
window_counts program window room labels m counts (Way.inside i) =
    counts_after (ahead program window i room labels m).labels labels (run_counts program window (starting i room) labels m counts)

-- The counts after the window of an operation, if it opens one.
unfoldable pub counts_past_window : Program → (window : ℕ) → Position → (labels memory counts : Memory) → Memory
counts_past_window program window at labels m counts =
    let right : Stepped = stepped program at labels m in
    cond (opens_window program at right) (window_counts program window (reached right).room labels m counts (other_way_at program at m)) counts

-- The counts after a run with a window and a budget: of each operation its window moves them, and then its own labels do.
unfoldable pub speculate_counts : Program → (window budget : ℕ) → Position → (labels memory counts : Memory) → Memory
speculate_counts program window zero at labels m counts = counts
speculate_counts program window (suc budget) at labels m counts =
    counted_on (speculate_counts program window budget) labels (counts_past_window program window at labels m counts) (speculated program window at labels m)

-- What a speculative call with counts leaves.
pub record CountedSpeculation : Type 0 where
  pub speculation : Speculation
  pub counts : Memory

-- Its report and the buffers lent to it.
abbrev pub counted_speculation : Report → (memory labels counts : Memory) → (log journal : List ℕ) → CountedSpeculation
counted_speculation report m labels counts log journal = record { speculation = speculation report m labels log journal; counts = counts }

-- The refusals of a speculative run, with 11 for counts that are too short.
unfoldable pub counted_speculative_refusal : Settings → (list : List ℕ) → (start window : ℕ) → (journal : List ℕ) → (labels memory counts : Memory) → Report
counted_speculative_refusal settings list start window journal labels m counts =
    speculative_refusal settings (lengths_of m) list start window (length journal)
    (same_lengths (lengths_of labels) (lengths_of m) && counts_fit (lengths_of m) (lengths_of counts)) (labels_in_range labels)

-- The speculative run. A refusal changes no lent buffer.
unfoldable pub counted_speculative_run : Settings → (list : List ℕ) → (start budget window : ℕ) → (log journal : List ℕ) → (labels memory counts : Memory) → CountedSpeculation
counted_speculative_run settings list start budget window log journal labels m counts =
    let refused : Report = counted_speculative_refusal settings list start window journal labels m counts in
    record {
      speculation = called_ahead settings list start budget window log journal labels m refused;
      counts = cond (eqb refused.ending 0) (speculate_counts (program_of settings list) window budget (starting start (length log)) labels m counts) counts;
    }
