-- The speculative run of paper 02's A2, with all refusals before anything runs.
use Rattle.std.specs.Prelude.{ℕ, zero, suc, ◌*◌, Bool, cond, ◌&&◌, List, ◌++◌, eqb, leb, ltb, length, drop, replicate}
use Rattle.operation.specs.declared.layout.Settings.{Settings}
use Rattle.operation.specs.Spaces.{Lengths}
use Rattle.operation.specs.declared.report.Report.{Report}
use Rattle.operation.specs.Layout.{operation_count}
use Rattle.validation.specs.Verdict.{refusal_report}
use Rattle.machine.specs.Program.{Program, program_of}
use Rattle.machine.specs.Memory.{Memory, lengths_of}
use Rattle.machine.specs.Run.{Position, Ended, ended, continued}
use Rattle.machine.specs.Calls.{Outcome, labelled_outcome, same_lengths, labels_in_range, refusal, starting, outcome_of}
use Rattle.speculation.specs.Window.{speculated}

-- A run with a window and a budget, from a position: at n, END; count equals budget, BUDGET. Operations of a window spend none of it.
unfoldable pub speculate : Program → (window budget : ℕ) → Position → (labels memory : Memory) → Ended
speculate program window zero at labels m = ended (cond (ltb at.index (operation_count program.list)) 2 0) 0 at labels m
speculate program window (suc budget) at labels m = continued (speculate program window budget) (speculated program window at labels m)

-- ---- refusals

-- The window W is 0 to 64 operations.
unfoldable pub most_ahead : ℕ
most_ahead = 64

-- A window of W operations needs a journal of 4W words.
unfoldable pub journal_words : (window : ℕ) → ℕ
journal_words window = 4 * window

-- 10 for W over 64; 11 for a journal under 4W words; the others as for the labelled run, each at its place. `words` are those of the
-- journal; `fitting` says that no labels and no other lent buffer call for 11, `valid` that no label calls for 12.
unfoldable pub speculative_refusal : Settings → Lengths → (list : List ℕ) → (start window words : ℕ) → (fitting valid : Bool) → Report
speculative_refusal settings lengths list start window words fitting valid =
    cond (leb window most_ahead) (refusal settings lengths list start (leb (journal_words window) words && fitting) valid) (refusal_report 10 0)

-- ---- the run

-- What a speculative run leaves: as a labelled run, and the journal.
pub record Speculation : Type 0 where
  pub outcome : Outcome
  pub journal : List ℕ

-- Its report and the buffers lent to it.
abbrev pub speculation : Report → (memory labels : Memory) → (log journal : List ℕ) → Speculation
speculation report m labels log journal = record { outcome = labelled_outcome report m labels log; journal = journal }

-- The journal's first 4W words end as zeros; later ones stay as lent.
unfoldable pub journal_after : (window : ℕ) → (journal : List ℕ) → List ℕ
journal_after window journal = replicate (journal_words window) 0 ++ drop (journal_words window) journal

-- A refusal changes no lent buffer.
unfoldable pub called_ahead : Settings → (list : List ℕ) → (start budget window : ℕ) → (log journal : List ℕ) → (labels memory : Memory) → (refused : Report) → Speculation
called_ahead settings list start budget window log journal labels m refused =
    cond (eqb refused.ending 0)
    (record {
      outcome = outcome_of log (speculate (program_of settings list) window budget (starting start (length log)) labels m);
      journal = journal_after window journal;
    })
    (speculation refused m labels log journal)

-- The speculative run.
unfoldable pub speculative_run : Settings → (list : List ℕ) → (start budget window : ℕ) → (log journal : List ℕ) → (labels memory : Memory) → Speculation
speculative_run settings list start budget window log journal labels m =
    called_ahead settings list start budget window log journal labels m
    (speculative_refusal settings (lengths_of m) list start window (length journal) (same_lengths (lengths_of labels) (lengths_of m)) (labels_in_range labels))
