-- The loop over the operations of a window: a labelled run in turns of one operation, each with its entry in the journal.
use Prim.Native.Nat.{ℕ, ◌+◌, ◌*◌, ◌≤◌, ◌<◌}
use native.Mathlib.Omega.{arith}
use mathlib.Core.Path.{◌≡◌, refl, ap}
use mathlib.Core.Bool.{true, ◌&&◌, true≢false}
use mathlib.Core.List.{List}
use borrow.Author.Tests.{lt-ltb, ltb-true}
use lib.Dec.{eqb, ltb}
use lib.ListN.{length}
use lib.Seq.{sets}
use Rattle.integer.proofs.Booleans.{both}
use Rattle.operation.specs.declared.report.Report.{Report}
use Rattle.operation.specs.Layout.{operation_count}
use Rattle.validation.specs.Verdict.{settings_in_range}
use Rattle.machine.specs.Program.{Program}
use Rattle.machine.specs.Memory.{Memory, OfBytes, lengths_of}
use Rattle.machine.specs.Run.{Ended, run}
use Rattle.machine.specs.Calls.{Outcome, outcome_of, labelled_outcome}
use Rattle.machine.specs.Conditions.{Words}
use Rattle.machine.proofs.Runs.{run_laws}
use Rattle.speculation.specs.Speculation.{journal_words}
use Rattle.run_plan.specs.Valid.{Valid}
use Rattle.run_plan.proofs.Places.{valid_with}
use Rattle.run_execution.specs.Loops.{position}
use Rattle.run_labelled.specs.Turns.{Fitting, turn_of}
use Rattle.run_labelled.proofs.Turning.{Turning, begun, at_next}
use Rattle.run_journal.specs.Journal.{target_before, entry_of, entry_words, words_of}
use Rattle.run_journal.proofs.Targets.{target_placed}
use Rattle.run_window.specs.Windows.{Saved}
use Rattle.run_window.proofs.Saving.{one_leaves, saved_none, entry_room, saved_step}

-- the entry of what slices hold, where they hold what the buffers hold
pub entry_from : (program : Program) (i at : ℕ) (journal : List ℕ) {journal' : List ℕ} {held_labels labels held m : Memory} → held_labels ≡ labels → held ≡ m
    → journal' ≡ sets journal at (words_of (entry_of held_labels held (target_before program held i)))
    → journal' ≡ sets journal at (words_of (entry_of labels m (target_before program m i)))
entry_from program i at journal el em h = rw (el, em) at h

-- what is left of the window from here is the whole window, and what was done can be undone
pub record SavedTurns (program : Program) (window start from : ℕ) (log₀ journal₀ : List ℕ) (labels₀ m₀ : Memory) (i executed k : ℕ) (log journal : List ℕ) (labels m : Memory)
    : Type 0 where
  pub turning : Turning true true program (run program) window start from log₀ labels₀ m₀ i executed k log labels m
  pub saved : Saved window journal₀ labels₀ m₀ executed journal labels m
  pub room : journal_words window ≤ length journal₀
  pub more : executed < window
  pub words : Words program.list

pub saved_begun : (program : Program) (window start from : ℕ) (log journal : List ℕ) (labels m : Memory) → Words program.list
    → Valid (lengths_of m) program.list × (start ≤ operation_count program.list) × (from ≤ length log) × (lengths_of labels ≡ lengths_of m) × (settings_in_range program.settings ≡ true) × (0 < window)
    × (journal_words window ≤ length journal)
    → SavedTurns program window start from log journal labels m start 0 from log journal labels m
saved_begun program window start from log journal labels m words pre = record {
  turning = begun true true program (run program) window start from log labels m pre.4 pre.0 pre.1 pre.2
      (record { lengths = λ t. pre.3; none = λ t. absurd (true≢false t) });
  saved = saved_none window journal labels m pre.3;
  room = pre.6;
  more = pre.5;
  words = words;
}

module _ {program : Program} {window start from : ℕ} {log₀ journal₀ : List ℕ} {labels₀ m₀ : Memory} {i executed k : ℕ} {log journal : List ℕ} {labels m : Memory}
    (g : SavedTurns program window start from log₀ journal₀ labels₀ m₀ i executed k log journal labels m) where
  still_valid : Valid (lengths_of m) program.list
  still_valid = valid_with g.turning.lengths g.turning.valid

  pub may_save : Valid (lengths_of m) program.list × (i ≤ operation_count program.list) × (settings_in_range program.settings ≡ true)
      × (lengths_of labels ≡ lengths_of m) × (entry_words * executed + entry_words ≤ length journal)
  may_save = (still_valid, g.turning.index, g.turning.settings, g.saved.undoable.lengths, entry_room g.saved g.room g.more)

  pub may_run : Valid (lengths_of m) program.list × (i ≤ operation_count program.list) × (k ≤ length log) × Fitting true labels m
      × (settings_in_range program.settings ≡ true)
  may_run = (
    still_valid,
    g.turning.index,
    g.turning.logs.place,
    record { lengths = λ t. g.saved.undoable.lengths; none = λ t. absurd (true≢false t) },
    g.turning.settings,
  )

  -- a turn is one operation
  pub one_turn : 1 ≡ turn_of true window
  unfolding turn_of
  one_turn = let h : executed < window = g.more in rw (lt-ltb 0 window (omega arith)) refl

  module _ (bytes : OfBytes m) (marks : OfBytes labels) (journal' : List ℕ)
      (ej : journal' ≡ sets journal (entry_words * executed) (words_of (entry_of labels m (target_before program m i)))) (done : Report) (m' labels' : Memory) (log' : List ℕ)
      (e : labelled_outcome done m' labels' log' ≡ outcome_of log (run program 1 (position i k 0 log) labels m)) where
    abbrev r : Ended
    r = run program 1 (position i k 0 log) labels m

    pub saved_on : Saved window journal₀ labels₀ m₀ (executed + done.executed) journal' labels' m'
    unfolding outcome_of position
    saved_on =
        let c = ((run_laws program).counts 1 (position i k 0 log) labels m).counted in
        let ee : done.executed ≡ r.position.executed = ap (λ (o : Outcome). o.report.executed) e in
        let el : labels' ≡ r.labels = ap (λ (o : Outcome). o.labels) e in
        let em : m' ≡ r.memory = ap (λ (o : Outcome). o.memory) e in
        rw (ee, el, em)
        (saved_step g.saved g.room g.more (target_before program m i) (target_placed program m i still_valid g.turning.index) journal' ej bytes marks refl c
        (one_leaves program (position i k 0 log) labels m g.words bytes still_valid g.turning.index))

    pub saved_next : eqb done.ending 2 && ltb (executed + done.executed) window ≡ true
        → SavedTurns program window start from log₀ journal₀ labels₀ m₀ done.index (executed + done.executed) done.logged log' journal' labels' m'
    saved_next p = record {
      turning = at_next (run_laws program) g.turning 1 one_turn done m' labels' log' e p;
      saved = saved_on;
      room = g.room;
      more = ltb-true _ _ (both (eqb done.ending 2) _ p).1;
      words = g.words;
    }
