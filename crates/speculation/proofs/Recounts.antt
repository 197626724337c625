-- The counts of a window, and of every speculative call.
use Prim.Native.Nat.{ℕ, ◌+◌, ◌*◌, ◌≤◌}
use native.Mathlib.Omega.{arith}
use mathlib.Core.Bool.{Bool, true, false, cond, ◌&&◌, and-true}
use mathlib.Core.List.{List}
use mathlib.Core.Path.{◌≡◌, refl, sym, ◌∙◌}
use borrow.Author.Tests.{le-leb}
use lib.Dec.{eqb, leb}
use lib.ListN.{length}
use Rattle.integer.proofs.Booleans.{and-false}
use Rattle.secret_counts.specs.Moved.{secret_weight}
use Rattle.operation.specs.declared.layout.Settings.{Settings}
use Rattle.operation.specs.declared.report.Report.{Report}
use Rattle.validation.specs.Verdict.{settings_in_range, lengths_in_range, refusal_report}
use Rattle.machine.specs.Program.{Program, program_of}
use Rattle.machine.specs.Memory.{Memory, lengths_of}
use Rattle.machine.specs.Run.{Position, Ended, stepped}
use Rattle.machine.specs.Calls.{same_lengths, labels_in_range, outcome_of, starting}
use Rattle.machine.specs.Resume.{unused}
use Rattle.machine.specs.Counts.{counted_on, run_counts, counts_fit, counted_refusal, counted_run}
use Rattle.machine.specs.MovedCounts.{MovedSpaces}
use Rattle.machine.specs.Recounts.{WordsOf}
use Rattle.machine.proofs.Cases.{either}
use Rattle.machine.proofs.Refusals.{not_stopped, Accepted, accepted, restarted}
use Rattle.machine.proofs.Order.{refusals_in_order}
use Rattle.machine.proofs.Budget.{later, stepped_later}
use Rattle.machine.proofs.Counts.{not_refused}
use Rattle.machine.proofs.Runs.{started_kept}
use Rattle.machine.proofs.MovedCounts.{moved_spaces_told}
use Rattle.machine.proofs.CountedRuns.{Turns, none, more, turns_lengths, turns_words, turns_moved, turns_back, Moves, run_turns, run_turned, run_moved, run_counts-words, counts_restarted}
use Rattle.machine.proofs.Recounts.{CountsLeft, left_lent, left-run, labels_fit, same_counts, counts_short}
use Rattle.speculation.specs.Window.{Way, ahead, reached, opens_window, other_way_at, speculated}
use Rattle.speculation.specs.Speculation.{speculate, most_ahead, journal_words, speculative_refusal, speculation, journal_after, called_ahead, speculative_run}
use Rattle.speculation.specs.Counts.{window_counts, counts_past_window, speculate_counts, CountedSpeculation, counted_speculation, counted_speculative_refusal, counted_speculative_run}
use Rattle.speculation.specs.Recounts.{CountsOfWindows, CountsOfSpeculativeRuns, CountedSpeculativeNoninterference, SummedAheadCounted, CountedSpeculativeResumes}
use Rattle.speculation.proofs.Accepted.{ahead_refuses, ahead-refusal, ahead_accepted}
use Rattle.speculation.proofs.Noninterference.{speculative_noninterference}
use Rattle.speculation.proofs.Windows.{Short, not_short}
use Rattle.speculation.proofs.Runs.{speculate_repeats, later_reached, later_passed, speculated_laws, speculate_laws}
use Rattle.speculation.proofs.Aside.{Aside, placed, speculate_equal}
use Rattle.speculation.proofs.Limits.{cleared, speculative_limits}
use Rattle.speculation.proofs.Resume.{resumed_call}

-- ---- a window

module _ (program : Program) (window : ℕ) where
  window_turns : (room : ℕ) (labels m counts : Memory) (way : Way) → Turns labels counts labels (window_counts program window room labels m counts way)
  unfolding window_counts ahead
  window_turns room labels m counts Way.outside = none
  window_turns room labels m counts (Way.inside i) =
      let there = run_turned program window (starting i room) labels m counts in
      more there labels (sym (turns_lengths there))

  past_turns : (at : Position) (labels m counts : Memory) → Turns labels counts labels (counts_past_window program window at labels m counts)
  unfolding counts_past_window
  past_turns at labels m counts =
      either (Turns labels counts labels) (opens_window program at (stepped program at labels m)) _ _
      (window_turns (reached (stepped program at labels m)).room labels m counts (other_way_at program at m)) none

  -- the count and the log of a position do not matter
  past_later : (n : ℕ) (words : List ℕ) (at : Position) (labels m counts : Memory)
      → counts_past_window program window (later n words at) labels m counts ≡ counts_past_window program window at labels m counts
  unfolding counts_past_window later
  past_later n words at labels m counts =
      let l = stepped_later n words program at labels m in
      rw (later_passed n words l, later_reached n words l) refl

pub counts_of_windows : CountsOfWindows
unfolding counted_on
counts_of_windows program window at labels m counts t w =
    let undone = turns_back t w (past_turns program window at labels m counts) in
    record {
      undone = undone;
      stopped = λ rest r e h.
          let same = (speculative_limits.stopped_operation program window at labels m r e h).same_labels in
          rw (e, undone, same) (turns_back t w (more none labels refl));
    }

-- ---- the run

pub speculate-moves : (program : Program) (window : ℕ) → Moves (speculated program window) (counts_past_window program window) (speculate_counts program window)
unfolding speculate_counts
speculate-moves program window = record { none = λ at labels m counts. refl; next = λ b at labels m counts. refl }

module _ (program : Program) (window budget : ℕ) (at : Position) (labels m counts : Memory) where
  pub speculate_turned : Turns labels counts (speculate program window budget at labels m).labels (speculate_counts program window budget at labels m counts)
  speculate_turned =
      run_turns (speculated_laws program window) (speculate_repeats program window) (speculate-moves program window) (past_turns program window) budget at labels m counts

  pub speculate-moved : counts_fit (lengths_of labels) (lengths_of counts) ≡ true
      → MovedSpaces secret_weight labels (speculate program window budget at labels m).labels counts (speculate_counts program window budget at labels m counts)
  speculate-moved t = turns_moved t speculate_turned

  pub speculate_counts-words : WordsOf counts → WordsOf (speculate_counts program window budget at labels m counts)
  speculate_counts-words = turns_words speculate_turned

-- ---- the call

module _ (settings : Settings) (list : List ℕ) (start budget window : ℕ) (log journal : List ℕ) (labels m counts : Memory) where
  abbrev program : Program
  program = program_of settings list

  abbrev from : Position
  from = starting start (length log)

  abbrev fitting : Bool
  fitting = same_lengths (lengths_of labels) (lengths_of m) && counts_fit (lengths_of m) (lengths_of counts)

  abbrev refused : Report
  refused = counted_speculative_refusal settings list start window journal labels m counts

  abbrev ran : Ended
  ran = speculate program window budget from labels m

  abbrev ran_counts : Memory
  ran_counts = speculate_counts program window budget from labels m counts

  abbrev call : CountedSpeculation
  call = counted_speculative_run settings list start budget window log journal labels m counts

  -- as it is left, by whether it runs
  abbrev left : Bool → CountedSpeculation
  left t = record {
    speculation = cond t (record { outcome = outcome_of log ran; journal = journal_after window journal }) (speculation refused m labels log journal);
    counts = cond t ran_counts counts;
  }

  call_others : counts_fit (lengths_of m) (lengths_of counts) ≡ true → call.speculation ≡ speculative_run settings list start budget window log journal labels m
  unfolding counted_speculative_run counted_speculative_refusal speculative_run
  call_others t = rw (t, and-true (same_lengths (lengths_of labels) (lengths_of m))) refl

  call_short : counts_fit (lengths_of m) (lengths_of counts) ≡ false → window ≤ 64 → settings_in_range settings ≡ true
      → call ≡ counted_speculation (refusal_report 11 0) m labels counts log journal
  unfolding counted_speculative_run counted_speculative_refusal speculative_refusal most_ahead called_ahead refusal_report
  call_short t w s =
      let long = leb (journal_words window) (length journal) in
      let short = (refusals_in_order settings (lengths_of m) list start false (labels_in_range labels)).length_refused s (and-false (lengths_in_range (lengths_of m) list)) in
      rw (t, and-false (same_lengths (lengths_of labels) (lengths_of m)), and-false long, le-leb window 64 w, short) refl

  -- 10 comes before it
  call_setting : refused ≡ refusal_report 10 0 → call ≡ counted_speculation (refusal_report 10 0) m labels counts log journal
  unfolding counted_speculative_run called_ahead refusal_report
  call_setting e = rw e refl

  -- a call that runs passed the checks of the labelled call
  call_accepted : eqb refused.ending 0 ≡ true → Accepted settings (lengths_of m) list start fitting (labels_in_range labels)
  unfolding counted_speculative_refusal
  call_accepted t =
      accepted settings (lengths_of m) list start fitting (labels_in_range labels)
      (ahead_accepted settings (lengths_of m) list start window (length journal) fitting (labels_in_range labels) t).3

  ran_left : eqb refused.ending 0 ≡ true → CountsLeft labels ran.labels counts ran_counts
  ran_left t = let a = call_accepted t in left-run m list a.lengths_right a.labels_fit (speculate_turned program window budget from labels m counts)

  call_left : CountsLeft labels call.speculation.outcome.labels counts call.counts
  unfolding counted_speculative_run called_ahead outcome_of
  call_left = by (eqb refused.ending 0) refl
    where
      by : (t : Bool) → eqb refused.ending 0 ≡ t → CountsLeft labels (left t).speculation.outcome.labels counts (left t).counts
      by true t = ran_left t
      by false t = left_lent labels counts

  call_refused : 10 ≤ call.speculation.outcome.report.ending → call.speculation.outcome.report.ending ≤ 27 → call.counts ≡ counts
  unfolding counted_speculative_run called_ahead outcome_of
  call_refused = by (eqb refused.ending 0)
    where
      by : (t : Bool) → 10 ≤ (left t).speculation.outcome.report.ending → (left t).speculation.outcome.report.ending ≤ 27 → (left t).counts ≡ counts
      by true x y = absurd (not_refused ((speculate_laws program window).counts budget from labels m).ending x y)
      by false x y = refl

  -- a run that no window ended leaves the labels of the labelled run, and so its counts
  ran_aside : eqb refused.ending 0 ≡ true → WordsOf counts → (Short ran.ending → ⊥) → ran_counts ≡ run_counts program budget from labels m counts
  unfolding starting
  ran_aside t w ne =
      let fits = (labels_fit labels m counts (call_accepted t).labels_fit).1 in
      let same = (speculate_equal program window budget from from labels m (placed (omega arith) Aside.start) ne).labels in
      moved_spaces_told (speculate_counts-words program window budget from labels m counts w) (run_counts-words program budget from labels m counts w)
      (rw same at (speculate-moved program window budget from labels m counts fits)) (run_moved program budget from labels m counts fits)

  call_aside : WordsOf counts → window ≤ 64 → 4 * window ≤ length journal → (Short call.speculation.outcome.report.ending → ⊥)
      → call.counts ≡ (counted_run settings list start budget log labels m counts).counts
  unfolding counted_speculative_run called_ahead outcome_of counted_run most_ahead journal_words
  call_aside w few long = rw (← same) (by (eqb refused.ending 0) refl)
    where
      same : refused ≡ counted_refusal settings list start labels m counts
      same = unfold counted_speculative_refusal counted_refusal in ahead-refusal settings (lengths_of m) list start window (length journal) fitting (labels_in_range labels) few long

      by : (t : Bool) → eqb refused.ending 0 ≡ t → (Short (left t).speculation.outcome.report.ending → ⊥)
          → (left t).counts ≡ cond t (run_counts program budget from labels m counts) counts
      by true t ne = ran_aside t w ne
      by false t ne = refl

  -- a call that goes on with what it left is not refused
  again_running : eqb refused.ending 0 ≡ true → ran.ending ≡ 2
      → counted_speculative_refusal settings list ran.position.index window (journal_after window journal) ran.labels ran.memory ran_counts ≡ refusal_report 0 0
  unfolding counted_speculative_refusal
  again_running t e =
      let laws = speculate_laws program window in
      let k = started_kept laws start budget log labels m in
      let (fits, few, long, z) = ahead_accepted settings (lengths_of m) list start window (length journal) fitting (labels_in_range labels) t in
      let a = call_accepted t in
      rw (k.memory, k.lengths, (ran_left t).count_lengths, k.values a.labels_right, (cleared window journal long).same_length)
      (ahead-refusal settings (lengths_of m) list ran.position.index window (length journal) fitting true few long
      ∙ restarted a ran.position.index (laws.index budget from labels m e))

pub counts_of_speculative_runs : CountsOfSpeculativeRuns
unfolding counted_speculative_refusal
counts_of_speculative_runs settings list start budget window log journal labels m counts =
    let fitting = same_lengths (lengths_of labels) (lengths_of m) && counts_fit (lengths_of m) (lengths_of counts) in
    let place = speculative_limits.in_order settings (lengths_of m) list start window (length journal) fitting (labels_in_range labels) in
    let l = call_left settings list start budget window log journal labels m counts in
    record {
      others = call_others settings list start budget window log journal labels m counts;
      window_refused = λ w. call_setting settings list start budget window log journal labels m counts (place.window_refused w);
      setting = λ s. call_setting settings list start budget window log journal labels m counts (place.setting_refused s);
      short = λ space x y few. call_short settings list start budget window log journal labels m counts (counts_short m counts space x y few);
      turned = l.turned;
      words = l.words;
      kept = l.true_counts;
      refused = call_refused settings list start budget window log journal labels m counts;
      aside = λ w t few long n34 n35. call_aside settings list start budget window log journal labels m counts w few long (not_short n34 n35);
    }

-- ---- noninterference

pub counted_speculative_noninterference : CountedSpeculativeNoninterference
counted_speculative_noninterference settings list start budget window log log' journal journal' e k labels first second l counts counts' t t' =
    let one = call_others settings list start budget window log journal labels first counts t in
    let two = call_others settings list start budget window log' journal' labels second counts' t' in
    let runs = rw (← one, ← two) at (speculative_noninterference settings list start budget window log log' journal journal' e k labels first second l) in
    record {
      runs = runs;
      same_counts = same_counts (call_left settings list start budget window log journal labels first counts)
          (rw (← runs.runs.labels) at (call_left settings list start budget window log' journal' labels second counts'));
    }

-- ---- resuming

pub counted_speculative_resumes : CountedSpeculativeResumes
unfolding counted_speculative_run counted_speculative_refusal called_ahead outcome_of refusal_report
counted_speculative_resumes settings list start b c window log journal labels m counts =
    by (eqb (counted_speculative_refusal settings list start window journal labels m counts).ending 0) refl
  where
    runs : (t : Bool) → ℕ → CountedSpeculation
    runs t budget = left settings list start budget window log journal labels m counts t

    by : (t : Bool) → eqb (counted_speculative_refusal settings list start window journal labels m counts).ending 0 ≡ t → (runs t b).speculation.outcome.report.ending ≡ 2
        → SummedAheadCounted (runs t b)
        (counted_speculative_run settings list (runs t b).speculation.outcome.report.index c window (unused (runs t b).speculation.outcome) (runs t b).speculation.journal
        (runs t b).speculation.outcome.labels (runs t b).speculation.outcome.memory (runs t b).counts)
        (runs t (b + c))
    by true t e =
        let p = program_of settings list in
        rw (again_running settings list start b window log journal labels m counts t e) (record {
          runs = resumed_call settings list start b c window log journal labels m e;
          counts = counts_restarted (speculated_laws p window) (speculate_repeats p window) (speculate-moves p window) (past_later p window) start b c log labels m counts e;
        })
    by false t e = absurd (not_stopped (ahead_refuses settings (lengths_of m) list start window (length journal) _ (labels_in_range labels)) e)
