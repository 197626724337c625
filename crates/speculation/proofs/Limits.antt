-- Refusals, counts, log words and the journal.
use Prim.Native.Nat.{ℕ, suc, ◌+◌, ◌*◌, ◌-◌, ◌≤◌}
use native.Mathlib.Numerals.{add-one}
use native.Mathlib.Omega.{arith}
use mathlib.Core.Bool.{Bool, true, false, cond, ◌&&◌}
use mathlib.Core.List.{List}
use mathlib.Core.Path.{◌≡◌, refl, ◌∙◌}
use borrow.Author.Tests.{eqb-false, le-leb, lt-leb}
use lib.Dec.{eqb, leb}
use lib.ListN.{length, drop, replicate, length-append, length-drop, length-replicate, get_or-replicate, get_or-append}
use Rattle.integer.proofs.Booleans.{and-false}
use Rattle.operation.specs.declared.layout.Settings.{Settings}
use Rattle.operation.specs.Spaces.{Lengths}
use Rattle.operation.specs.declared.report.Report.{Report}
use Rattle.validation.specs.Verdict.{refusal_report, lengths_in_range}
use Rattle.machine.specs.Program.{Program, program_of}
use Rattle.machine.specs.Memory.{Memory, lengths_of}
use Rattle.machine.specs.Run.{Position, Ended, Stepped, ended}
use Rattle.machine.specs.Calls.{same_lengths, labels_in_range, outcome_of, starting}
use Rattle.machine.specs.Limits.{Unchanged, Limited, after_operations}
use Rattle.machine.proofs.Cases.{either_equal}
use Rattle.machine.proofs.Refusals.{none, known, Refuses, early, late, refusal_report_lem}
use Rattle.machine.proofs.Order.{refusals_in_order}
use Rattle.machine.proofs.Counts.{Ran, not_refused, stopped_operation, counted_operation}
use Rattle.machine.proofs.Words.{run_writes}
use Rattle.machine.proofs.Limits.{ran_limited, refused_limited, refused_unchanged, run-after}
use Rattle.machine.proofs.Pinned.{lent_word}
use Rattle.machine.proofs.Runs.{run_laws, started_kept}
use Rattle.speculation.specs.Window.{ahead, speculated}
use Rattle.speculation.specs.Speculation.{most_ahead, journal_words, speculative_refusal, Speculation, speculation, speculate, journal_after, called_ahead, speculative_run}
use Rattle.speculation.specs.Limits.{AtTheirPlace, Cleared, Counted, Answer, SpeculativeLimits}
use Rattle.speculation.proofs.Accepted.{ahead_refuses, ahead-refusal, ahead_accepted}
use Rattle.speculation.proofs.Runs.{speculate_repeats, speculated_counts, speculated_writes, speculated_laws, speculate_laws}

-- ---- refusals

at_their_place : (settings : Settings) (lengths : Lengths) (list : List ℕ) (start window words : ℕ) (fitting valid : Bool)
    → AtTheirPlace settings lengths list start window words fitting valid
unfolding speculative_refusal most_ahead journal_words
at_their_place settings lengths list start window words fitting valid = record {
  window_refused = λ h. rw (lt-leb window most_ahead h) refl;
  setting_refused = λ s. either_equal (leb window most_ahead) ((refusals_in_order settings lengths list start (leb (journal_words window) words && fitting) valid).setting_refused s) refl;
  journal_refused = λ w s j.
      rw (le-leb window most_ahead w, lt-leb (journal_words window) words j)
      ((refusals_in_order settings lengths list start false valid).length_refused s (and-false (lengths_in_range lengths list)));
  otherwise = ahead-refusal settings lengths list start window words fitting valid;
}

-- ---- the journal

pub cleared : (window : ℕ) (journal : List ℕ) → journal_words window ≤ length journal → Cleared window journal (journal_after window journal)
unfolding journal_after journal_words
cleared window journal h =
    let n = journal_words window in
    let zeros : List ℕ = replicate n 0 in
    let long : length zeros ≡ n = length-replicate n 0 in
    record {
      same_length = rw (length-append zeros (drop n journal), long, length-drop n journal) (omega (arith, h));
      zeros = λ k l. get_or-append zeros (drop n journal) 0 k (omega (arith, l, long)) ∙ get_or-replicate n k 0 0 l;
      lent = λ k l. rw long at (lent_word zeros journal k (omega (arith, l, long)));
    }

-- ---- the call

module _ (settings : Settings) (list : List ℕ) (start budget window : ℕ) (log journal : List ℕ) (labels m : Memory) where
  abbrev from : Position
  from = starting start (length log)

  abbrev runs : Ended
  runs = speculate (program_of settings list) window budget from labels m

  -- it runs, or it is refused
  data Call : Speculation → Type 0 where
    ran : journal_words window ≤ length journal → Call (record { outcome = outcome_of log runs; journal = journal_after window journal })
    refused : {r : Report} → Refuses r → 10 ≤ r.ending → r.ending ≤ 27 → Answer r.ending → Call (speculation r m labels log journal)

  refused_call : {r : Report} → Refuses r → eqb r.ending 0 ≡ false → Call (speculation r m labels log journal)
  unfolding refusal_report
  refused_call (early e i none) z = absurd (eqb-false 0 0 z refl)
  refused_call (early e i (known n l h)) z = refused (early n i (known n l h)) l (omega (arith, h)) (Answer.early n l h)
  refused_call (late e i none) z = absurd (eqb-false 0 0 z refl)
  refused_call (late e i (known n l h)) z = refused (late n i (known n l h)) (omega (arith, l)) h (Answer.late n l h)

  call : Call (speculative_run settings list start budget window log journal labels m)
  unfolding speculative_run called_ahead
  call = by (eqb r.ending 0) refl
    where
      r : Report
      r = speculative_refusal settings (lengths_of m) list start window (length journal) (same_lengths (lengths_of labels) (lengths_of m)) (labels_in_range labels)

      by : (t : Bool) → eqb r.ending 0 ≡ t
          → Call (cond t (record { outcome = outcome_of log runs; journal = journal_after window journal }) (speculation r m labels log journal))
      by true t = ran (ahead_accepted settings (lengths_of m) list start window (length journal) (same_lengths (lengths_of labels) (lengths_of m)) (labels_in_range labels) t).2
      by false t = refused_call (ahead_refuses settings (lengths_of m) list start window (length journal) (same_lengths (lengths_of labels) (lengths_of m)) (labels_in_range labels)) t

  call_refused : {s : Speculation} → Call s → 10 ≤ s.outcome.report.ending → s.outcome.report.ending ≤ 27 → Unchanged log labels m s.outcome × (s.journal ≡ journal)
  unfolding outcome_of
  call_refused (ran j) x y = absurd (not_refused ((speculate_laws (program_of settings list) window).counts budget from labels m).ending x y)
  call_refused (refused r l h a) x y = (refused_unchanged log labels m r, refl)

  call_cleared : {s : Speculation} → Call s → (10 ≤ s.outcome.report.ending → s.outcome.report.ending ≤ 27 → ⊥) → Cleared window journal s.journal
  call_cleared (ran j) n = cleared window journal j
  call_cleared (refused r l h a) n = absurd (n l h)

  call_answer : {s : Speculation} → Call s → Answer s.outcome.report.ending
  unfolding outcome_of
  call_answer (ran j) = answer ((speculate_laws (program_of settings list) window).counts budget from labels m).ending
    where
      answer : {e : ℕ} → Ran e → Answer e
      answer (Ran.finished e h) = Answer.finished e h
      answer (Ran.stopped e l h) = Answer.stopped e l h
  call_answer (refused r l h a) = a

  call_limited : {s : Speculation} → Call s → Limited budget log s.outcome
  unfolding starting
  call_limited (ran j) =
      let laws = speculate_laws (program_of settings list) window in
      ran_limited log labels m (laws.counts budget from labels m) (started_kept laws start budget log labels m).log
  call_limited (refused r l h a) = refused_limited log labels m r budget

  call_words : {s : Speculation} → Call s → s.outcome.report.logged ≤ budget * (window + 1)
  unfolding outcome_of starting
  call_words (ran j) =
      let program = program_of settings list in
      let l = run_writes (speculate_repeats program window) (suc window) (speculated_writes window program) budget from labels m in
      rw (add-one window) (omega (arith, l))
  call_words (refused r l h a) = omega (arith, (refusal_report_lem r).1)

-- ---- operations

counted_operations : (program : Program) (window budget : ℕ) (at : Position) (labels m : Memory)
    → (let r = speculate program window budget at labels m in
    Counted program window r (after_operations (speculated program window) (r.position.executed - at.executed) (Stepped.going at labels m)))
unfolding ended
counted_operations program window =
    run-after (speculated_laws program window) (speculate_repeats program window) (Counted program window) (λ at labels m. Counted.spent refl) (λ r e. Counted.exited e)
    (λ at labels m r s n c. Counted.stopped at labels m s c)

ahead_limited : (program : Program) (window i room : ℕ) (labels m : Memory) → (ahead program window i room labels m).position.executed ≤ window
unfolding ahead starting
ahead_limited program window i room labels m =
    let c = ((run_laws program).counts window (starting i room) labels m).counted in
    omega (arith, c)

pub speculative_limits : SpeculativeLimits
speculative_limits = record {
  in_order = at_their_place;
  refused = λ settings list start budget window log journal labels m. call_refused settings list start budget window log journal labels m (call settings list start budget window log journal labels m);
  finished = λ settings list start budget window log journal labels m h.
      call_cleared settings list start budget window log journal labels m (call settings list start budget window log journal labels m) (λ x y. omega (arith, h, x));
  stopped = λ settings list start budget window log journal labels m h.
      call_cleared settings list start budget window log journal labels m (call settings list start budget window log journal labels m) (λ x y. omega (arith, h, y));
  endings = λ settings list start budget window log journal labels m. call_answer settings list start budget window log journal labels m (call settings list start budget window log journal labels m);
  limited = λ settings list start budget window log journal labels m. call_limited settings list start budget window log journal labels m (call settings list start budget window log journal labels m);
  words = λ settings list start budget window log journal labels m. call_words settings list start budget window log journal labels m (call settings list start budget window log journal labels m);
  ahead_limited = ahead_limited;
  counted = λ program window at at' labels m labels' m'. counted_operation (speculated_counts program window at labels m) at' labels' m';
  stopped_operation = λ program window at labels m r e h. stopped_operation (speculated_counts program window at labels m) r e (λ z. omega (arith, h, z));
  counted_operations = counted_operations;
}
