-- The resume law of the speculative run.
use Prim.Native.Nat.{ℕ, ◌+◌}
use mathlib.Core.Bool.{Bool, true, false, cond}
use mathlib.Core.List.{List, ◌++◌}
use mathlib.Core.Path.{◌≡◌, refl, ap, ◌∙◌}
use lib.Dec.{eqb}
use lib.ListN.{length, drop, replicate, length-replicate}
use lib.Seq.{drop-append_seam}
use Rattle.operation.specs.declared.layout.Settings.{Settings}
use Rattle.operation.specs.declared.report.Report.{Report}
use Rattle.validation.specs.Verdict.{refusal_report}
use Rattle.machine.specs.Program.{program_of}
use Rattle.machine.specs.Memory.{Memory, lengths_of}
use Rattle.machine.specs.Run.{Ended}
use Rattle.machine.specs.Calls.{same_lengths, labels_in_range, log_after, outcome_of, starting}
use Rattle.machine.specs.Resume.{unused}
use Rattle.machine.proofs.Refusals.{not_stopped, accepted, restarted}
use Rattle.machine.proofs.Runs.{started_kept}
use Rattle.machine.proofs.Resume.{outcome_resumed}
use Rattle.speculation.specs.Speculation.{journal_words, speculative_refusal, Speculation, speculation, speculate, journal_after, called_ahead, speculative_run}
use Rattle.speculation.specs.Resume.{SummedAhead, SpeculativeResumes}
use Rattle.speculation.proofs.Accepted.{ahead_refuses, ahead-refusal, ahead_accepted}
use Rattle.speculation.proofs.Runs.{speculate_laws}
use Rattle.speculation.proofs.Limits.{cleared}

-- a journal once cleared stays so
cleared_twice : (window : ℕ) (journal : List ℕ) → journal_after window (journal_after window journal) ≡ journal_after window journal
unfolding journal_after
cleared_twice window journal =
    let n = journal_words window in
    let zeros : List ℕ = replicate n 0 in
    let long : length zeros ≡ n = length-replicate n 0 in
    ap (λ (l : List ℕ). zeros ++ l) (rw long at (drop-append_seam zeros (drop n journal)))

module _ (settings : Settings) (list : List ℕ) (start b c window : ℕ) (log journal : List ℕ) (labels m : Memory) where
  abbrev runs : ℕ → Ended
  runs budget = speculate (program_of settings list) window budget (starting start (length log)) labels m

  abbrev left : List ℕ
  left = drop (length (runs b).position.log) (log_after (runs b).position.log log)

  -- the second call is not refused
  pub resumed_call : (runs b).ending ≡ 2
      → SummedAhead (record { outcome = outcome_of log (runs b); journal = journal_after window journal })
      (called_ahead settings list (runs b).position.index c window left (journal_after window journal) (runs b).labels (runs b).memory (refusal_report 0 0))
      (record { outcome = outcome_of log (runs (b + c)); journal = journal_after window journal })
  unfolding called_ahead refusal_report
  resumed_call e = record {
    outcomes = outcome_resumed (speculate_laws (program_of settings list) window) start b c log labels m e;
    journals = cleared_twice window journal;
  }

pub speculative_resumes : SpeculativeResumes
unfolding speculative_run called_ahead outcome_of
speculative_resumes settings list start b c window log journal labels m = by (eqb refused.ending 0) refl
  where
    fitting : Bool
    fitting = same_lengths (lengths_of labels) (lengths_of m)

    refused : Report
    refused = speculative_refusal settings (lengths_of m) list start window (length journal) fitting (labels_in_range labels)

    lent : Speculation
    lent = speculation refused m labels log journal

    ran : ℕ → Speculation
    ran budget = record { outcome = outcome_of log (runs settings list start b c window log journal labels m budget); journal = journal_after window journal }

    by : (t : Bool) → eqb refused.ending 0 ≡ t → (cond t (ran b) lent).outcome.report.ending ≡ 2
        → SummedAhead (cond t (ran b) lent)
        (speculative_run settings list (cond t (ran b) lent).outcome.report.index c window (unused (cond t (ran b) lent).outcome) (cond t (ran b) lent).journal (cond t (ran b) lent).outcome.labels (cond t (ran b) lent).outcome.memory)
        (cond t (ran (b + c)) lent)
    by true t e =
        let r = runs settings list start b c window log journal labels m b in
        let laws = speculate_laws (program_of settings list) window in
        let i = laws.index b (starting start (length log)) labels m e in
        let k = started_kept laws start b log labels m in
        let (fits, few, long, z) = ahead_accepted settings (lengths_of m) list start window (length journal) fitting (labels_in_range labels) t in
        let a = accepted settings (lengths_of m) list start fitting (labels_in_range labels) z in
        let same = (cleared window journal long).same_length in
        let again = ahead-refusal settings (lengths_of m) list r.position.index window (length journal) fitting true few long
        ∙ restarted a r.position.index i in
        rw (k.memory, k.lengths, k.values a.labels_right, same, again) (resumed_call settings list start b c window log journal labels m e)
    by false t e = absurd (not_stopped (ahead_refuses settings (lengths_of m) list start window (length journal) fitting (labels_in_range labels)) e)
