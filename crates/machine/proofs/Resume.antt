-- The resume law, of the whole plain and the whole labelled run.
use Prim.Native.Nat.{ℕ, ◌+◌, ◌-◌}
use native.Mathlib.Omega.{arith}
use mathlib.Core.Path.{◌≡◌, refl, ap, subst}
use mathlib.Core.Bool.{Bool, true, false, cond}
use mathlib.Core.List.{List, [], ◌∷◌, ◌++◌, append_assoc}
use lib.ListN.{length, take, drop, length-append, length-drop}
use lib.Seq.{take-append_seam, drop-append_seam, drop-drop}
use lib.Dec.{eqb}
use Rattle.operation.specs.declared.layout.Settings.{Settings}
use Rattle.operation.specs.Spaces.{Lengths}
use Rattle.operation.specs.declared.report.Report.{Report}
use Rattle.validation.specs.Verdict.{refusal_report}
use Rattle.machine.specs.Program.{Program, program_of}
use Rattle.machine.specs.Memory.{Memory, lengths_of}
use Rattle.machine.specs.Run.{Position, Ended, run, ended}
use Rattle.machine.specs.Calls.{Outcome, same_lengths, labels_in_range, refusal, log_after, outcome_of, starting, called, labelled_run, unlabelled, plain_run}
use Rattle.machine.specs.Resume.{Summed, unused, PlainResumes, LabelledResumes}
use Rattle.machine.proofs.Budget.{later, later_ended, fresh}
use Rattle.machine.proofs.Refusals.{refusal_refuses, not_stopped, accepted, restarted}
use Rattle.machine.proofs.Runs.{Runs, run_laws, resumed, started_kept}

-- ---- the log

log_summed : (words more log : List ℕ)
    → log_after (words ++ more) log ≡ take (length words) (log_after words log) ++ log_after more (drop (length words) (log_after words log))
unfolding log_after
log_summed words more log =
    rw (take-append_seam words (drop (length words) log), drop-append_seam words (drop (length words) log), drop-drop (length more) (length words) log, length-append words more)
    (append_assoc words more (drop (length words + length more) log))

outcome_summed : (log : List ℕ) (r q : Ended)
    → Summed (outcome_of log r) (outcome_of (drop (length r.position.log) (log_after r.position.log log)) q)
    (outcome_of log (later_ended r.position.executed r.position.log q))
unfolding outcome_of later_ended later ended
outcome_summed log r q = record {
  ending = refl;
  index = refl;
  executed = refl;
  logged = length-append r.position.log q.position.log;
  value = refl;
  memory = refl;
  labels = refl;
  log = log_summed r.position.log q.position.log log;
}

pub room_left : (log : List ℕ) (at : Position) → at.room + length at.log ≡ length log
    → starting at.index (length (drop (length at.log) (log_after at.log log))) ≡ fresh at
unfolding starting fresh log_after
room_left log at e =
    let left : length log - length at.log ≡ at.room = omega (arith, e) in
    rw (drop-append_seam at.log (drop (length at.log) log), length-drop (length at.log) log, left)

-- ---- the run

pub outcome_resumed : {program : Program} {R : ℕ → Position → Memory → Memory → Ended} → Runs program R
    → (start b c : ℕ) (log : List ℕ) (labels m : Memory) → (let r = R b (starting start (length log)) labels m in
    let left = drop (length r.position.log) (log_after r.position.log log) in
    r.ending ≡ 2
    → Summed (outcome_of log r) (outcome_of left (R c (starting r.position.index (length left)) r.labels r.memory)) (outcome_of log (R (b + c) (starting start (length log)) labels m)))
outcome_resumed {R} laws start b c log labels m e =
    let r = R b (starting start (length log)) labels m in
    rw (room_left log r.position (started_kept laws start b log labels m).log, resumed laws b c (starting start (length log)) labels m e)
    (outcome_summed log r (R c (fresh r.position) r.labels r.memory))

-- ---- the calls

called_running : (settings : Settings) (list : List ℕ) (start budget : ℕ) (log : List ℕ) (labels m : Memory)
    → called settings list start budget log labels m (refusal_report 0 0)
    ≡ outcome_of log (run (program_of settings list) budget (starting start (length log)) labels m)
unfolding called refusal_report
called_running settings list start budget log labels m = refl

module _ (settings : Settings) (list : List ℕ) (start b c : ℕ) (log : List ℕ) (labels m : Memory) where
  abbrev whole : ℕ → Ended
  whole budget = run (program_of settings list) budget (starting start (length log)) labels m

  -- a second call that is not refused
  resumed_run : (whole b).ending ≡ 2
      → Summed (outcome_of log (whole b))
      (called settings list (whole b).position.index c (drop (length (whole b).position.log) (log_after (whole b).position.log log)) (whole b).labels (whole b).memory (refusal_report 0 0))
      (outcome_of log (whole (b + c)))
  resumed_run e =
      rw (called_running settings list (whole b).position.index c (drop (length (whole b).position.log) (log_after (whole b).position.log log)) (whole b).labels (whole b).memory)
      (outcome_resumed (run_laws (program_of settings list)) start b c log labels m e)

pub labelled_resumes : LabelledResumes
unfolding labelled_run called outcome_of
labelled_resumes settings list start b c log labels m = by (eqb refused.ending 0) refl
  where
    refused : Report
    refused = refusal settings (lengths_of m) list start (same_lengths (lengths_of labels) (lengths_of m)) (labels_in_range labels)

    lent : Outcome
    lent = record { report = refused; memory = m; labels = labels; log = log }

    runs : ℕ → Outcome
    runs budget = outcome_of log (run (program_of settings list) budget (starting start (length log)) labels m)

    by : (t : Bool) → eqb refused.ending 0 ≡ t → (cond t (runs b) lent).report.ending ≡ 2
        → Summed (cond t (runs b) lent)
        (labelled_run settings list (cond t (runs b) lent).report.index c (unused (cond t (runs b) lent)) (cond t (runs b) lent).labels (cond t (runs b) lent).memory)
        (cond t (runs (b + c)) lent)
    by true t e =
        let r = run (program_of settings list) b (starting start (length log)) labels m in
        let i = (run_laws (program_of settings list)).index b (starting start (length log)) labels m e in
        let a = accepted settings (lengths_of m) list start (same_lengths (lengths_of labels) (lengths_of m)) (labels_in_range labels) t in
        let k = started_kept (run_laws (program_of settings list)) start b log labels m in
        rw (k.memory, k.lengths, k.values a.labels_right, restarted a r.position.index i) (resumed_run settings list start b c log labels m e)
    by false t e = absurd (not_stopped (refusal_refuses settings (lengths_of m) list start (same_lengths (lengths_of labels) (lengths_of m)) (labels_in_range labels)) e)

no_length : (l : List ℕ) → length l ≡ 0 → l ≡ []
no_length [] e = refl
no_length (x ∷ l) e = absurd (omega (arith, e))

-- labels of no length are no labels
pub no_labels : (labels : Memory) → lengths_of labels ≡ lengths_of unlabelled → labels ≡ unlabelled
unfolding lengths_of unlabelled
no_labels labels e =
    rw (
      no_length labels.unique (ap (λ (x : Lengths). x.unique) e),
      no_length labels.register (ap (λ (x : Lengths). x.register) e),
      no_length labels.ram (ap (λ (x : Lengths). x.ram) e),
    )

pub plain_resumes : PlainResumes
unfolding plain_run called outcome_of
plain_resumes settings list start b c log m = by (eqb refused.ending 0) refl
  where
    refused : Report
    refused = refusal settings (lengths_of m) list start true true

    lent : Outcome
    lent = record { report = refused; memory = m; labels = unlabelled; log = log }

    runs : ℕ → Outcome
    runs budget = outcome_of log (run (program_of settings list) budget (starting start (length log)) unlabelled m)

    by : (t : Bool) → eqb refused.ending 0 ≡ t → (cond t (runs b) lent).report.ending ≡ 2
        → Summed (cond t (runs b) lent)
        (plain_run settings list (cond t (runs b) lent).report.index c (unused (cond t (runs b) lent)) (cond t (runs b) lent).memory)
        (cond t (runs (b + c)) lent)
    by true t e =
        let r = run (program_of settings list) b (starting start (length log)) unlabelled m in
        let i = (run_laws (program_of settings list)).index b (starting start (length log)) unlabelled m e in
        let again = restarted (accepted settings (lengths_of m) list start true true t) r.position.index i in
        let k = started_kept (run_laws (program_of settings list)) start b log unlabelled m in
        let s = resumed_run settings list start b c log unlabelled m e in
        rw (k.memory, again)
        (subst (λ (l : Memory). Summed (runs b)
        (called settings list r.position.index c (drop (length r.position.log) (log_after r.position.log log)) l r.memory (refusal_report 0 0)) (runs (b + c)))
        (no_labels r.labels k.lengths) s)
    by false t e = absurd (not_stopped (refusal_refuses settings (lengths_of m) list start true true) e)
