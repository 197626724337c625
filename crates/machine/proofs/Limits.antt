-- Stops, counts and log words.
use Prim.Native.Nat.{ℕ, ◌-◌, zero, suc, ◌+◌, ◌≤◌}
use native.Mathlib.Omega.{arith}
use mathlib.Core.Path.{◌≡◌, refl}
use mathlib.Core.Bool.{Bool, true, false, cond}
use mathlib.Core.List.{List}
use lib.ListN.{length, drop, length-append, length-drop}
use lib.Dec.{eqb, ltb}
use Rattle.operation.specs.declared.layout.Settings.{Settings}
use Rattle.operation.specs.declared.report.Report.{Report}
use Rattle.operation.specs.Layout.{operation_count}
use Rattle.machine.specs.Program.{Program, program_of}
use Rattle.machine.specs.Memory.{Memory, lengths_of}
use Rattle.machine.specs.Run.{Position, Ended, Stepped, ended, stepped, continued, run}
use Rattle.machine.specs.Calls.{Outcome, labelled_outcome, same_lengths, labels_in_range, log_after, outcome_of, starting, called, labelled_run, unlabelled, plain_run}
use Rattle.machine.specs.Limits.{Unchanged, Limited, after_operations, state_of, Limits}
use Rattle.machine.proofs.Cases.{either}
use Rattle.machine.proofs.Refusals.{Refuses, refusal_refuses, refusal_report_lem, not_stopped}
use Rattle.machine.proofs.Budget.{Repeats, run_repeats}
use Rattle.machine.proofs.Counts.{not_exit, Counts, stays, exited, goes, stepped_counts, stopped_operation, not_refused, Run}
use Rattle.machine.proofs.Runs.{Steps, repeated_laws, stepped_laws, run_laws, started_kept}

-- ---- the calls

pub log_length : (words log : List ℕ) → length words ≤ length log → length (log_after words log) ≡ length log
unfolding log_after
log_length words log h = rw (length-append words (drop (length words) log), length-drop (length words) log) (omega (arith, h))

-- what a call leaves that runs, and what one leaves that is refused
module _ (log : List ℕ) (labels m : Memory) where
  pub ran_limited : {budget : ℕ} {r : Ended} → Run 0 budget r → r.position.room + length r.position.log ≡ length log → Limited budget log (outcome_of log r)
  unfolding outcome_of
  ran_limited {r} c k =
      let w : length r.position.log ≤ length log = omega (arith, k) in
      record { executed = omega (arith, c.counted); stopped = λ z. omega (arith, c.stopped z); logged = w; same_length = log_length r.position.log log w }

  module _ {refused : Report} (rs : Refuses refused) where
    pub refused_unchanged : Unchanged log labels m (labelled_outcome refused m labels log)
    refused_unchanged =
        let n = refusal_report_lem rs in
        record { same_memory = refl; same_labels = refl; same_log = refl; executed = n.0; logged = n.1; value = n.2 }

    pub refused_limited : (budget : ℕ) → Limited budget log (labelled_outcome refused m labels log)
    refused_limited budget =
        let n = refusal_report_lem rs in
        record { executed = omega (arith, n.0); stopped = λ z. absurd (not_stopped rs z); logged = omega (arith, n.1); same_length = refl }

module _ (settings : Settings) (list : List ℕ) (start budget : ℕ) (log : List ℕ) (labels m : Memory) (refused : Report) (rs : Refuses refused) where
  from : Position
  from = starting start (length log)

  called_unchanged : 10 ≤ (called settings list start budget log labels m refused).report.ending
      → (called settings list start budget log labels m refused).report.ending ≤ 27 → Unchanged log labels m (called settings list start budget log labels m refused)
  unfolding called outcome_of from
  called_unchanged =
      either (λ (o : Outcome). 10 ≤ o.report.ending → o.report.ending ≤ 27 → Unchanged log labels m o) (eqb refused.ending 0) _ _
      (λ x y. absurd (not_refused ((run_laws (program_of settings list)).counts budget from labels m).ending x y)) (λ x y. refused_unchanged log labels m rs)

  called_limited : Limited budget log (called settings list start budget log labels m refused)
  unfolding called from starting
  called_limited =
      either (Limited budget log) (eqb refused.ending 0) _ _
      (ran_limited log labels m ((run_laws (program_of settings list)).counts budget from labels m) (started_kept (run_laws (program_of settings list)) start budget log labels m).log)
      (refused_limited log labels m rs budget)

-- ---- as many single operations as were counted

-- Q relates a run that ended to the state after as many single operations as it counts
module _ {program : Program} {P : Position → Memory → Memory → Ended → Type 0} {S : Position → Memory → Memory → Stepped} {R : ℕ → Position → Memory → Memory → Ended}
    (steps : Steps program P S) (u : Repeats program S R) (Q : Ended → Stepped → Type 0)
    (spent : (at : Position) (labels m : Memory) → Q (ended 2 0 at labels m) (Stepped.going at labels m))
    (exits : (r : Ended) → r.ending ≡ 1 → Q r (Stepped.halted r))
    (stops : (at : Position) (labels m : Memory) (r : Ended) → S at labels m ≡ Stepped.halted r → (r.ending ≡ 1 → ⊥) → r.position.executed ≡ at.executed
    → Q r (Stepped.going at labels m)) where
  abbrev After : Position → (labels m : Memory) → Ended → Type 0
  After at labels m r = Q r (after_operations S (r.position.executed - at.executed) (Stepped.going at labels m))

  after_next : (k : ℕ) (at : Position) (labels m : Memory) {a : Stepped} → S at labels m ≡ a
      → after_operations S (suc k) (Stepped.going at labels m) ≡ after_operations S k a
  unfolding after_operations
  after_next k at labels m s = rw s

  continued-after : (budget : ℕ) → ((at : Position) (labels m : Memory) → After at labels m (R budget at labels m))
      → (at : Position) (labels m : Memory) {a : Stepped} → S at labels m ≡ a → Counts at (P at labels m) a → After at labels m (continued (R budget) a)
  unfolding continued after_operations
  continued-after budget q at labels m s (stays {r} e c p) =
      let z : r.position.executed - at.executed ≡ 0 = omega (arith, c) in
      rw z (stops at labels m r s (not_exit e) c)
  continued-after budget q at labels m s (exited {r} e c) =
      let z : r.position.executed - at.executed ≡ 1 = omega (arith, c) in
      rw (z, s) (exits r e)
  continued-after budget q at labels m s (goes {next} {ls} {n} e) =
      let r = R budget next ls n in
      let before : next.executed ≤ r.position.executed = ((repeated_laws steps u).counts budget next ls n).before in
      let z : r.position.executed - at.executed ≡ suc (r.position.executed - next.executed) = omega (arith, e, before) in
      rw (z, after_next (r.position.executed - next.executed) at labels m s) (q next ls n)

  pub run-after : (budget : ℕ) (at : Position) (labels m : Memory) → After at labels m (R budget at labels m)
  unfolding ended after_operations
  run-after zero at labels m =
      let z : at.executed - at.executed ≡ 0 = omega arith in
      rw (u.none at labels m, z) (by (ltb at.index (operation_count program.list)) refl)
    where
      by : (t : Bool) → ltb at.index (operation_count program.list) ≡ t → Q (ended (cond t 2 0) 0 at labels m) (Stepped.going at labels m)
      by true t = spent at labels m
      by false t = stops at labels m (ended 0 0 at labels m) (steps.ends at labels m t) (λ e. omega (arith, e)) refl
  run-after (suc budget) at labels m =
      rw (u.next budget at labels m) (continued-after budget (λ at' l m'. run-after budget at' l m') at labels m refl (steps.counts at labels m))

stopped_state : (program : Program) (at : Position) (labels m : Memory) (r : Ended) → stepped program at labels m ≡ Stepped.halted r → (r.ending ≡ 1 → ⊥)
    → (r.position ≡ at) × (r.labels ≡ labels) × (r.memory ≡ m)
stopped_state program at labels m r e n = let s = stopped_operation (stepped_counts program at labels m) r e n in (s.0, s.1, s.2)

counted : (program : Program) (budget : ℕ) (at : Position) (labels m : Memory)
    → (let r = run program budget at labels m in
    state_of (after_operations (stepped program) (r.position.executed - at.executed) (Stepped.going at labels m)) ≡ (r.position, r.labels, r.memory))
unfolding state_of ended
counted program =
    run-after (stepped_laws program) (run_repeats program) (λ r s. state_of s ≡ (r.position, r.labels, r.memory)) (λ at labels m. refl) (λ r e. refl)
    (λ at labels m r s n c. let (p, l, x) = stopped_state program at labels m r s n in rw (p, l, x) refl)

pub limits : Limits
unfolding labelled_run plain_run
limits = record {
  labelled_refusal = λ settings list start budget log labels m.
      called_unchanged settings list start budget log labels m _ (refusal_refuses settings (lengths_of m) list start (same_lengths (lengths_of labels) (lengths_of m)) (labels_in_range labels));
  plain_refusal = λ settings list start budget log m.
      called_unchanged settings list start budget log unlabelled m _ (refusal_refuses settings (lengths_of m) list start true true);
  labelled_limited = λ settings list start budget log labels m.
      called_limited settings list start budget log labels m _ (refusal_refuses settings (lengths_of m) list start (same_lengths (lengths_of labels) (lengths_of m)) (labels_in_range labels));
  plain_limited = λ settings list start budget log m.
      called_limited settings list start budget log unlabelled m _ (refusal_refuses settings (lengths_of m) list start true true);
  counted_operations = counted;
  stopped_operation = λ program at labels m r e h. stopped_state program at labels m r e (λ z. omega (arith, h, z));
}
