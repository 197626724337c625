-- The speculative run against the labelled run, as one claim.
use Prim.Native.Nat.{ℕ, ◌+◌}
use native.Mathlib.Omega.{arith}
use mathlib.Core.Bool.{Bool, true, false, cond}
use mathlib.Core.List.{List, [], ◌∷◌, ◌++◌, append-nil}
use mathlib.Core.Path.{◌≡◌, refl, sym, ap, ◌∙◌}
use borrow.Author.Tests.{lt-ltb, le-ltb}
use lib.Dec.{eqb, ltb}
use lib.ListN.{length}
use Rattle.operation.specs.declared.layout.Settings.{Settings}
use Rattle.operation.specs.declared.report.Report.{Report}
use Rattle.validation.specs.Verdict.{lengths_in_range}
use Rattle.machine.specs.Program.{Program, program_of}
use Rattle.machine.specs.Memory.{Memory, lengths_of}
use Rattle.machine.specs.Run.{Position, Ended, run}
use Rattle.machine.specs.Calls.{Outcome, labelled_outcome, same_lengths, labels_in_range, refusal, starting, outcome_of, called, labelled_run}
use Rattle.machine.proofs.Refusals.{refusal_refuses, refusal_report_lem, accepted}
use Rattle.machine.proofs.Noninterference.{logged-words}
use Rattle.speculation.specs.Window.{window_mark, marked}
use Rattle.speculation.specs.Speculation.{most_ahead, journal_words, Speculation, speculation, speculate, journal_after, called_ahead, speculative_run}
use Rattle.speculation.specs.Labelled.{unmarked, MarkedAside, AsFar, AgainstLabelled}
use Rattle.speculation.proofs.Accepted.{ahead-refusal}
use Rattle.speculation.proofs.Below.{Below, none, more, run_below, labelled_below}
use Rattle.speculation.proofs.NoWindow.{no_window}
use Rattle.speculation.proofs.Aside.{Aside, placed, at_parts, Equal, speculate_equal}
use Rattle.speculation.proofs.AsFar.{Reaches, speculate_far}
use Rattle.speculation.proofs.Windows.{Short, not_short}

-- ---- the unmarked words

unmarked-append : (a b : List ℕ) → unmarked (a ++ b) ≡ unmarked a ++ unmarked b
unfolding unmarked
unmarked-append [] b = refl
unmarked-append (w ∷ a) b = rw (unmarked-append a b) (by (ltb w window_mark))
  where
    by : (t : Bool) → cond t (w ∷ (unmarked a ++ unmarked b)) (unmarked a ++ unmarked b) ≡ cond t (w ∷ unmarked a) (unmarked a) ++ unmarked b
    by true = refl
    by false = refl

unmarked-marked : (ws : List ℕ) → unmarked (marked ws) ≡ []
unfolding unmarked marked
unmarked-marked [] = refl
unmarked-marked (w ∷ ws) = rw (le-ltb (window_mark + w) window_mark (omega arith)) (unmarked-marked ws)

unmarked_below : {ws : List ℕ} → Below ws → unmarked ws ≡ ws
unfolding unmarked
unmarked_below none = refl
unmarked_below (more {w} h b) = rw (lt-ltb w window_mark h, unmarked_below b) refl

below_parts : (a b : List ℕ) → Below (a ++ b) → Below a × Below b
below_parts [] b h = (none, h)
below_parts (w ∷ a) b (more l h) = let p = below_parts a b h in (more l p.0, p.1)

aside_unmarked : {a b : List ℕ} → Aside a b → Below b → unmarked a ≡ b
unfolding unmarked
aside_unmarked Aside.start h = refl
aside_unmarked (Aside.own {a} {b} s ws) h =
    let p = below_parts b ws h in
    rw (unmarked-append a ws, aside_unmarked s p.0, unmarked_below p.1) refl
aside_unmarked (Aside.other {a} s ws) h = rw (unmarked-append a (marked ws), unmarked-marked ws, append-nil) (aside_unmarked s h)

-- ---- the call

outcome_aside : (log : List ℕ) {r q : Ended} → Equal r q → Below q.position.log → MarkedAside (outcome_of log r) (outcome_of log q)
unfolding outcome_of
outcome_aside log {r} {q} e b =
    let p = at_parts e.position in
    record {
      ending = e.ending;
      index = p.0;
      executed = p.1;
      value = e.value;
      memory = e.memory;
      labels = e.labels;
      log = ap unmarked (logged-words r.position.log log) ∙ aside_unmarked p.2 b ∙ sym (logged-words q.position.log log);
    }

outcome_far : (log : List ℕ) {r q : Ended} → Reaches r q → AsFar (outcome_of log r) (outcome_of log q)
unfolding outcome_of
outcome_far log e = record { index = e.index; executed = e.executed; memory = e.memory; labels = e.labels }

called_aside : (settings : Settings) (list : List ℕ) (start budget window : ℕ) (log journal : List ℕ) (labels m : Memory) (refused : Report)
    → refused.logged ≡ 0 → (eqb refused.ending 0 ≡ true → lengths_in_range (lengths_of m) list ≡ true)
    → (Short (called_ahead settings list start budget window log journal labels m refused).outcome.report.ending → ⊥)
    → MarkedAside (called_ahead settings list start budget window log journal labels m refused).outcome (called settings list start budget log labels m refused)
unfolding called_ahead called outcome_of starting unmarked
called_aside settings list start budget window log journal labels m refused no_words fits = by (eqb refused.ending 0) refl
  where
    from : Position
    from = starting start (length log)

    ran : Speculation
    ran = record { outcome = outcome_of log (speculate (program_of settings list) window budget from labels m); journal = journal_after window journal }

    lent : Outcome
    lent = labelled_outcome refused m labels log

    by : (t : Bool) → eqb refused.ending 0 ≡ t → (Short (cond t ran (speculation refused m labels log journal)).outcome.report.ending → ⊥)
        → MarkedAside (cond t ran (speculation refused m labels log journal)).outcome (cond t (outcome_of log (run (program_of settings list) budget from labels m)) lent)
    by true t ne =
        outcome_aside log (speculate_equal (program_of settings list) window budget from from labels m (placed (omega arith) Aside.start) ne)
        (run_below (program_of settings list) budget from labels m (fits t) none)
    by false t ne = record { ending = refl; index = refl; executed = refl; value = refl; memory = refl; labels = refl; log = rw no_words refl }

called_far : (settings : Settings) (list : List ℕ) (start budget window : ℕ) (log journal : List ℕ) (labels m : Memory) (refused : Report)
    → (let o = (called_ahead settings list start budget window log journal labels m refused).outcome in
    AsFar o (called settings list start o.report.executed log labels m refused))
unfolding called_ahead called outcome_of starting
called_far settings list start budget window log journal labels m refused = by (eqb refused.ending 0)
  where
    program : Program
    program = program_of settings list

    from : Position
    from = starting start (length log)

    ran : Speculation
    ran = record { outcome = outcome_of log (speculate program window budget from labels m); journal = journal_after window journal }

    left : Bool → Outcome
    left t = (cond t ran (speculation refused m labels log journal)).outcome

    by : (t : Bool) → AsFar (left t) (cond t (outcome_of log (run program (left t).report.executed from labels m)) (labelled_outcome refused m labels log))
    by true =
        let far = speculate_far program window budget from from labels m (placed (omega arith) Aside.start) in
        let all : far.operations ≡ ran.outcome.report.executed = omega (arith, far.counted) in
        outcome_far log (rw all at far.reaches)
    by false = record { index = refl; executed = refl; memory = refl; labels = refl }

pub against_labelled : AgainstLabelled
unfolding speculative_run labelled_run most_ahead journal_words
against_labelled = record {
  aside = λ settings list start budget window log journal labels m w j n34 n35.
      let fitting = same_lengths (lengths_of labels) (lengths_of m) in
      let valid = labels_in_range labels in
      let refused = ahead-refusal settings (lengths_of m) list start window (length journal) fitting valid w j in
      rw refused
      (called_aside settings list start budget window log journal labels m (refusal settings (lengths_of m) list start fitting valid)
      (refusal_report_lem (refusal_refuses settings (lengths_of m) list start fitting valid)).1
      (λ z. (accepted settings (lengths_of m) list start fitting valid z).lengths_right)
      (not_short (rw refused at n34) (rw refused at n35)));
  as_far = λ settings list start budget window log journal labels m w j.
      rw (ahead-refusal settings (lengths_of m) list start window (length journal) (same_lengths (lengths_of labels) (lengths_of m)) (labels_in_range labels) w j)
      (called_far settings list start budget window log journal labels m _);
  below = labelled_below;
  no_window = no_window;
}
