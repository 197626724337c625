-- The loop over turns, of any run with a budget. A turn is one operation where `single` is true, else all of the budget.
use Prim.Native.Nat.{ℕ, ◌+◌, ◌-◌, ◌≤◌, ◌<◌}
use native.Mathlib.Nat.{sub-zero}
use native.Mathlib.Omega.{arith}
use mathlib.Core.Path.{◌≡◌, refl, sym, ap, ◌∙◌}
use mathlib.Core.Bool.{Bool, true, false, cond, ◌&&◌}
use mathlib.Core.List.{List, []}
use borrow.Author.Tests.{eqb-true, eqb-false, lt-ltb, ltb-true, ltb-false}
use lib.Dec.{eqb, ltb}
use lib.ListN.{length}
use Rattle.integer.proofs.Booleans.{both}
use Rattle.secret_counts.specs.Moved.{low_bit}
use Rattle.operation.specs.declared.report.Report.{Report}
use Rattle.operation.specs.Layout.{operation_count}
use Rattle.validation.specs.Verdict.{settings_in_range}
use Rattle.machine.specs.Program.{Program}
use Rattle.machine.specs.Memory.{Memory, lengths_of}
use Rattle.machine.specs.Run.{Position, Ended}
use Rattle.machine.specs.Calls.{Outcome, log_after, outcome_of, labelled_outcome}
use Rattle.machine.specs.MovedCounts.{MovedSpaces}
use Rattle.machine.proofs.Budget.{later, later_ended}
use Rattle.machine.proofs.MovedCounts.{moved_spaces_on, moved_spaces_lengths}
use Rattle.machine.proofs.Resume.{no_labels}
use Rattle.machine.proofs.Runs.{Runs}
use Rattle.run_plan.specs.Valid.{Valid}
use Rattle.run_plan.proofs.Places.{valid_with}
use Rattle.run_execution.specs.Loops.{position}
use Rattle.run_execution.proofs.Running.{Log, ended_at}
use Rattle.run_labelled.specs.Turns.{Fitting, Countable, turn_of}
use Rattle.run_labelled.proofs.Parts.{part-ended, part_stopped, counted_on_lem, part_kept, part-position, part_log}

-- what is left to do from here is the whole run
pub record Turning (labelled single : Bool) (program : Program) (R : ℕ → Position → Memory → Memory → Ended) (budget start from : ℕ) (log₀ : List ℕ) (labels₀ m₀ : Memory)
    (i executed k : ℕ) (log : List ℕ) (labels m : Memory) : Type 0 where
  pub settings : settings_in_range program.settings ≡ true
  pub valid : Valid (lengths_of m₀) program.list
  pub fitting : Fitting labelled labels₀ m₀
  pub index : i ≤ operation_count program.list
  pub spent : executed ≤ budget
  pub lengths : lengths_of m ≡ lengths_of m₀
  pub marks : lengths_of labels ≡ lengths_of labels₀
  pub logs : Log log₀ log k
  pub turn : turn_of single (budget - executed) ≡ turn_of single budget
  pub same : R (budget - executed) (position i k executed log) labels m ≡ R budget (position start from 0 log₀) labels₀ m₀

-- the loop begins with the whole run before it
pub begun : (labelled single : Bool) (program : Program) (R : ℕ → Position → Memory → Memory → Ended) (budget start from : ℕ) (log : List ℕ) (labels m : Memory)
    → settings_in_range program.settings ≡ true
    → Valid (lengths_of m) program.list → start ≤ operation_count program.list → from ≤ length log → Fitting labelled labels m
    → Turning labelled single program R budget start from log labels m start 0 from log labels m
begun labelled single program R budget start from log labels m r v s l f = record {
  settings = r;
  valid = v;
  fitting = f;
  index = s;
  spent = omega arith;
  lengths = refl;
  marks = refl;
  logs = record { place = l; long = refl; rest = refl };
  turn = rw sub-zero refl;
  same = rw sub-zero refl;
}

module _ {labelled single : Bool} {program : Program} {R : ℕ → Position → Memory → Memory → Ended} (laws : Runs program R)
    {budget start from : ℕ} {log₀ : List ℕ} {labels₀ m₀ : Memory} {i executed k : ℕ} {log : List ℕ} {labels m : Memory}
    (g : Turning labelled single program R budget start from log₀ labels₀ m₀ i executed k log labels m) where
  abbrev left : ℕ
  left = budget - executed

  turn_one : single ≡ true → turn_of single left ≤ 1
  unfolding turn_of
  turn_one t = rw t (by (ltb 0 left) refl)
    where
      by : (p : Bool) → ltb 0 left ≡ p → cond p 1 left ≤ 1
      by true e = omega arith
      by false e = let h : left ≤ 0 = ltb-false 0 left e in omega arith

  -- what a turn asks for
  pub may_turn : (most : ℕ) → most ≡ turn_of single budget
      → Valid (lengths_of m) program.list × (i ≤ operation_count program.list) × (k ≤ length log) × Fitting labelled labels m × (single ≡ true → most ≤ 1)
      × (settings_in_range program.settings ≡ true)
  may_turn most em = (
    valid_with g.lengths g.valid,
    g.index,
    g.logs.place,
    record {
      lengths = λ t. g.marks ∙ g.fitting.lengths t ∙ sym g.lengths;
      none = λ t. no_labels labels (g.marks ∙ ap lengths_of (g.fitting.none t));
    },
    λ t. rw (em, ← g.turn) (turn_one t),
    g.settings,
  )

  -- counts that were long enough still are, and move on with the labels
  module _ {counts₀ counts : Memory} (moved : MovedSpaces low_bit labels₀ labels counts₀ counts) where
    pub may_count : Countable labelled labels₀ counts₀ → Countable labelled labels counts
    may_count c t = rw (g.marks, moved_spaces_lengths moved) (c t)

    pub counts_on : {labels' counts' : Memory} → MovedSpaces low_bit labels labels' counts counts' → MovedSpaces low_bit labels₀ labels' counts₀ counts'
    counts_on more = moved_spaces_on g.marks moved more

  module _ (most : ℕ) (given : most ≡ turn_of single budget) (done : Report) (m' labels' : Memory) (log' : List ℕ)
      (e : labelled_outcome done m' labels' log' ≡ outcome_of log (R most (position i k 0 log) labels m)) where
    em : most ≡ turn_of single left
    em = given ∙ sym g.turn

    abbrev r : Ended
    r = R most (position i k 0 log) labels m

    -- a turn has some of the budget, if any is left
    turn_fits : (turn_of single left ≤ left) × (0 < left → 0 < turn_of single left)
    unfolding turn_of
    turn_fits = by (single && ltb 0 left) refl
      where
        by : (p : Bool) → single && ltb 0 left ≡ p → (cond p 1 left ≤ left) × (0 < left → 0 < cond p 1 left)
        by true q = let h : 0 < left = ltb-true 0 left (both single (ltb 0 left) q).1 in (omega arith, λ z. omega arith)
        by false q = (omega arith, λ z. z)

    fits : most ≤ left
    fits = rw em turn_fits.0

    is_ending : done.ending ≡ r.ending
    unfolding outcome_of
    is_ending = ap (λ (o : Outcome). o.report.ending) e

    is_executed : done.executed ≡ r.position.executed
    unfolding outcome_of
    is_executed = ap (λ (o : Outcome). o.report.executed) e

    is_logged : done.logged ≡ length r.position.log
    unfolding outcome_of
    is_logged = ap (λ (o : Outcome). o.report.logged) e

    is_memory : m' ≡ r.memory
    unfolding outcome_of
    is_memory = ap (λ (o : Outcome). o.memory) e

    is_labels : labels' ≡ r.labels
    unfolding outcome_of
    is_labels = ap (λ (o : Outcome). o.labels) e

    is_log : log' ≡ log_after r.position.log log
    unfolding outcome_of
    is_log = ap (λ (o : Outcome). o.log) e

    is_index : done.index ≡ r.position.index
    unfolding outcome_of
    is_index = ap (λ (o : Outcome). o.report.index) e

    is_value : done.value ≡ r.value
    unfolding outcome_of
    is_value = ap (λ (o : Outcome). o.report.value) e

    pub within : executed + done.executed ≤ budget
    unfolding position
    within =
        let c = (laws.counts most (position i k 0 log) labels m).counted in
        let s : executed ≤ budget = g.spent in
        let f = fits in
        let x = is_executed in
        omega arith

    pub logs_kept : Log log₀ log' done.logged
    logs_kept = rw (is_log, is_logged) (part_log laws most i k log labels m g.logs.place log₀ g.logs)

    pub lengths_kept : lengths_of m' ≡ lengths_of m₀
    lengths_kept = rw is_memory ((part_kept laws most i k log labels m g.logs.place).memory ∙ g.lengths)

    pub marks_kept : lengths_of labels' ≡ lengths_of labels₀
    marks_kept = rw is_labels ((part_kept laws most i k log labels m g.logs.place).lengths ∙ g.marks)

    here : later executed [] r.position ≡ position done.index done.logged (executed + done.executed) log'
    unfolding later position
    here = ap (later executed []) (part-position laws most i k log labels m g.logs.place) ∙ rw (is_index, is_logged, is_executed, is_log) refl

    counted : R left (position i k executed log) labels m ≡ later_ended executed [] (R left (position i k 0 log) labels m)
    counted = counted_on_lem laws left i k executed log labels m

    -- ---- the turn ended the run

    abbrev pub Finally : Type 0
    Finally =
        labelled_outcome (record { ending = done.ending; index = done.index; executed = executed + done.executed; logged = done.logged; value = done.value }) m' labels' log'
        ≡ outcome_of log₀ (R budget (position start from 0 log₀) labels₀ m₀)

    finished : R left (position i k 0 log) labels m ≡ r → Finally
    unfolding later_ended
    finished q =
        ended_at log₀ log' done.logged logs_kept done.ending done.value done.index (executed + done.executed) labels' m'
        ∙ ap (outcome_of log₀) (rw (is_ending, is_value, is_labels, is_memory, ← here) (sym (counted ∙ ap (later_ended executed []) q)) ∙ g.same)

    spent_all : r.ending ≡ 2 → budget ≤ executed + done.executed → most ≡ left
    unfolding position
    spent_all z n =
        let c = (laws.counts most (position i k 0 log) labels m).stopped z in
        let f = fits in
        let x = is_executed in
        let s : executed ≤ budget = g.spent in
        omega arith

    pub at_ended : eqb done.ending 2 && ltb (executed + done.executed) budget ≡ false → Finally
    at_ended p = finished (by (eqb done.ending 2) refl)
      where
        by : (t : Bool) → eqb done.ending 2 ≡ t → R left (position i k 0 log) labels m ≡ r
        by false t = part-ended laws most left fits (position i k 0 log) labels m (λ z. eqb-false done.ending 2 t (is_ending ∙ z))
        by true t =
            let z : r.ending ≡ 2 = sym is_ending ∙ eqb-true done.ending 2 t in
            let q : ltb (executed + done.executed) budget ≡ false = rw t at p in
            let n : budget ≤ executed + done.executed = ltb-false (executed + done.executed) budget q in
            ap (λ (b : ℕ). R b (position i k 0 log) labels m) (sym (spent_all z n))

    -- ---- it goes on

    module _ (p : eqb done.ending 2 && ltb (executed + done.executed) budget ≡ true) where
      stopped : r.ending ≡ 2
      stopped = sym is_ending ∙ eqb-true done.ending 2 (both (eqb done.ending 2) _ p).0

      more : executed + done.executed < budget
      more = ltb-true _ _ (both (eqb done.ending 2) (ltb (executed + done.executed) budget) p).1

      all : done.executed ≡ most
      unfolding position
      all = let c = (laws.counts most (position i k 0 log) labels m).stopped stopped in let x = is_executed in omega arith

      pub fewer : budget - (executed + done.executed) < budget - executed
      fewer =
          let a = all in
          let n = more in
          let h : 0 < left = omega arith in
          let t : 0 < most = rw em (turn_fits.1 h) in
          omega arith

      -- a plain run has one turn; a labelled one has the same turn while some budget is left
      same_turn : turn_of single (budget - (executed + done.executed)) ≡ turn_of single budget
      unfolding turn_of
      same_turn = by single refl
        where
          by : (t : Bool) → single ≡ t → turn_of single (budget - (executed + done.executed)) ≡ turn_of single budget
          by true t =
              let n = more in
              rw (t, lt-ltb 0 (budget - (executed + done.executed)) (omega arith), lt-ltb 0 budget (omega arith)) refl
          by false t = absurd (let whole : most ≡ left = em ∙ rw t refl in let a = all in let n = more in let z : ⊥ = omega arith in z)

      pub at_next : Turning labelled single program R budget start from log₀ labels₀ m₀ done.index (executed + done.executed) done.logged log' labels' m'
      at_next =
          let rest : left - most ≡ budget - (executed + done.executed) = let a = all in let s : executed ≤ budget = g.spent in omega arith in
          let on = part_stopped laws most left fits (position i k 0 log) labels m stopped in
          let back = laws.carried executed [] (left - most) r.position r.labels r.memory in
          let inside : r.position.index < operation_count program.list = laws.index most (position i k 0 log) labels m stopped in
          record {
            settings = g.settings;
            valid = g.valid;
            fitting = g.fitting;
            index = rw is_index (omega arith);
            spent = within;
            lengths = lengths_kept;
            marks = marks_kept;
            logs = logs_kept;
            turn = same_turn;
            same = rw (is_labels, is_memory, ← here, ← rest) (back ∙ ap (later_ended executed []) (sym on) ∙ sym counted ∙ g.same);
          }
