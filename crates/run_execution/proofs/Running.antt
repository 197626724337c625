-- The plain loop, as laws of the machine's run.
use Prim.Native.Nat.{ℕ, zero, suc, ◌+◌, ◌-◌, ◌≤◌, ◌<◌}
use native.Mathlib.Nat.{sub-zero}
use native.Mathlib.Numerals.{add-one}
use native.Mathlib.Omega.{arith}
use mathlib.Core.Path.{◌≡◌, refl, sym, ap, subst, ◌∙◌}
use mathlib.Core.Bool.{Bool, true, false, cond, ◌&&◌, true≢false}
use mathlib.Core.List.{List, [], ◌∷◌, ◌++◌, append-nil}
use borrow.Author.Tests.{lt-ltb, le-ltb, leb-true, leb-false, eq-eqb, ne_eqb}
use lib.Dec.{eqb, ltb, leb}
use lib.ListN.{length, take, drop, set, length-set, take-append-drop}
use lib.Seq.{length-take-le, take-suc-set, drop-set-lt, drop-drop}
use Rattle.word.specs.Word.{bytes_of}
use Rattle.std.specs.Prelude.{Option, Some, None, is_some, unwrap_or}
use Rattle.operation.specs.declared.report.Ending.{Ending}
use Rattle.operation.specs.Layout.{operation_count}
use Rattle.validation.specs.Verdict.{most_operations, most_bytes, settings_in_range}
use Rattle.machine.specs.Program.{Program, big_endian}
use Rattle.machine.specs.Memory.{Memory, OfBytes, lengths_of, written, value_at}
use Rattle.machine.specs.Effect.{Operation, operation_at}
use Rattle.machine.specs.Run.{Position, log_word, advanced, ended, stepped, continued, run}
use Rattle.machine.specs.Calls.{Outcome, unlabelled, log_after, outcome_of, plain_outcome}
use Rattle.machine.specs.Conditions.{operand1, Words}
use Rattle.machine.proofs.Kept.{written_lengths}
use Rattle.run_memory.specs.Placed.{Placed}
use Rattle.run_plan.specs.declared.Plan.{Plan}
use Rattle.run_plan.specs.Valid.{Valid}
use Rattle.operation.specs.Numbers.{ending_number}
use Rattle.run_plan.specs.Plans.{failure, planned}
use Rattle.run_plan.proofs.Steps.{words_of, applied, step_plain}
use Rattle.run_plan.proofs.Bounds.{next_within, target_writable, low_small}
use Rattle.run_plan.proofs.Places.{valid_with, index_small}
use Rattle.run_execution.specs.Loops.{position}

-- ---- the plan

-- a plan without a failure: as its method finds it, or since it does not stop
pub unfailed : (stop failed : Option Ending) → failed ≡ failure stop → ((why : Ending) → failed ≡ Some why → ⊥) → failure stop ≡ None
unfailed stop None e n = sym e
unfailed stop (Some why) e n = absurd (n why refl)

pub unstopped : (stop : Option Ending) {t : Bool} → t ≡ is_some stop → t ≡ false → failure stop ≡ None
unstopped None e f = refl
unstopped (Some why) e f = absurd (true≢false (sym e ∙ f))

-- a plan from slices that hold what the buffers hold
pub planned_from : (program : Program) {held lent : Memory} (op : Operation) (i : ℕ) {p : Plan} → held ≡ lent
    → p ≡ planned program held op i (value_at program.settings held op.input0) (operand1 program held op)
    → p ≡ planned program lent op i (value_at program.settings lent op.input0) (operand1 program lent op)
planned_from program op i {p} = subst (λ (m : Memory). p ≡ planned program m op i (value_at program.settings m op.input0) (operand1 program m op))

-- ---- the log

-- of a log with k words written: no fewer words than k, and from k on as it was lent
pub record Log (log₀ log : List ℕ) (k : ℕ) : Type 0 where
  pub place : k ≤ length log
  pub long : length log ≡ length log₀
  pub rest : drop k log ≡ drop k log₀

pub log_is : (log₀ log : List ℕ) (k : ℕ) → Log log₀ log k → log_after (take k log) log₀ ≡ log
unfolding log_after
log_is log₀ log k h = rw (length-take-le k log h.place, ← h.rest) (take-append-drop k log)

module _ (log₀ log : List ℕ) (k w : ℕ) (h : Log log₀ log k) where
  pushed_words : (due : Bool) → due && leb (length log) k ≡ false
      → take (cond due (k + 1) k) (cond due (set log k w) log) ≡ take k log ++ cond due (w ∷ []) []
  pushed_words true e = rw add-one (take-suc-set log k w (leb-false (length log) k e))
  pushed_words false e = sym (append-nil (take k log))

  drop_more : drop (suc k) log ≡ drop (suc k) log₀
  drop_more =
      let d : (x : List ℕ) → drop (suc k) x ≡ drop 1 (drop k x) = λ x. sym (drop-drop 1 k x ∙ ap (λ (j : ℕ). drop j x) (add-one k)) in
      d log ∙ ap (λ (x : List ℕ). drop 1 x) h.rest ∙ sym (d log₀)

  pub pushed : (due : Bool) → due && leb (length log) k ≡ false → Log log₀ (cond due (set log k w) log) (cond due (k + 1) k)
  pushed true e =
      let b = leb-false (length log) k e in
      record {
        place = rw length-set (omega arith);
        long = length-set log k w ∙ h.long;
        rest = rw add-one (drop-set-lt (suc k) log k w (omega arith) ∙ drop_more);
      }
  pushed false e = h

-- ---- one operation

-- the position after an operation that goes on, or exits, with its log word pushed
advanced_is : (log₀ : List ℕ) (i k executed next w : ℕ) (log : List ℕ) → Log log₀ log k → (due : Bool) → due && leb (length log) k ≡ false
    → advanced (position i k executed log) next (cond due (w ∷ []) []) ≡ position next (cond due (k + 1) k) (executed + 1) (cond due (set log k w) log)
unfolding advanced position
advanced_is log₀ i k executed next w log h due e = rw (pushed_words log₀ log k w h due e, room due e, add-one executed) refl
  where
    room : (d : Bool) → d && leb (length log) k ≡ false → length (cond d (set log k w) log) - cond d (k + 1) k ≡ length log - k - length (cond d (w ∷ []) [])
    room true f = rw length-set (omega arith)
    room false f = omega arith

pub room_is : (length_log k : ℕ) → k ≤ length_log → eqb (length_log - k) 0 ≡ leb length_log k
room_is n k h = by (leb n k) refl
  where
    by : (t : Bool) → leb n k ≡ t → eqb (n - k) 0 ≡ t
    by true e = let l : n ≤ k = leb-true n k e in eq-eqb (n - k) 0 (omega arith)
    by false e = let l : k < n = leb-false n k e in ne_eqb (n - k) 0 (λ z. let y : ⊥ = omega arith in y)

-- ---- the run

pub run_end : (program : Program) (fuel : ℕ) (at : Position) (labels m : Memory) → ltb at.index (operation_count program.list) ≡ false
    → run program fuel at labels m ≡ ended 0 0 at labels m
unfolding run stepped continued
run_end program zero at labels m e = rw e refl
run_end program (suc fuel) at labels m e = rw e refl

run_budget : (program : Program) (fuel : ℕ) (at : Position) (labels m : Memory) → fuel ≡ 0 → ltb at.index (operation_count program.list) ≡ true
    → run program fuel at labels m ≡ ended 2 0 at labels m
unfolding run
run_budget program fuel at labels m z e = rw (z, e) refl

-- a report and what is in the buffers, as the definition has it
pub ended_at : (log₀ log : List ℕ) (k : ℕ) → Log log₀ log k → (ending value i executed : ℕ) (labels m : Memory)
    → record { report = record { ending = ending; index = i; executed = executed; logged = k; value = value }; memory = m; labels = labels; log = log }
    ≡ outcome_of log₀ (ended ending value (position i k executed log) labels m)
unfolding outcome_of ended position
ended_at log₀ log k h ending value i executed labels m = rw (log_is log₀ log k h, length-take-le k log h.place) refl

-- what is left to do from here is the whole run
pub record Going (program : Program) (budget start from : ℕ) (log₀ : List ℕ) (m₀ : Memory) (i executed k : ℕ) (log : List ℕ) (m : Memory) : Type 0 where
  pub settings : settings_in_range program.settings ≡ true
  pub words : Words program.list
  pub valid : Valid (lengths_of m₀) program.list
  pub index : i ≤ operation_count program.list
  pub spent : executed ≤ budget
  pub lengths : lengths_of m ≡ lengths_of m₀
  pub logs : Log log₀ log k
  pub same : run program (budget - executed) (position i k executed log) unlabelled m ≡ run program budget (position start from 0 log₀) unlabelled m₀

module _ (program : Program) (budget start from : ℕ) (log₀ : List ℕ) (m₀ : Memory) (i executed k : ℕ) (log : List ℕ) (m : Memory)
    (g : Going program budget start from log₀ m₀ i executed k log m) where
  abbrev Finally : Outcome → Type 0
  Finally o = o ≡ outcome_of log₀ (run program budget (position start from 0 log₀) unlabelled m₀)

  ended_here : (ending value : ℕ) → plain_outcome (record { ending = ending; index = i; executed = executed; logged = k; value = value }) m log
      ≡ outcome_of log₀ (ended ending value (position i k executed log) unlabelled m)
  ended_here ending value = ended_at log₀ log k g.logs ending value i executed unlabelled m

  finally : (ending value : ℕ) → run program (budget - executed) (position i k executed log) unlabelled m ≡ ended ending value (position i k executed log) unlabelled m
      → Finally (plain_outcome (record { ending = ending; index = i; executed = executed; logged = k; value = value }) m log)
  finally ending value e = ended_here ending value ∙ ap (outcome_of log₀) (sym e ∙ g.same)

  pub at_end : i ≡ operation_count program.list → Finally (plain_outcome (record { ending = 0; index = i; executed = executed; logged = k; value = 0 }) m log)
  unfolding position
  at_end e = finally 0 0 (end (budget - executed))
    where
      over : ltb i (operation_count program.list) ≡ false
      over = le-ltb i (operation_count program.list) (omega arith)

      end : (fuel : ℕ) → run program fuel (position i k executed log) unlabelled m ≡ ended 0 0 (position i k executed log) unlabelled m
      end fuel = run_end program fuel (position i k executed log) unlabelled m over

  pub at_budget : (i ≡ operation_count program.list → ⊥) → executed ≡ budget → Finally (plain_outcome (record { ending = 2; index = i; executed = executed; logged = k; value = 0 }) m log)
  unfolding position
  at_budget more e =
      let h : i ≤ operation_count program.list = g.index in
      finally 2 0 (run_budget program (budget - executed) (position i k executed log) unlabelled m (omega arith) (lt-ltb i (operation_count program.list) (omega arith)))

  module _ (more : i ≡ operation_count program.list → ⊥) (left : executed ≡ budget → ⊥) (bytes : OfBytes m) where
    pub before_end : i < operation_count program.list
    before_end = let h : i ≤ operation_count program.list = g.index in omega arith

    pub still : Valid (lengths_of m) program.list
    still = valid_with g.lengths g.valid

    pub may_plan : Valid (lengths_of m) program.list × (i < operation_count program.list) × (settings_in_range program.settings ≡ true)
    may_plan = (still, before_end, g.settings)

    fuel : budget - executed ≡ suc (budget - (executed + 1))
    fuel = let h : executed ≤ budget = g.spent in omega arith

    abbrev pub op : Operation
    op = operation_at program.list i

    abbrev pub P : Plan
    P = planned program m op i (value_at program.settings m op.input0) (operand1 program m op)

    module _ (p : Plan) (ep : p ≡ P) where
      -- the definition's step, by the plan
      run_step : run program (budget - executed) (position i k executed log) unlabelled m
          ≡ continued (run program (budget - (executed + 1))) (applied program p (position i k executed log) unlabelled unlabelled m)
      unfolding run position
      run_step = rw (fuel, step_plain program (position i k executed log) m g.words bytes still before_end, ← ep) refl

      pub at_stop : (why : Ending) → failure p.stop ≡ Some why → Finally (plain_outcome (record { ending = ending_number why; index = i; executed = executed; logged = k; value = 0 }) m log)
      unfolding applied continued
      at_stop why h = finally (ending_number why) 0 (run_step ∙ rw h refl)

      pub may_log : (i < most_operations) × (unwrap_or p.log 0 ≤ most_bytes)
      may_log = (index_small (lengths_of m) program.list still i before_end, rw ep (low_small program m i still before_end _ _))

      pub may_write : Placed m p.target
      may_write = rw ep (target_writable program m i still before_end _ _)

      module _ (go : failure p.stop ≡ None) (logs : Bool) (el : logs ≡ is_some p.log) where
        due_room : {t : Bool} → logs && leb (length log) k ≡ t → is_some p.log && eqb (position i k executed log).room 0 ≡ t
        unfolding position
        due_room f = rw (room_is (length log) k g.logs.place, ← el) f

        pub at_full : logs && leb (length log) k ≡ true → Finally (plain_outcome (record { ending = 34; index = i; executed = executed; logged = k; value = 0 }) m log)
        unfolding applied continued
        at_full f = finally 34 0 (run_step ∙ rw (go, due_room f) refl)

        pub may_push : logs && leb (length log) k ≡ false → is_some p.log ≡ true → k < length log
        may_push f d = leb-false (length log) k (rw (el, d) at f)

        module _ (f : logs && leb (length log) k ≡ false) (k' : ℕ) (log' : List ℕ) (ek : k' ≡ cond (is_some p.log) (k + 1) k)
            (ew : log' ≡ cond (is_some p.log) (set log k (log_word i (unwrap_or p.log 0))) log) where
          has_room : is_some p.log && leb (length log) k ≡ false
          has_room = rw (← el) f

          moved_on : (next : ℕ) → advanced (position i k executed log) next (words_of p i) ≡ position next k' (executed + 1) log'
          unfolding words_of
          moved_on next = rw (ek, ew) (advanced_is log₀ i k executed next (log_word i (unwrap_or p.log 0)) log g.logs (is_some p.log) has_room)

          pub logs_kept : Log log₀ log' k'
          logs_kept = rw (ek, ew) (pushed log₀ log k (log_word i (unwrap_or p.log 0)) g.logs (is_some p.log) has_room)

          pub at_exit : is_some p.stop ≡ true → Finally (plain_outcome (record { ending = 1; index = i; executed = executed + 1; logged = k'; value = p.value }) m log')
          unfolding applied continued position
          at_exit e =
              ended_at log₀ log' k' logs_kept 1 p.value i (executed + 1) unlabelled m
              ∙ ap (outcome_of log₀) (sym (run_step ∙ rw (go, due_room f, e, moved_on i) refl) ∙ g.same)

          pub at_next : is_some p.stop ≡ false → (m' : Memory) → m' ≡ written m p.target (bytes_of (big_endian program.settings) p.target.size p.value)
              → Going program budget start from log₀ m₀ p.next (executed + 1) k' log' m'
          unfolding applied continued position
          at_next e m' em = record {
            settings = g.settings;
            words = g.words;
            valid = g.valid;
            index = rw ep (next_within program m i still before_end g.words bytes _ _);
            spent = let h : executed ≤ budget = g.spent in omega arith;
            lengths = rw em (written_lengths m p.target (bytes_of (big_endian program.settings) p.target.size p.value) ∙ g.lengths);
            logs = logs_kept;
            same = sym went ∙ g.same;
          }
            where
              went : run program (budget - executed) (position i k executed log) unlabelled m ≡ run program (budget - (executed + 1)) (position p.next k' (executed + 1) log') unlabelled m'
              went =
                  run_step
                  ∙ rw (go, due_room f, e, moved_on p.next, ← em) refl

-- a loop begins with the whole run before it
pub begun : (program : Program) (budget start from : ℕ) (log : List ℕ) (m : Memory) → settings_in_range program.settings ≡ true → Words program.list
    → Valid (lengths_of m) program.list → start ≤ operation_count program.list → from ≤ length log → Going program budget start from log m start 0 from log m
begun program budget start from log m s words v h l = record {
  settings = s;
  words = words;
  valid = v;
  index = h;
  spent = omega arith;
  lengths = refl;
  logs = record { place = l; long = refl; rest = refl };
  same = rw sub-zero refl;
}
