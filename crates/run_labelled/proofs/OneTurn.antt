-- One turn: LEAK, the operations, their labels.
use Prim.Native.Nat.{ℕ, zero, suc, ◌≤◌, ◌<◌}
use native.Mathlib.Omega.{arith}
use mathlib.Core.Path.{◌≡◌, refl, sym, ap, ◌∙◌}
use mathlib.Core.Bool.{Bool, true, false, cond, not, ◌&&◌, true≢false}
use mathlib.Core.List.{List}
use borrow.Author.Tests.{ltb-true, ne_eqb}
use lib.Dec.{eqb, ltb}
use lib.ListN.{length}
use Rattle.integer.proofs.Booleans.{both}
use Rattle.operation.specs.declared.report.Report.{Report}
use Rattle.operation.specs.Layout.{operation_count}
use Rattle.machine.specs.Program.{Program, big_endian}
use Rattle.machine.specs.Memory.{Memory, OfBytes, lengths_of}
use Rattle.machine.specs.Effect.{Operation, operation_at}
use Rattle.machine.specs.Run.{run}
use Rattle.machine.specs.Calls.{unlabelled, outcome_of, plain_outcome, labelled_outcome}
use Rattle.machine.specs.Conditions.{leaks, labels_after, Words}
use Rattle.run_plan.specs.Valid.{Valid}
use Rattle.run_plan.proofs.Places.{valid_with}
use Rattle.run_execution.specs.Loops.{position}
use Rattle.run_labelled.specs.Turns.{Fitting, completes, offset_logged, Markable}
use Rattle.run_labelled.proofs.Marking.{leaked, Done, done_idle, done_end, done_step, markable}

-- the labels of a labelled run have room for the same list
pub labels_valid : {labelled : Bool} {labels m : Memory} {list : List ℕ} → Valid (lengths_of m) list → Fitting labelled labels m → labelled ≡ true
    → Valid (lengths_of labels) list
labels_valid v fit t = valid_with (fit.lengths t) v

module _ (labelled : Bool) (program : Program) (i k most : ℕ) (log : List ℕ) (labels m : Memory) (words : Words program.list) (bytes : OfBytes m)
    (v : Valid (lengths_of m) program.list) (place : k ≤ length log) (fit : Fitting labelled labels m) (one : labelled ≡ true → most ≤ 1)
    (leak : Bool) (el : leak ≡ labelled && not (eqb most 0) && ltb i (operation_count program.list) && leaks labels (operation_at program.list i)) where
  abbrev op : Operation
  op = operation_at program.list i

  -- where LEAK is looked for
  data Asked : Type 0 where
    unlabelled_turn : labelled ≡ false → Asked
    no_budget : labelled ≡ true → most ≡ 0 → Asked
    at_end : labelled ≡ true → most ≡ 1 → ltb i (operation_count program.list) ≡ false → Asked
    inside : labelled ≡ true → most ≡ 1 → i < operation_count program.list → leak ≡ leaks labels op → Asked

  asked : Asked
  asked = by labelled refl most refl (ltb i (operation_count program.list)) refl
    where
      by : (t : Bool) → labelled ≡ t → (n : ℕ) → most ≡ n → (s : Bool) → ltb i (operation_count program.list) ≡ s → Asked
      by false t n z s e = unlabelled_turn t
      by true t zero z s e = no_budget t z
      by true t (suc zero) z false e = at_end t z e
      by true t (suc zero) z true e = inside t z (ltb-true i (operation_count program.list) e) (el ∙ rw (t, z, e) refl)
      by true t (suc (suc n)) z s e = absurd (let h = one t in let y : ⊥ = omega arith in y)

  -- ---- LEAK

  pub leaked_turn : leak ≡ true → (r : Report) → r ≡ record { ending = 31; index = i; executed = 0; logged = k; value = 0 }
      → labelled_outcome r m labels log ≡ outcome_of log (run program most (position i k 0 log) labels m)
  leaked_turn loud r er = by asked
    where
      quiet : {A : Type 0} → leak ≡ false → A
      quiet q = absurd (true≢false (sym loud ∙ q))

      by : Asked → labelled_outcome r m labels log ≡ outcome_of log (run program most (position i k 0 log) labels m)
      by (Asked.unlabelled_turn t) = quiet (el ∙ rw t refl)
      by (Asked.no_budget t z) = quiet (el ∙ rw (t, z) refl)
      by (Asked.at_end t z e) = quiet (el ∙ rw (t, z, e) refl)
      by (Asked.inside t z h q) = rw (er, z) (leaked program i k log labels m words bytes v place (fit.lengths t) h (sym q ∙ loud))

  -- ---- the operations, and their labels

  module _ (public : leak ≡ false) (done : Report) (m₁ : Memory) (log₁ : List ℕ)
      (plain : plain_outcome done m₁ log₁ ≡ outcome_of log (run program most (position i k 0 log) unlabelled m)) where
    abbrev Labelled : Memory → Type 0
    Labelled after = labelled_outcome done m₁ after log₁ ≡ outcome_of log (run program most (position i k 0 log) labels m)

    -- what the turn was
    data Turn : Type 0 where
      unlabelled_turn_left : labelled ≡ false → Turn
      labelled_turn : (t : labelled ≡ true) → Done program i k log labels m words bytes v place (fit.lengths t) done m₁ log₁ most → Turn

    plainly : (n : ℕ) → most ≡ n → plain_outcome done m₁ log₁ ≡ outcome_of log (run program n (position i k 0 log) unlabelled m)
    plainly n e = plain ∙ ap (λ (b : ℕ). outcome_of log (run program b (position i k 0 log) unlabelled m)) e

    turn : Turn
    turn = by asked
      where
        by : Asked → Turn
        by (Asked.unlabelled_turn t) = unlabelled_turn_left t
        by (Asked.no_budget t z) = labelled_turn t (rw z (done_idle program i k log labels m words bytes v place (fit.lengths t) done m₁ log₁ (plainly 0 z)))
        by (Asked.at_end t z e) = labelled_turn t (rw z (done_end program i k log labels m words bytes v place (fit.lengths t) done m₁ log₁ e (plainly 1 z)))
        by (Asked.inside t z h q) =
            labelled_turn t (rw z (done_step program i k log labels m words bytes v place (fit.lengths t) done m₁ log₁ h (sym q ∙ public) (plainly 1 z)))

    module _ (went : Bool) (ew : went ≡ completes labelled done.executed done.ending) where
      no_went : {A : Type 0} → went ≡ false → went ≡ true → A
      no_went f t = absurd (true≢false (sym t ∙ f))

      -- it did not go on
      stayed : done.executed ≡ 0 → went ≡ false
      unfolding completes
      stayed e = ew ∙ rw e (by labelled)
        where
          by : (t : Bool) → t && (false && not (eqb done.ending 1)) ≡ false
          by true = refl
          by false = refl

      exited : done.ending ≡ 1 → went ≡ false
      unfolding completes
      exited e = ew ∙ rw e (by labelled (not (eqb done.executed 0)))
        where
          by : (t s : Bool) → t && (s && false) ≡ false
          by true true = refl
          by true false = refl
          by false s = refl

      unlabelled_stays : labelled ≡ false → went ≡ false
      unfolding completes
      unlabelled_stays t = ew ∙ rw t refl

      moved : labelled ≡ true → (done.executed ≡ 0 → ⊥) → (done.ending ≡ 1 → ⊥) → completes labelled done.executed done.ending ≡ true
      unfolding completes
      moved l x y = rw (l, ne_eqb done.executed 0 x, ne_eqb done.ending 1 y) refl

      pub may_mark : went ≡ true → Markable labels program.list log₁ i k
      may_mark t = by turn
        where
          of_done : (l : labelled ≡ true) → Done program i k log labels m words bytes v place (fit.lengths l) done m₁ log₁ most → Markable labels program.list log₁ i k
          of_done l (Done.stays e h) = no_went (stayed e) t
          of_done l (Done.leaves e h) = no_went (exited e) t
          of_done l (Done.goes x y h bounds logged o) =
              markable program i k log labels m words bytes v place (fit.lengths l) log₁ h bounds logged

          by : Turn → Markable labels program.list log₁ i k
          by (unlabelled_turn_left l) = no_went (unlabelled_stays l) t
          by (labelled_turn l d) = of_done l d

      module _ (labels₁ : Memory) (eb : labels₁ ≡ cond went (labels_after (big_endian program.settings) labels op (offset_logged op log₁ k)) labels) where
        unchanged : went ≡ false → labels₁ ≡ labels
        unchanged f = eb ∙ rw f refl

        pub turned : Labelled labels₁
        turned = by turn
          where
            of_done : (l : labelled ≡ true) → Done program i k log labels m words bytes v place (fit.lengths l) done m₁ log₁ most → Labelled labels₁
            of_done l (Done.stays e h) = rw (unchanged (stayed e)) h
            of_done l (Done.leaves e h) = rw (unchanged (exited e)) h
            of_done l (Done.goes x y h bounds logged o) =
                let on : went ≡ true = ew ∙ moved l x y in
                let after : labels₁ ≡ labels_after (big_endian program.settings) labels op (offset_logged op log₁ k) = eb ∙ rw on refl in
                rw after o

            by : Turn → Labelled labels₁
            by (unlabelled_turn_left l) = rw (unchanged (unlabelled_stays l), fit.none l) plain
            by (labelled_turn l d) = of_done l d

-- only a labelled operation is completed
pub completes-labelled : (labelled completed : Bool) (executed ending : ℕ) → completed ≡ completes labelled executed ending → completed ≡ true → labelled ≡ true
unfolding completes
completes-labelled labelled completed executed ending e t = (both labelled _ (sym e ∙ t)).0
