-- Noninterference of the speculative run.
use Prim.Native.Nat.{ℕ, zero, suc}
use native.Mathlib.Omega.{arith}
use mathlib.Core.Bool.{Bool, true, false, cond, ◌&&◌}
use mathlib.Core.List.{List}
use mathlib.Core.Path.{◌≡◌, refl, ap, subst}
use borrow.Author.Tests.{eqb-true}
use lib.Dec.{eqb, ltb}
use lib.ListN.{length}
use Rattle.integer.proofs.Booleans.{both}
use Rattle.operation.specs.declared.layout.Settings.{Settings}
use Rattle.operation.specs.declared.report.Report.{Report}
use Rattle.operation.specs.Layout.{operation_count}
use Rattle.machine.specs.Program.{Program, program_of}
use Rattle.machine.specs.Memory.{Memory, lengths_of, value_at}
use Rattle.machine.specs.Effect.{Operation, Kind, operation_at, kind_of, sinks, tested, secret}
use Rattle.machine.specs.Run.{Position, Ended, Stepped, ending_of, decided, ended, apply_decision, execute_as, execute, stepped}
use Rattle.machine.specs.Calls.{same_lengths, labels_in_range, starting}
use Rattle.machine.specs.Noninterference.{LowEquivalent}
use Rattle.machine.proofs.Pointwise.{Spaces}
use Rattle.machine.proofs.Refusals.{refusal_report_lem}
use Rattle.machine.proofs.Secrecy.{Public, SameView, SameSteps, halts, goes, public_tested, ended-view, stepped-view, continued-view, run-view}
use Rattle.machine.proofs.Noninterference.{spaces_from, outcome-view}
use Rattle.speculation.specs.Window.{Way, Window, other_way, ahead, window_of, with_words, uncounted, right_way, reached, after_window, tried, passed, speculated}
use Rattle.speculation.specs.Speculation.{speculate, journal_after, called_ahead, speculative_run}
use Rattle.speculation.specs.Noninterference.{IndistinguishableAhead, SpeculativeNoninterference}
use Rattle.speculation.proofs.Accepted.{ahead_refuses, ahead_accepted}

-- ---- what two operations that cannot be told apart share

pub same_passed : {a b : Stepped} → SameSteps a b → passed a ≡ passed b
unfolding passed
same_passed (halts v) = rw v.ending refl
same_passed (goes r) = refl

pub same_reached : {a b : Stepped} → SameSteps a b → reached a ≡ reached b
unfolding reached
same_reached (halts v) = v.position
same_reached (goes r) = refl

-- the same words after two windows that cannot be told apart
same_words : {w v : Ended} → SameView w v → {p q : Position} → p ≡ q → with_words w p ≡ with_words v q
unfolding with_words
same_words s e = rw (s.position, e) refl

right_view : {w v : Ended} → SameView w v → {a b : Stepped} → SameSteps a b → SameSteps (right_way w a) (right_way v b)
unfolding right_way ended
right_view s (halts x) = halts (record {
  ending = x.ending;
  value = x.value;
  position = same_words s x.position;
  labels = x.labels;
  memory = x.memory;
})
right_view s (goes {at} r) = rw (same_words s {p = at} refl) (goes r)

-- ---- where an operation has passed its checks, what must be public is public

decided_public : (program : Program) (k : Kind) (op : Operation) (at : Position) (labels m : Memory) (t : Bool) (i extent room x : ℕ)
    → passed (apply_decision program k op at labels m x (decided t k op i extent room x)) ≡ true → t ≡ false
unfolding decided apply_decision passed ended ending_of
decided_public program k op at labels m true i extent room x e = absurd (let z : ◌≡◌ {A = ℕ} 31 1 = eqb-true 31 1 e in omega (arith, z))
decided_public program k op at labels m false i extent room x e = refl

pub stepped_public : (program : Program) (at : Position) (labels m : Memory) → passed (stepped program at labels m) ≡ true
    → (let op = operation_at program.list at.index in secret labels (sinks (kind_of op.opcode) op) ≡ false)
unfolding stepped execute execute_as passed ended
stepped_public program at labels m = by (ltb at.index (operation_count program.list))
  where
    op : Operation
    op = operation_at program.list at.index

    by : (t : Bool) → passed (cond t (execute program op at labels m) (Stepped.halted (ended 0 0 at labels m))) ≡ true
        → secret labels (sinks (kind_of op.opcode) op) ≡ false
    by true e = decided_public program (kind_of op.opcode) op at labels m _ _ _ _ _ e
    by false e = absurd (let z : ◌≡◌ {A = ℕ} 0 1 = eqb-true 0 1 e in omega (arith, z))

-- ---- one operation

module _ (program : Program) {labels m n : Memory} (r : Spaces Public labels m n) where
  -- the other way of a CBRANCH that has passed its checks is the same
  pub same_way : (at : Position) → (let op = operation_at program.list at.index in
      eqb op.opcode 5 && passed (stepped program at labels m) ≡ true
      → other_way op at.index (value_at program.settings m op.input1) ≡ other_way op at.index (value_at program.settings n op.input1))
  unfolding sinks tested kind_of
  same_way at e =
      let op = operation_at program.list at.index in
      let b = both (eqb op.opcode 5) (passed (stepped program at labels m)) e in
      let h = stepped_public program at labels m b.1 in
      let five : op.opcode ≡ 5 = eqb-true op.opcode 5 b.0 in
      let k : secret labels (sinks Kind.cbranch op) ≡ false = rw five at h in
      ap (other_way op at.index) (public_tested r program.settings Kind.cbranch op k)

  after-view : (at : Position) {a b : Stepped} → SameSteps a b → {w v : Ended} → SameView w v → (c : Window)
      → SameSteps (after_window at labels m a w c) (after_window at labels n b v c)
  unfolding after_window
  after-view at s v Window.closes = right_view v s
  after-view at s v (Window.ends e) = rw (same_words v (ap (uncounted at) (same_reached s))) (halts (ended-view program r e 0 _))

  window_view : (at : Position) {a b : Stepped} → SameSteps a b → {w v : Ended} → SameView w v
      → SameSteps (after_window at labels m a w (window_of w.ending)) (after_window at labels n b v (window_of v.ending))
  window_view at {a} {b} s {w} {v} x =
      subst (λ (c : Window). SameSteps (after_window at labels m a w (window_of w.ending)) (after_window at labels n b v c)) (ap window_of x.ending)
      (after-view at s x (window_of w.ending))

  tried-view : (window : ℕ) (at : Position) {a b : Stepped} → SameSteps a b → (way : Way)
      → SameSteps (tried program window at labels m a way) (tried program window at labels n b way)
  unfolding tried ahead
  tried-view window at s Way.outside = s
  tried-view window at {b} s (Way.inside i) =
      rw (same_reached s) (window_view at s (run-view program window (starting i (reached b).room) labels m n r))

  pub speculated-view : (window : ℕ) (at : Position) → SameSteps (speculated program window at labels m) (speculated program window at labels n)
  unfolding speculated
  speculated-view window at = by (eqb op.opcode 5 && passed (stepped program at labels m)) refl
    where
      op : Operation
      op = operation_at program.list at.index

      s : SameSteps (stepped program at labels m) (stepped program at labels n)
      s = stepped-view program r at

      by : (t : Bool) → eqb op.opcode 5 && passed (stepped program at labels m) ≡ t
          → SameSteps (speculated program window at labels m) (speculated program window at labels n)
      by true e = rw (← (same_passed s), e, same_way at e) (tried-view window at s _)
      by false e = rw (← (same_passed s), e) s

-- ---- the run

speculate-view : (program : Program) (window budget : ℕ) (at : Position) (labels m n : Memory) → Spaces Public labels m n
    → SameView (speculate program window budget at labels m) (speculate program window budget at labels n)
unfolding speculate
speculate-view program window zero at labels m n r = ended-view program r _ 0 at
speculate-view program window (suc budget) at labels m n r =
    continued-view _ (λ at' labels' m' n' r'. speculate-view program window budget at' labels' m' n' r') (speculated-view program r window at)

-- ---- the call

called-ahead-view : (settings : Settings) (list : List ℕ) (start budget window : ℕ) (log log' journal journal' : List ℕ) → length log ≡ length log'
    → (labels m n : Memory) (refused : Report) → refused.logged ≡ 0 → LowEquivalent labels m n
    → (eqb refused.ending 0 ≡ true → Spaces Public labels m n)
    → IndistinguishableAhead journal journal' (called_ahead settings list start budget window log journal labels m refused)
    (called_ahead settings list start budget window log' journal' labels n refused)
unfolding called_ahead
called-ahead-view settings list start budget window log log' journal journal' e labels m n refused none l r = by (eqb refused.ending 0) refl
  where
    by : (t : Bool) → eqb refused.ending 0 ≡ t
        → IndistinguishableAhead journal journal' (called_ahead settings list start budget window log journal labels m refused)
        (called_ahead settings list start budget window log' journal' labels n refused)
    by true t = rw (t, e) (record {
      runs = outcome-view log log' (speculate-view (program_of settings list) window budget (starting start (length log')) labels m n (r t));
      journals = ap (journal_after window);
    })
    by false t = rw t (record { runs = record { report = refl; log = rw none; labels = refl; memory = l }; journals = λ j. j })

pub speculative_noninterference : SpeculativeNoninterference
unfolding speculative_run
speculative_noninterference settings list start budget window log log' journal journal' e k labels m n l =
    let fitting = same_lengths (lengths_of labels) (lengths_of m) in
    let none = (refusal_report_lem (ahead_refuses settings (lengths_of m) list start window (length journal) fitting (labels_in_range labels))).1 in
    rw (← l.lengths, ← k)
    (called-ahead-view settings list start budget window log log' journal journal' e labels m n _ none l
    (λ z. spaces_from (ahead_accepted settings (lengths_of m) list start window (length journal) fitting (labels_in_range labels) z).0 l))
