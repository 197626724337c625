-- The speculative run of one operation, by the labelled run of it and of its window: what one turn of the code does.
use Prim.Native.Nat.{ℕ, suc}
use native.Mathlib.Omega.{arith}
use mathlib.Core.Bool.{Bool, true, false, cond, ◌&&◌}
use mathlib.Core.List.{List, [], ◌∷◌}
use mathlib.Core.Path.{◌≡◌, refl, sym, ap, subst, ◌∙◌}
use borrow.Author.Tests.{eq-eqb, ne_eqb, eqb-true}
use lib.Dec.{eqb, ltb}
use Rattle.operation.specs.Layout.{operation_count}
use Rattle.operation.specs.Rules.{relative_target}
use Rattle.machine.specs.Program.{Program}
use Rattle.machine.specs.Memory.{Memory, value_at}
use Rattle.machine.specs.Effect.{Operation, Kind, operation_at, kind_of, tested, resolved}
use Rattle.machine.specs.Run.{Stop, Decision, Position, Ended, Stepped, ending_of, log_word, index_of, logging, go_to, checked, decided, advanced, ended, apply_decision, resolved_value, execute_as, execute, stepped, continued, run}
use Rattle.machine.proofs.Cases.{either, either_equal}
use Rattle.machine.proofs.Counts.{not_exit, Counts, stepped_counts}
use Rattle.speculation.specs.Window.{Way, Window, way_of, other_way, ahead, window_of, with_words, uncounted, right_way, reached, after_window, tried, passed, speculated}
use Rattle.speculation.specs.Speculation.{speculate}

-- LEAK inside ends the run as 35 and a full log inside as 34, at the operation, not counted; else `right`, the run of it, goes on.
unfoldable pub after_ended : Position → (labels memory : Memory) → (right window : Ended) → Ended
after_ended at labels m r w =
    cond (eqb w.ending 31) (ended 35 0 (with_words w (uncounted at r.position)) labels m)
    (cond (eqb w.ending 34) (ended 34 0 (with_words w (uncounted at r.position)) labels m)
    (ended r.ending r.value (with_words w r.position) r.labels r.memory))

-- ---- after a run of one operation

module _ (program : Program) (at : Position) {P : Ended → Type 0} where
  counted_passed : {a : Stepped} → Counts at P a → (continued (run program 0) a).position.executed ≡ suc at.executed → passed a ≡ true
  unfolding passed continued run ended
  counted_passed (Counts.stays s c p) e = absurd (omega (arith, c, e))
  counted_passed (Counts.exited {r} s c) e = eq-eqb r.ending 1 s
  counted_passed (Counts.goes c) e = refl

  uncounted_stopped : {a : Stepped} → Counts at P a → (continued (run program 0) a).position.executed ≡ at.executed → passed a ≡ false
  unfolding passed continued run ended
  uncounted_stopped (Counts.stays {r} s c p) e = ne_eqb r.ending 1 (not_exit s)
  uncounted_stopped (Counts.exited s c) e = absurd (omega (arith, c, e))
  uncounted_stopped (Counts.goes c) e = absurd (omega (arith, c, e))

reached-position : (program : Program) (a : Stepped) → reached a ≡ (continued (run program 0) a).position
unfolding reached continued run ended
reached-position program (Stepped.halted r) = refl
reached-position program (Stepped.going at labels m) = refl

module _ (program : Program) (window : ℕ) (at : Position) (labels m : Memory) where
  right_ended : (w : Ended) (a : Stepped) → (let r = continued (run program 0) a in
      continued (speculate program window 0) (right_way w a) ≡ ended r.ending r.value (with_words w r.position) r.labels r.memory)
  unfolding right_way continued speculate run ended with_words
  right_ended w (Stepped.halted r) = refl
  right_ended w (Stepped.going p l n) = refl

  after-ended : (w : Ended) (a : Stepped)
      → continued (speculate program window 0) (after_window at labels m a w (window_of w.ending)) ≡ after_ended at labels m (continued (run program 0) a) w
  unfolding after_ended window_of after_window continued
  after-ended w a = by (eqb w.ending 31) (eqb w.ending 34)
    where
      r : Ended
      r = continued (run program 0) a

      short : (e : ℕ) → ended e 0 (with_words w (uncounted at (reached a))) labels m ≡ ended e 0 (with_words w (uncounted at r.position)) labels m
      short e = ap (λ (p : Position). ended e 0 (with_words w (uncounted at p)) labels m) (reached-position program a)

      by : (s t : Bool)
          → continued (speculate program window 0) (after_window at labels m a w (cond s (Window.ends 35) (cond t (Window.ends 34) Window.closes)))
          ≡ cond s (ended 35 0 (with_words w (uncounted at r.position)) labels m)
          (cond t (ended 34 0 (with_words w (uncounted at r.position)) labels m) (ended r.ending r.value (with_words w r.position) r.labels r.memory))
      by true t = short 35
      by false true = short 34
      by false false = right_ended w a

  -- ---- the run of one operation

  abbrev op : Operation
  op = operation_at program.list at.index

  abbrev other : Way
  other = other_way op at.index (value_at program.settings m op.input1)

  abbrev pub one : Ended
  one = run program 1 at labels m

  alone_ended : (a : Stepped) → continued (speculate program window 0) a ≡ continued (run program 0) a
  unfolding continued speculate run
  alone_ended (Stepped.halted r) = refl
  alone_ended (Stepped.going p l n) = refl

  one_passed : one.position.executed ≡ suc at.executed → passed (stepped program at labels m) ≡ true
  unfolding run
  one_passed e = counted_passed program at (stepped_counts program at labels m) e

  one_stopped : one.position.executed ≡ at.executed → passed (stepped program at labels m) ≡ false
  unfolding run
  one_stopped e = uncounted_stopped program at (stepped_counts program at labels m) e

  -- not a CBRANCH
  pub another_operation : eqb op.opcode 5 ≡ false → speculate program window 1 at labels m ≡ one
  unfolding speculate run speculated
  another_operation e = rw e (alone_ended (stepped program at labels m))

  -- stopped, or at n
  pub stopped_operation : one.position.executed ≡ at.executed → speculate program window 1 at labels m ≡ one
  unfolding speculate run speculated
  stopped_operation e = rw (one_stopped e) (by (eqb op.opcode 5) _)
    where
      by : (t : Bool) (a : Stepped) → continued (speculate program window 0) (cond (t && false) a (stepped program at labels m)) ≡ continued (run program 0) (stepped program at labels m)
      by true a = alone_ended (stepped program at labels m)
      by false a = alone_ended (stepped program at labels m)

  -- the other way is outside the list
  pub no_other_way : other ≡ Way.outside → speculate program window 1 at labels m ≡ one
  unfolding speculate run speculated tried
  no_other_way e =
      rw e (ap (continued (speculate program window 0)) (either_equal (eqb op.opcode 5 && passed (stepped program at labels m)) refl refl) ∙ alone_ended (stepped program at labels m))

  -- a CBRANCH that was executed, with the other way at index i
  pub window_opened : eqb op.opcode 5 ≡ true → one.position.executed ≡ suc at.executed → (i : ℕ) → other ≡ Way.inside i
      → speculate program window 1 at labels m ≡ after_ended at labels m one (ahead program window i one.position.room labels m)
  unfolding speculate run speculated tried
  window_opened five e i w =
      let a = stepped program at labels m in
      rw (five, one_passed e, w)
      (after-ended (ahead program window i (reached a).room labels m) a
      ∙ ap (λ (p : Position). after_ended at labels m (continued (run program 0) a) (ahead program window i p.room labels m)) (reached-position program a))

-- ---- where the other way is, by where the operation went

-- if a CBRANCH went to i + 1, also by its destination, the other way is the destination; else it is i + 1
pub record WayBy (op : Operation) (i condition next : ℕ) : Type 0 where
  pub following : next ≡ suc i → other_way op i condition ≡ way_of (go_to i op.input0 [])
  pub elsewhere : (next ≡ suc i → ⊥) → other_way op i condition ≡ Way.inside (suc i)

module _ (program : Program) (op : Operation) (at : Position) (labels m : Memory) (x : ℕ) where
  abbrev i : ℕ
  i = at.index

  abbrev branches : Decision → Stepped
  branches d = apply_decision program Kind.cbranch op at labels m x d

  -- LEAK and LOG did not stop it
  not_stopped : (e : Stop) → passed (branches (Decision.stop e)) ≡ true → ⊥
  unfolding apply_decision passed ended ending_of
  not_stopped Stop.leak h = let z : ◌≡◌ {A = ℕ} 31 1 = eqb-true 31 1 h in omega (arith, z)
  not_stopped Stop.bounds h = let z : ◌≡◌ {A = ℕ} 32 1 = eqb-true 32 1 h in omega (arith, z)
  not_stopped Stop.zero_divisor h = let z : ◌≡◌ {A = ℕ} 33 1 = eqb-true 33 1 h in omega (arith, z)
  not_stopped Stop.log_full h = let z : ◌≡◌ {A = ℕ} 34 1 = eqb-true 34 1 h in omega (arith, z)

  taken_way : (words : List ℕ) → eqb x 0 ≡ false → WayBy op i x (reached (branches (go_to i op.input0 words))).index
  unfolding go_to apply_decision reached advanced ended other_way way_of
  taken_way words e = by (eqb op.input0.space 1) refl
    where
      by : (t : Bool) → eqb op.input0.space 1 ≡ t
          → WayBy op i x (reached (branches (cond t (Decision.next words (index_of (relative_target i op.input0.offset))) (Decision.exit words op.input0.offset)))).index
      by true t = record { following = λ n. rw (e, t) (ap Way.inside (sym n)); elsewhere = λ n. rw e refl }
      by false t = record { following = λ n. absurd (let z : i ≡ suc i = n in omega (arith, z)); elsewhere = λ n. rw e refl }

  branch_way : (leaks : Bool) (extent : ℕ) → (let a = branches (decided leaks Kind.cbranch op i extent at.room x) in passed a ≡ true → WayBy op i x (reached a).index)
  unfolding decided checked logging apply_decision reached advanced other_way
  branch_way leaks extent = by leaks (eqb x 0) refl (eqb at.room 0)
    where
      by : (l t : Bool) → eqb x 0 ≡ t → (f : Bool)
          → (let a = branches (cond l (Decision.stop Stop.leak)
          (cond t (cond f (Decision.stop Stop.log_full) (Decision.next (log_word i 0 ∷ []) (suc i)))
          (cond f (Decision.stop Stop.log_full) (go_to i op.input0 (log_word i 1 ∷ [])))))
          in passed a ≡ true → WayBy op i x (reached a).index)
      by true t e f h = absurd (not_stopped Stop.leak h)
      by false true e true h = absurd (not_stopped Stop.log_full h)
      by false false e true h = absurd (not_stopped Stop.log_full h)
      by false true e false h = record { following = λ n. rw e refl; elsewhere = λ n. absurd (n refl) }
      by false false e false h = taken_way (log_word i 1 ∷ []) e

module _ (program : Program) (at : Position) (labels m : Memory) (five : (operation_at program.list at.index).opcode ≡ 5) where
  abbrev branch : Operation
  branch = operation_at program.list at.index

  abbrev WayOf : Stepped → Type 0
  WayOf a = passed a ≡ true → WayBy branch at.index (value_at program.settings m branch.input1) (reached a).index

  stepped_way : WayOf (stepped program at labels m)
  unfolding stepped execute execute_as kind_of resolved_value resolved tested passed ended
  stepped_way =
      let k : Kind.cbranch ≡ kind_of branch.opcode = sym (ap kind_of five) in
      either WayOf (ltb at.index (operation_count program.list)) _ _
      (subst (λ (o : Kind). WayOf (execute_as program o branch at labels m)) k (branch_way program branch at labels m _ _ _))
      (λ h. absurd (let z : ◌≡◌ {A = ℕ} 0 1 = eqb-true 0 1 h in omega (arith, z)))

  pub one_way : (run program 1 at labels m).position.executed ≡ suc at.executed
      → WayBy branch at.index (value_at program.settings m branch.input1) (run program 1 at labels m).position.index
  unfolding run
  one_way e =
      let a = stepped program at labels m in
      subst (λ (p : Position). WayBy branch at.index (value_at program.settings m branch.input1) p.index) (reached-position program a)
      (stepped_way (counted_passed program at (stepped_counts program at labels m) e))
