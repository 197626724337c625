-- The definitions meet the exact conditions of a window.
use Prim.Native.Nat.{ℕ, suc, ◌+◌, ◌*◌, ◌-◌, ◌%◌, ◌^◌}
use mathlib.Core.Bool.{Bool, true, false, cond, not, ◌&&◌}
use mathlib.Core.List.{List, [], ◌∷◌, map, append_assoc}
use mathlib.Core.Path.{◌≡◌, refl, sym, ap, ◌∙◌}
use borrow.Author.Tests.{eq-eqb}
use lib.Dec.{eqb}
use Rattle.integer.specs.Operations.{flag}
use Rattle.arithmetic.specs.Opcodes.{member}
use Rattle.operation.specs.Layout.{absent}
use Rattle.operation.specs.Rules.{branches}
use Rattle.machine.specs.Program.{Program}
use Rattle.machine.specs.Memory.{Memory, value_at}
use Rattle.machine.specs.Effect.{Operation, Kind, operation_at, kind_of}
use Rattle.machine.specs.Run.{Position, Ended, Stepped, log_word, go_to, advanced, ended, execute_as, execute, stepped, run}
use Rattle.machine.specs.Calls.{starting}
use Rattle.machine.specs.Conditions.{has_secret, exact_step}
use Rattle.machine.proofs.Conditions.{Destination, in_list, in_ram, Formed, exact_step_by, cbranched, absent-written, when, meets, formed_at, within_budget}
use Rattle.speculation.specs.Window.{Way, Window, way_of, other_way, ahead, window_of, marked, window_mark, with_words, uncounted, right_way, reached, after_window, tried, passed, speculated}
use Rattle.speculation.specs.Conditions.{exact_position, exact_right_way, exact_after, exact_window, exact_branch, exact_speculated, ExactWindows}
use Rattle.speculation.proofs.NoWindow.{tried_same}
use Rattle.speculation.proofs.Runs.{speculate_repeats, speculated_ends}

marked-words : (ws : List ℕ) → marked ws ≡ map (λ (word : ℕ). 2 ^ 63 + word) ws
unfolding marked window_mark
marked-words [] = refl
marked-words (w ∷ ws) = rw (marked-words ws) refl

-- ---- a CBRANCH that is executed

module _ (program : Program) (window : ℕ) (op : Operation) (at : Position) (labels m : Memory) where
  abbrev b : ℕ
  b = value_at program.settings m op.input1

  abbrev word : ℕ
  word = log_word at.index (flag (not (eqb b 0)))

  abbrev after : ℕ → Position
  after j = advanced at j (word ∷ [])

  flag_word : word ≡ at.index * 2 ^ 32 + cond (eqb b 0) 0 1
  unfolding log_word flag
  flag_word = by (eqb b 0)
    where
      by : (t : Bool) → at.index * 2 ^ 32 + flag (not t) ≡ at.index * 2 ^ 32 + cond t 0 1
      by true = refl
      by false = refl

  counted_position : (j : ℕ) (w : Ended) → with_words w (after j) ≡ exact_position at j (suc at.executed) b w
  unfolding with_words advanced exact_position
  counted_position j w = rw (flag_word, append_assoc, marked-words w.position.log) refl

  uncounted-position : (j : ℕ) (w : Ended) → with_words w (uncounted at (after j)) ≡ exact_position at at.index at.executed b w
  unfolding with_words uncounted advanced exact_position
  uncounted-position j w = rw (flag_word, append_assoc, marked-words w.position.log) refl

  -- what a CBRANCH does by itself, before and after any window, and where it then is
  record Executed (right : Stepped) : Type 0 where
    to : ℕ
    reaches : reached right ≡ after to
    passes : passed right ≡ true
    goes : (w : Ended) → right_way w right ≡ exact_right_way op at labels m b w

  after_exact : {right : Stepped} → Executed right → (w : Ended) → after_window at labels m right w (window_of w.ending) ≡ exact_after op at labels m b w
  unfolding window_of after_window exact_after
  after_exact {right} e w = by (eqb w.ending 31) (eqb w.ending 34)
    where
      short : (x : ℕ) → Stepped.halted (ended x 0 (with_words w (uncounted at (reached right))) labels m) ≡ Stepped.halted (ended x 0 (exact_position at at.index at.executed b w) labels m)
      short x = ap (λ (p : Position). Stepped.halted (ended x 0 p labels m)) (ap (λ (p : Position). with_words w (uncounted at p)) e.reaches ∙ uncounted-position e.to w)

      by : (s t : Bool)
          → after_window at labels m right w (cond s (Window.ends 35) (cond t (Window.ends 34) Window.closes))
          ≡ cond s (Stepped.halted (ended 35 0 (exact_position at at.index at.executed b w) labels m))
          (cond t (Stepped.halted (ended 34 0 (exact_position at at.index at.executed b w) labels m)) (exact_right_way op at labels m b w))
      by true t = short 35
      by false true = short 34
      by false false = e.goes w

  -- a window from index j, after the CBRANCH's own word
  inside_exact : {right : Stepped} → Executed right → (operations j : ℕ)
      → tried program operations at labels m right (Way.inside j)
      ≡ exact_after op at labels m b (run program operations (record { index = j; room = at.room - 1; executed = 0; log = [] }) labels m)
  unfolding tried ahead starting advanced
  inside_exact {right} e operations j =
      ap (λ (p : Position). after_window at labels m right (run program operations (starting j p.room) labels m) (window_of (run program operations (starting j p.room) labels m).ending)) e.reaches
      ∙ after_exact e _

  window_exact : {right : Stepped} → Executed right → Destination at.index op.input0
      → tried program window at labels m right (other_way op at.index b) ≡ exact_after op at labels m b (exact_window program window op at labels m b)
  unfolding other_way go_to way_of exact_window tried
  window_exact {right} e d = by (eqb b 0) refl d
    where
      by : (t : Bool) → eqb b 0 ≡ t → Destination at.index op.input0
          → tried program window at labels m right (other_way op at.index b) ≡ exact_after op at labels m b (exact_window program window op at labels m b)
      by true t (in_list s f l) = rw (t, s, f, l) (inside_exact e window ((at.index + op.input0.offset) % 2 ^ 64))
      -- no window is as one of no operations
      by true t (in_ram s f) =
          let j = (at.index + op.input0.offset) % 2 ^ 64 in
          rw (t, s, f) (sym (tried_same program labels m at right (Way.inside j)) ∙ inside_exact e 0 j)
      by false t d = rw t (inside_exact e window (suc at.index))

  -- what it does by itself: not taken, taken to the list or taken to ram
  right_executed : Destination at.index op.input0
      → Executed (cond (not (eqb b 0) && eqb op.input0.space 4) (Stepped.halted (ended 1 op.input0.offset (after at.index) labels m))
      (Stepped.going (after (cond (not (eqb b 0) && eqb op.input0.space 1) ((at.index + op.input0.offset) % 2 ^ 64) (suc at.index))) labels m))
  unfolding reached passed right_way exact_right_way ended
  right_executed d = by (eqb b 0) refl d
    where
      by : (t : Bool) → eqb b 0 ≡ t → Destination at.index op.input0
          → Executed (cond (not t && eqb op.input0.space 4) (Stepped.halted (ended 1 op.input0.offset (after at.index) labels m))
          (Stepped.going (after (cond (not t && eqb op.input0.space 1) ((at.index + op.input0.offset) % 2 ^ 64) (suc at.index))) labels m))
      by true t d = record { to = suc at.index; reaches = refl; passes = refl; goes = λ w. rw (counted_position (suc at.index) w, t) refl }
      by false t (in_list s f l) =
          let j = (at.index + op.input0.offset) % 2 ^ 64 in
          rw (s, f) (record { to = j; reaches = refl; passes = refl; goes = λ w. rw (counted_position j w, t, f) refl })
      by false t (in_ram s f) = rw (s, f) (record { to = at.index; reaches = refl; passes = refl; goes = λ w. rw (counted_position at.index w, t, f) refl })

  abbrev executed : Stepped
  executed =
      cond (not (eqb b 0) && eqb op.input0.space 4) (Stepped.halted (ended 1 op.input0.offset (after at.index) labels m))
      (Stepped.going (after (cond (not (eqb b 0) && eqb op.input0.space 1) ((at.index + op.input0.offset) % 2 ^ 64) (suc at.index))) labels m)

  abbrev checked : (leak full : Bool) → Stepped
  checked leak full = cond leak (Stepped.halted (ended 31 0 at labels m)) (cond full (Stepped.halted (ended 34 0 at labels m)) executed)

  -- LEAK, then LOG, then it is executed
  right_checked : op.opcode ≡ 5 → Destination at.index op.input0 → execute program op at labels m ≡ checked (has_secret labels op.input1) (eqb at.room 0)
  unfolding execute kind_of exact_step_by
  right_checked five d =
      ap (λ (k : Kind). execute_as program k op at labels m) (ap kind_of five)
      ∙ cbranched program op at labels m word op.input0.offset _ absent [] 0 refl refl refl refl d
      ∙ rw (absent-written labels absent _ refl, absent-written m absent _ refl) refl

  branch_exact : op.opcode ≡ 5 → Destination at.index op.input0 → (let right = execute program op at labels m in
      cond (eqb op.opcode 5 && passed right) (tried program window at labels m right (other_way op at.index b)) right ≡ exact_branch program window op at labels m)
  unfolding exact_branch passed ended
  branch_exact five d = rw (eq-eqb op.opcode 5 five, right_checked five d) (by (has_secret labels op.input1) (eqb at.room 0))
    where
      by : (s f : Bool)
          → cond (passed (checked s f)) (tried program window at labels m (checked s f) (other_way op at.index b)) (checked s f)
          ≡ cond s (Stepped.halted (ended 31 0 at labels m)) (cond f (Stepped.halted (ended 34 0 at labels m)) (exact_after op at labels m b (exact_window program window op at labels m b)))
      by true f = refl
      by false true = refl
      by false false = let e = right_executed d in rw e.passes (window_exact e d)

-- ---- the run

pub exact_windows : ExactWindows
unfolding exact_speculated speculated stepped branches member
exact_windows program window budget at labels m words bytes v =
    within_budget (speculate_repeats program window) at labels m (speculated_ends program window at labels m) budget _ (λ e. rw e (one (formed_at program at.index m words bytes v e)))
  where
    op : Operation
    op = operation_at program.list at.index

    one : Formed program.settings m at.index op → (let right = execute program op at labels m in
        cond (eqb op.opcode 5 && passed right) (tried program window at labels m right (other_way op at.index (value_at program.settings m op.input1))) right
        ≡ cond (eqb op.opcode 5) (exact_branch program window op at labels m) (exact_step program op at labels m))
    one f =
        when op.opcode 5
        (λ five. branch_exact program window op at labels m five (f.branch_to (rw five refl)) ∙ rw (eq-eqb op.opcode 5 five) refl)
        (λ other. rw other (meets program op at labels m bytes f))
