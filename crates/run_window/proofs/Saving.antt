-- Operations of a window: the journal's entries undo them.
use Prim.Native.Nat.{ℕ, suc, ◌+◌, ◌*◌, ◌≤◌, ◌<◌}
use native.Mathlib.Omega.{arith}
use mathlib.Core.Path.{◌≡◌, refl, sym, ap, ◌∙◌}
use mathlib.Core.Bool.{Bool, true, false, cond, ◌&&◌}
use mathlib.Core.List.{List, [], ◌∷◌}
use borrow.Author.Tests.{eqb-true, eqb-false, ne_eqb, ltb-true, ltb-false}
use lib.Dec.{eqb, ltb}
use lib.ListN.{length, set, drop}
use lib.Seq.{sets, length-sets, drop-set-lt}
use Rattle.std.specs.Prelude.{is_some}
use Rattle.word.proofs.Sums.{tabulate-length}
use Rattle.word.proofs.Laws.{bytes-length}
use Rattle.word.proofs.Tests.{by_cond}
use Rattle.integer.proofs.Booleans.{neither}
use Rattle.operation.specs.declared.layout.Varnode.{Varnode}
use Rattle.operation.specs.Layout.{operation_count, absent}
use Rattle.machine.specs.Program.{Program, big_endian}
use Rattle.machine.specs.Memory.{Memory, OfBytes, lengths_of, written, value_at}
use Rattle.machine.specs.Effect.{Operation, operation_at, pointee}
use Rattle.machine.specs.Run.{Position, Ended, Stepped, advanced, ended, continued, run}
use Rattle.machine.specs.Conditions.{leaks, operand1, exceeds_space, out_of_bounds, destination_bytes, exact_labels, labels_after, Words}
use Rattle.machine.proofs.Kept.{written_lengths}
use Rattle.speculation.specs.Speculation.{journal_words}
use Rattle.run_memory.specs.Placed.{Placed}
use Rattle.run_plan.specs.declared.Plan.{Plan}
use Rattle.run_plan.specs.Valid.{Valid}
use Rattle.run_plan.specs.Plans.{failure, next_plan, planned}
use Rattle.run_plan.proofs.Steps.{applied, step_leak, step_applied}
use Rattle.run_execution.proofs.Running.{run_end}
use Rattle.run_labelled.proofs.Marking.{plan_inside, plan_next}
use Rattle.run_journal.specs.declared.Entry.{Entry}
use Rattle.run_journal.specs.Journal.{target_before, number_at, entry_of, entry_words, words_of as entry_as_words, entry_in, restored, bytes_of_entry, labels_of_entry, undone}
use Rattle.run_journal.proofs.Undoing.{entry_written, entry_before, back, back_same, undone_same, placed_with}
use Rattle.run_window.specs.Windows.{Spared, Saved}

-- ---- what one operation writes to was known before it

module _ (program : Program) (at : Position) (labels m : Memory) where
  abbrev op : Operation
  op = operation_at program.list at.index

  abbrev a : ℕ
  a = value_at program.settings m op.input0

  abbrev b : ℕ
  b = operand1 program m op

  abbrev P : Plan
  P = planned program m op at.index a b

  -- it left bytes and labels as they were, or was counted and wrote over its target
  pub data Leaves (target : Varnode) (r : Ended) : Type 0 where
    same : r.labels ≡ labels → r.memory ≡ m → Leaves target r
    wrote : (ls bs : List ℕ) → length ls ≡ target.size → length bs ≡ target.size → r.position.executed ≡ suc at.executed
        → r.labels ≡ written labels target ls → r.memory ≡ written m target bs → Leaves target r

  -- within bounds the target is what is written to
  target_is : at.index < operation_count program.list → out_of_bounds m op b ≡ false → target_before program m at.index ≡ destination_bytes op b
  unfolding target_before out_of_bounds destination_bytes
  target_is inside o =
      let stored =
      (neither (eqb op.opcode 2 && exceeds_space m (pointee op b op.output.size)) (eqb op.opcode 3 && exceeds_space m (pointee op b op.input2.size)) o).1 in
      rw (ne_eqb at.index (operation_count program.list) (λ z. omega (arith, inside, z))) (by (eqb op.opcode 3) refl stored)
    where
      by : (t : Bool) → eqb op.opcode 3 ≡ t → t && exceeds_space m (pointee op b op.input2.size) ≡ false
          → cond (eqb op.opcode 3 && exceeds_space m (destination_bytes op b)) absent (destination_bytes op b) ≡ destination_bytes op b
      by true t o = rw (t, o) refl
      by false t o = rw t refl

  module _ (words : Words program.list) (bytes : OfBytes m) (v : Valid (lengths_of m) program.list) where
    abbrev Left : Stepped → Type 0
    Left s = Leaves (target_before program m at.index) (continued (run program 0) s)

    applied_leaves : at.index < operation_count program.list → Left (applied program P at labels (labels_after (big_endian program.settings) labels op b) m)
    unfolding applied continued run ended advanced labels_after exact_labels next_plan
    applied_leaves inside =
        by_cond Left (is_some (failure P.stop)) _ _ (λ e. same refl refl)
        (λ es. by_cond Left (is_some P.log && eqb at.room 0) _ _ (λ e. same refl refl)
        (λ ef. by_cond Left (is_some P.stop) _ _ (λ e. same refl refl)
        (λ ex. let next : P.target ≡ destination_bytes op b = ap (λ (p : Plan). p.target) (plan_next program m op at.index a b es ex) in
        let there : target_before program m at.index ≡ destination_bytes op b = target_is inside (plan_inside program m op at.index a b es) in
        rw (there, next) (wrote _ _ (tabulate-length _ _) (bytes-length (big_endian program.settings) _ _) refl refl refl))))

    pub one_leaves : at.index ≤ operation_count program.list → Leaves (target_before program m at.index) (run program 1 at labels m)
    unfolding run continued ended
    one_leaves h = by (ltb at.index (operation_count program.list)) refl (leaks labels op) refl
      where
        by : (t : Bool) → ltb at.index (operation_count program.list) ≡ t → (l : Bool) → leaks labels op ≡ l
            → Leaves (target_before program m at.index) (run program 1 at labels m)
        by false t l e = rw (run_end program 1 at labels m t) (same refl refl)
        by true t true e = rw (step_leak program at labels m words bytes v (ltb-true _ _ t) e) (same refl refl)
        by true t false e = rw (step_applied program at labels m words bytes v (ltb-true _ _ t) e) (applied_leaves (ltb-true _ _ t))

-- ---- what is left to undo

-- words behind those stored
drop-sets : (l : List ℕ) (i : ℕ) (vs : List ℕ) (k : ℕ) → i + length vs ≤ k → drop k (sets l i vs) ≡ drop k l
drop-sets l i [] k h = refl
drop-sets l i (v ∷ vs) k h = drop-sets (set l i v) (suc i) vs k (omega arith) ∙ drop-set-lt k l i v (omega arith)

-- before the first operation
pub saved_none : (window : ℕ) (journal : List ℕ) (labels m : Memory) → lengths_of labels ≡ lengths_of m → Saved window journal labels m 0 journal labels m
unfolding undone
saved_none window journal labels m e = record {
  undoable = record { room = omega arith; placed = λ k h. absurd (let z : ⊥ = omega arith in z); lengths = e };
  bytes = refl;
  marks = refl;
  spared = record { same_length = refl; further = refl };
}

module _ {window n : ℕ} {journal₀ journal : List ℕ} {labels₀ m₀ labels m : Memory} (g : Saved window journal₀ labels₀ m₀ n journal labels m)
    (room : journal_words window ≤ length journal₀) (inside : n < window) where
  abbrev at_entry : ℕ
  at_entry = entry_words * n

  pub entry_room : at_entry + entry_words ≤ length journal
  unfolding journal_words
  entry_room = rw g.spared.same_length (omega arith)

  module _ (target : Varnode) (p : Placed m target) (journal' : List ℕ) (e : journal' ≡ sets journal at_entry (entry_as_words (entry_of labels m target))) where
    abbrev entry : Entry
    entry = entry_of labels m target

    same_length : length journal' ≡ length journal
    same_length = ap length e ∙ length-sets journal at_entry (entry_as_words entry)

    spared_on : Spared window journal₀ journal'
    unfolding journal_words entry_as_words
    spared_on = record {
      same_length = same_length ∙ g.spared.same_length;
      further = rw e (drop-sets journal at_entry (entry_as_words entry) (journal_words window) (omega arith)) ∙ g.spared.further;
    }

    before : (k : ℕ) → k < n → entry_in journal' k ≡ entry_in journal k
    before k h = rw e (entry_before journal n entry_room entry k h)

    here : entry_in journal' n ≡ entry
    unfolding entry_of
    here = rw e (entry_written journal n entry_room (entry_of labels m target) (let h : target.size ≤ 8 = p.size in omega arith))

    before-undone : (number : Entry → ℕ) (x : Memory) → undone journal' number n x ≡ undone journal number n x
    before-undone number = undone_same journal' journal number n before

    -- not executed: its entry is none of those that count
    saved_idle : Saved window journal₀ labels₀ m₀ n journal' labels m
    saved_idle = record {
      undoable = record {
        room = rw same_length g.undoable.room;
        placed = λ k h. rw (before k h) (g.undoable.placed k h);
        lengths = g.undoable.lengths;
      };
      bytes = before-undone bytes_of_entry m ∙ g.bytes;
      marks = before-undone labels_of_entry labels ∙ g.marks;
      spared = spared_on;
    }

    -- executed: its entry gives back what was there
    saved_more : (labels' m' : Memory) → lengths_of m' ≡ lengths_of m → lengths_of labels' ≡ lengths_of labels
        → restored m' target (number_at m target) ≡ m → restored labels' target (number_at labels target) ≡ labels
        → Saved window journal₀ labels₀ m₀ (suc n) journal' labels' m'
    unfolding undone entry_of
    saved_more labels' m' lm ll bm bl = record {
      undoable = record {
        room = rw same_length (let r = entry_room in omega arith);
        placed = λ k h. by k h (ltb k n) refl;
        lengths = ll ∙ g.undoable.lengths ∙ sym lm;
      };
      bytes = rw (here, bm) (before-undone bytes_of_entry m ∙ g.bytes);
      marks = rw (here, bl) (before-undone labels_of_entry labels ∙ g.marks);
      spared = spared_on;
    }
      where
        by : (k : ℕ) → k < suc n → (t : Bool) → ltb k n ≡ t → Placed m' (entry_in journal' k).target
        by k h true t = let l : k < n = ltb-true k n t in rw (before k l) (placed_with _ lm (g.undoable.placed k l))
        by k h false t =
            let l : n ≤ k = ltb-false k n t in
            let last : k ≡ n = omega arith in
            rw (last, here) (placed_with target lm p)

    module _ (bytes : OfBytes m) (marks : OfBytes labels) where
      saved_wrote : (ls bs : List ℕ) → length ls ≡ target.size → length bs ≡ target.size
          → Saved window journal₀ labels₀ m₀ (suc n) journal' (written labels target ls) (written m target bs)
      saved_wrote ls bs ll lb =
          saved_more (written labels target ls) (written m target bs) (written_lengths m target bs) (written_lengths labels target ls)
          (back m target p bytes bs lb) (back labels target (placed_with target g.undoable.lengths p) marks ls ll)

      saved_same : Saved window journal₀ labels₀ m₀ (suc n) journal' labels m
      saved_same = saved_more labels m refl refl (back_same m target p bytes) (back_same labels target (placed_with target g.undoable.lengths p) marks)

      -- one operation more, by what it left
      pub saved_step : {program : Program} {at : Position} {r : Ended} → at.executed ≡ 0 → r.position.executed ≤ 1 → Leaves program at labels m target r
          → Saved window journal₀ labels₀ m₀ (n + r.position.executed) journal' r.labels r.memory
      saved_step {r = r} z h (Leaves.same el em) = rw (el, em) (by (eqb r.position.executed 0) refl)
        where
          by : (t : Bool) → eqb r.position.executed 0 ≡ t → Saved window journal₀ labels₀ m₀ (n + r.position.executed) journal' labels m
          by true t = let e : n + r.position.executed ≡ n = let x = eqb-true r.position.executed 0 t in omega arith in rw e saved_idle
          by false t = let e : n + r.position.executed ≡ suc n = let x = eqb-false r.position.executed 0 t in omega arith in rw e saved_same
      saved_step {r = r} z h (Leaves.wrote ls bs ll lb c el em) =
          let e : n + r.position.executed ≡ suc n = omega arith in
          rw (e, el, em) (saved_wrote ls bs ll lb)
