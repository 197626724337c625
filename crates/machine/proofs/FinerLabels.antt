-- Labels that follow the bytes are never more secret than the base's rule.
use Prim.Native.Nat.{ℕ, zero, suc, ◌+◌, ◌-◌, ◌<◌}
use mathlib.Core.Path.{◌≡◌, refl, sym, subst, ◌∙◌}
use mathlib.Core.Bool.{Bool, true, false, cond, not, ◌&&◌, ◌||◌}
use mathlib.Core.List.{List, [], ◌∷◌}
use borrow.Author.Tests.{eqb-true, not-false}
use lib.Dec.{eqb, ltb}
use lib.ListN.{get_or, replicate, length-replicate, get_or-replicate}
use Rattle.word.specs.Sum.{sum, tabulate, digit}
use Rattle.word.specs.Word.{part, significance, value_of, bytes_of}
use Rattle.word.proofs.Sums.{tabulate_at, tabulate-length, tabulate_same}
use Rattle.integer.specs.Operations.{flag}
use Rattle.integer.proofs.Booleans.{neither}
use Rattle.arithmetic.specs.Opcodes.{member}
use Rattle.arithmetic.specs.Operands.{divides}
use Rattle.operation.specs.declared.layout.Varnode.{Varnode}
use Rattle.operation.specs.Layout.{operation_count, word_at, head_byte, opcode_at, descriptor_at, offset_at, described_by, varnode_at, absent, wordsize_of}
use Rattle.operation.specs.Rules.{branches, jumps, relative_target}
use Rattle.validation.specs.Verdict.{verdict}
use Rattle.machine.specs.Program.{Program, big_endian}
use Rattle.machine.specs.Memory.{Memory, OfBytes, lengths_of, space_of, with_space, bytes_at, written, value_at, ordered, digits_at}
use Rattle.machine.specs.Effect.{Operation, operation_at, kind_of, sinks, tested, byte_offset, resolved, pointee, sources, target, moves, dropped, origin, entry_from, moved}
use Rattle.machine.specs.Effect.{digits_of, sign_fill, values_of, computed, bytes_written, any_secret, secret, labels_of, label_fill, labels_written}
use Rattle.machine.specs.Run.{Position, Ended, Stepped, log_word, logging, access, checked, decided, advanced, ended, resolved_value, apply_decision, execute_as, execute, stepped}
use Rattle.machine.specs.Run.{continued, run}
use Rattle.machine.specs.Calls.{starting}
use Rattle.machine.specs.Conditions.{has_secret, destination_bytes, label_of, label_joined, label_extended, moving, label_moved, becomes_secret, label_written, exact_labels, operand1, labels_after}
use Rattle.machine.specs.Conditions.{leaks, out_of_bounds, divides_by_zero, writes_log, exits, exact_step_with, exact_step, Words}
use Rattle.machine.specs.FinerLabels.{base_labels, NoMoreSecret, FinerLabels}
use Rattle.machine.proofs.Cases.{either, either_equal}
use Rattle.machine.proofs.Pointwise.{Each, Spaces, each_at, each_from, spaces_space, spaces-written}
use Rattle.machine.proofs.Secrecy.{flag-zero}
use Rattle.machine.proofs.Conditions.{formed_at, meets}

-- ---- one byte

public_at : (ls : List ℕ) → any_secret ls ≡ false → (i : ℕ) → get_or ls i 0 ≡ 0
unfolding any_secret
public_at [] h i = refl
public_at (l ∷ ls) h zero = eqb-true l 0 (not-false (eqb l 0) (neither (not (eqb l 0)) (any_secret ls) h).0)
public_at (l ∷ ls) h (suc i) = public_at ls (neither (not (eqb l 0)) (any_secret ls) h).1 i

module _ (big : Bool) (labels : Memory) where
  public_label : (v : Varnode) → has_secret labels v ≡ false → (k : ℕ) → label_of big labels v k ≡ 0
  unfolding has_secret label_of
  public_label v h k = by (eqb v.space 1) h
    where
      by : (t : Bool) → cond t false (any_secret (bytes_at labels v)) ≡ false
          → cond t 0 (cond (ltb k v.size) (get_or (bytes_at labels v) (significance big v.size k) 0) 0) ≡ 0
      by true e = refl
      by false e = either_equal (ltb k v.size) (public_at (bytes_at labels v) e _) refl

  module _ (op : Operation) (b : ℕ) (none : becomes_secret labels op b ≡ false) (k : ℕ) where
    -- the bytes loaded by LOAD, input2 of STORE, and the inputs of all others
    public_loaded : eqb op.opcode 2 ≡ true → has_secret labels (pointee op b op.output.size) ≡ false
    unfolding becomes_secret
    public_loaded e =
        let n3 : eqb op.opcode 3 ≡ false = rw (eqb-true op.opcode 2 e) refl in
        let h : has_secret labels op.input0 || has_secret labels op.input1 || (true && has_secret labels (pointee op b op.output.size)) ≡ false = rw (n3, e) at none in
        (neither (has_secret labels op.input0 || has_secret labels op.input1) _ h).1

    public_stored : eqb op.opcode 3 ≡ true → has_secret labels op.input2 ≡ false
    unfolding becomes_secret
    public_stored e = rw e at none

    public_inputs : eqb op.opcode 3 ≡ false → (has_secret labels op.input0 ≡ false) × (has_secret labels op.input1 ≡ false)
    unfolding becomes_secret
    public_inputs e =
        let h : has_secret labels op.input0 || has_secret labels op.input1 || (eqb op.opcode 2 && has_secret labels (pointee op b op.output.size)) ≡ false = rw e at none in
        neither (has_secret labels op.input0) (has_secret labels op.input1) (neither (has_secret labels op.input0 || has_secret labels op.input1) _ h).0

    public_moved : label_moved big labels op b k ≡ 0
    unfolding label_moved label_joined label_extended
    public_moved = by (eqb op.opcode 2) refl (eqb op.opcode 3) refl
      where
        by : (t : Bool) → eqb op.opcode 2 ≡ t → (u : Bool) → eqb op.opcode 3 ≡ u → label_moved big labels op b k ≡ 0
        by true e u f = rw e (public_label (pointee op b op.output.size) (public_loaded e) k)
        by false e true f = rw (e, f) (public_label op.input2 (public_stored f) k)
        by false e false f =
            let p = public_inputs f in
            let all : (j : ℕ) → label_of big labels op.input0 j ≡ 0 = public_label op.input0 p.0 in
            rw (e, f)
            (either_equal (eqb op.opcode 10) (either_equal (ltb k op.input1.size) (public_label op.input1 p.1 k) (all (k - op.input1.size)))
            (either_equal (eqb op.opcode 11) (all (op.input1.offset + k)) (either_equal (eqb op.opcode 20) (all _) (all k))))

    public_written : label_written big labels op b k ≡ 0
    unfolding label_written flag
    public_written = rw none (either_equal (member op.opcode moving) public_moved refl)

-- ---- one operation

-- public in the second is public in the first; what stands beside them does not matter
abbrev NoMore : (label first second : ℕ) → Type 0
NoMore l a b = b ≡ 0 → a ≡ 0

each_same : (ls : List ℕ) → Each NoMore ls ls ls
each_same [] = Each.empty
each_same (l ∷ ls) = Each.entry (λ e. e) (each_same ls)

written_finer : (big : Bool) (labels : Memory) (op : Operation) (b : ℕ) → NoMoreSecret (labels_after big labels op b) (base_labels labels op b)
unfolding labels_after exact_labels base_labels
written_finer big labels op b space i e =
    each_at (λ z. z) (spaces_space (spaces-written start (destination_bytes op b) marks) space) i e
  where
    n : ℕ
    n = (destination_bytes op b).size

    f : ℕ → ℕ
    f j = label_written big labels op b (significance big n j)

    start : Spaces NoMore labels labels labels
    start = record { unique = each_same labels.unique; register = each_same labels.register; ram = each_same labels.ram }

    base : ℕ
    base = flag (becomes_secret labels op b)

    marks : Each NoMore (replicate n base) (tabulate n f) (replicate n base)
    marks =
        each_from (replicate n base) (tabulate n f) (replicate n base) (length-replicate n base ∙ sym (tabulate-length n f)) (tabulate-length n f ∙ sym (length-replicate n base))
        (λ j l z. let m : j < n = subst (λ (k : ℕ). j < k) (length-replicate n base) l in
        tabulate_at n f j m ∙ public_written big labels op b (flag-zero (becomes_secret labels op b) (sym (get_or-replicate n j base 0 m) ∙ z)) (significance big n j))

written_whole : (big : Bool) (labels : Memory) (op : Operation) (b : ℕ) → member op.opcode moving ≡ false
    → labels_after big labels op b ≡ base_labels labels op b
unfolding labels_after exact_labels label_written base_labels
written_whole big labels op b q = rw (q, tabulate_same (destination_bytes op b).size (flag (becomes_secret labels op b))) refl

-- a step that goes on has these labels
data Marks (after : Memory) : Stepped → Type 0 where
  halts : {r : Ended} → Marks after (Stepped.halted r)
  goes : {at : Position} {m : Memory} → Marks after (Stepped.going at after m)

marks_are : {after labels m : Memory} {at : Position} → Marks after (Stepped.going at labels m) → labels ≡ after
marks_are goes = refl

module _ (program : Program) (at : Position) (labels m : Memory) where
  abbrev op : Operation
  op = operation_at program.list at.index

  abbrev b : ℕ
  b = operand1 program m op

  abbrev after : Memory
  after = labels_after (big_endian program.settings) labels op b

  exact_marks : Marks after (exact_step program op at labels m)
  unfolding exact_step exact_step_with
  exact_marks =
      either (Marks after) (leaks labels op) _ _ halts (either (Marks after) (out_of_bounds m op b) _ _ halts (either (Marks after) (divides_by_zero op b) _ _ halts
      (either (Marks after) (writes_log op && eqb at.room 0) _ _ halts (either (Marks after) (exits op b) _ _ halts goes))))

  step_marks : Words program.list → OfBytes m → (verdict program.settings (lengths_of m) program.list).ending ≡ 0 → Marks after (stepped program at labels m)
  unfolding stepped
  step_marks words bytes v = by (ltb at.index (operation_count program.list)) refl
    where
      by : (t : Bool) → ltb at.index (operation_count program.list) ≡ t → Marks after (cond t (execute program op at labels m) (Stepped.halted (ended 0 0 at labels m)))
      by true e = rw (meets program op at labels m bytes (formed_at program at.index m words bytes v e)) exact_marks
      by false e = halts

  finer : (to : Position) (labels' m' : Memory) → Words program.list → OfBytes m → (verdict program.settings (lengths_of m) program.list).ending ≡ 0
      → stepped program at labels m ≡ Stepped.going to labels' m' → NoMoreSecret labels' (base_labels labels op b)
  finer to labels' m' words bytes v e =
      rw (marks_are (subst (Marks after) e (step_marks words bytes v))) (written_finer (big_endian program.settings) labels op b)

  others : (to : Position) (labels' m' : Memory) → Words program.list → OfBytes m → (verdict program.settings (lengths_of m) program.list).ending ≡ 0
      → stepped program at labels m ≡ Stepped.going to labels' m' → member op.opcode moving ≡ false → labels' ≡ base_labels labels op b
  others to labels' m' words bytes v e q = marks_are (subst (Marks after) e (step_marks words bytes v)) ∙ written_whole (big_endian program.settings) labels op b q

pub finer_labels : FinerLabels
unfolding sum tabulate digit part significance value_of bytes_of flag member divides operation_count word_at head_byte opcode_at descriptor_at offset_at described_by
    varnode_at absent branches jumps relative_target wordsize_of space_of with_space bytes_at written value_at ordered digits_at operation_at kind_of sinks tested byte_offset resolved pointee
    sources target moves dropped origin entry_from moved digits_of sign_fill values_of computed bytes_written any_secret secret labels_of label_fill labels_written
    log_word logging access checked decided advanced ended resolved_value big_endian apply_decision execute_as execute stepped continued run starting has_secret
    destination_bytes becomes_secret base_labels
finer_labels = record {
  operation = λ program at to labels m labels' m'. finer program at labels m to labels' m';
  others = λ program at to labels m labels' m'. others program at labels m to labels' m';
  copied = (refl, refl);
  base = refl;
  base_public = refl;
  loaded = (refl, refl);
  stored = (refl, refl);
  joined = (refl, refl);
  halves = (refl, refl);
  dropped = (refl, refl);
  kept = (refl, refl);
  neighbours = (refl, refl);
  zero_fill = (refl, refl);
  low_byte = (refl, refl);
  top_byte = (refl, refl);
  computed = (refl, refl);
  cleared = (refl, refl);
}
