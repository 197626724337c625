-- The definitions meet the exact conditions.
use Prim.Native.Nat.{ℕ, zero, suc, ◌+◌, ◌*◌, ◌-◌, ◌%◌, ◌^◌, ◌<◌, ◌≤◌}
use native.Mathlib.Nat.{zero-add}
use native.Mathlib.Omega.{arith}
use mathlib.Core.Path.{◌≡◌, refl, sym, ap, subst, ◌∙◌}
use mathlib.Core.Bool.{Bool, true, false, cond, not, ◌&&◌, ◌||◌}
use mathlib.Core.List.{List, [], ◌∷◌}
use borrow.Author.Tests.{eqb-true, eqb-false, ltb-true, ltb-false, leb-true, le-leb, lt-leb, ne_eqb, not-false}
use lib.Dec.{eqb, leb, ltb}
use lib.ListN.{length}
use Rattle.word.specs.Word.{part, value_of, bytes_of}
use Rattle.word.proofs.Laws.{part_length, part_bytes, value_lt}
use Rattle.arithmetic.specs.Result.{lookup, integer_results, result_of}
use Rattle.integer.specs.Operations.{flag, piece, subpiece, int_zext}
use Rattle.arithmetic.specs.Opcodes.{member, opcodes, row_of, outputs, inputs, sizes_of, has_place}
use Rattle.arithmetic.specs.Operands.{divides, agree, sizes_agree}
use Rattle.integer.proofs.Booleans.{or_false, both, neither}
use Rattle.operation.specs.declared.layout.Settings.{Settings}
use Rattle.operation.specs.declared.layout.Varnode.{Varnode}
use Rattle.machine.specs.Program.{Program, big_endian}
use Rattle.machine.specs.Memory.{Memory, OfBytes, lengths_of, space_of, with_space, bytes_at, written, value_at}
use Rattle.operation.specs.Layout.{absent, operation_count, word_at, offset_at, described_by, varnode_at}
use Rattle.machine.specs.Effect.{Operation, operation_at, Kind, kind_of, moves, dropped, computed, any_secret, secret, sinks, tested, values_of, pointee, sources}
use Rattle.machine.specs.Effect.{byte_offset, resolved, target, bytes_written, labels_written}
use Rattle.machine.specs.Run.{Stop, Decision, Position, Ended, Stepped, index_of, go_to, log_word, logging, access, checked, decided, advanced, ended, ending_of, resolved_value}
use Rattle.machine.specs.Run.{apply_decision, execute_as, execute, stepped, continued}
use Rattle.machine.specs.Conditions.{has_secret, leaks, exceeds_space, taken, branch_taken, out_of_bounds, divides_by_zero, writes_log, low_part, log_word_of, exits}
use Rattle.machine.specs.Conditions.{destination, next_index, destination_bytes, becomes_secret, value_computed, value_moved, value_written, position_after, exact_step_with}
use Rattle.machine.specs.Conditions.{moving, label_moved, exact_labels, operand1, labels_after, exact_step, exact_step_within, Words, ExactConditions}
use Rattle.operation.specs.Rules.{accesses, names_space, is_destination, breaks_place, breaks_size, branches, jumps, relative_target}
use Rattle.operation.proofs.Targets.{wrapping}
use lib.IntN.{pos}
use Rattle.validation.specs.WellFormed.{WellFormed}
use Rattle.validation.specs.Verdict.{lengths_in_range, verdict}
use Rattle.validation.proofs.WellFormed.{verdict-zero}
use Rattle.operation.specs.Spaces.{Lengths}
use Rattle.machine.proofs.Ranges.{in_range}
use Rattle.machine.proofs.Budget.{Repeats, run_repeats, Ends, stepped_ends}
use Rattle.machine.proofs.Plain.{none_secret}
use Rattle.machine.proofs.Moves.{moved_whole, moved-part, moved_extended, moved_both}
use Rattle.machine.proofs.Labels.{told_one, told_both, told_extended, told_whole}

-- ---- secret bytes

public_space : (labels : Memory) (v : Varnode) → space_of labels v.space ≡ [] → any_secret (bytes_at labels v) ≡ false
unfolding bytes_at part
public_space labels v e = rw e (none_secret v.size (λ i. 0) (λ i. refl))

constant_space : (labels : Memory) (space : ℕ) → space ≡ 1 → space_of labels space ≡ []
unfolding space_of
constant_space labels space e = rw e refl

pub has-secret : (labels : Memory) (v : Varnode) → any_secret (bytes_at labels v) ≡ has_secret labels v
unfolding has_secret
has-secret labels v = by (eqb v.space 1) refl
  where
    by : (t : Bool) → eqb v.space 1 ≡ t → any_secret (bytes_at labels v) ≡ cond t false (any_secret (bytes_at labels v))
    by true e = public_space labels v (constant_space labels v.space (eqb-true v.space 1 e))
    by false e = refl

no_space : (labels : Memory) (v : Varnode) → space_of labels v.space ≡ [] → has_secret labels v ≡ false
no_space labels v e = sym (has-secret labels v) ∙ public_space labels v e

pub absent_public : (labels : Memory) (v : Varnode) → v ≡ absent → has_secret labels v ≡ false
unfolding absent space_of
absent_public labels v e = no_space labels v (rw e refl)

pub absent-written : (m : Memory) (v : Varnode) (bs : List ℕ) → v ≡ absent → written m v bs ≡ m
unfolding absent written with_space
absent-written m v bs e = rw e refl

pub one_secret : (labels : Memory) (v : Varnode) → secret labels (v ∷ []) ≡ has_secret labels v
unfolding secret
one_secret labels v = or_false (any_secret (bytes_at labels v)) ∙ has-secret labels v

pub two_secret : (labels : Memory) (u v : Varnode) → secret labels (u ∷ v ∷ []) ≡ has_secret labels u || has_secret labels v
unfolding secret
two_secret labels u v = rw (or_false, has-secret labels u, has-secret labels v) refl

-- what a division must find public
pub division_secret : (labels : Memory) (op : Operation) → secret labels (sinks Kind.divide op) ≡ has_secret labels op.input1 || has_secret labels op.input0
unfolding sinks
division_secret labels op = two_secret labels op.input1 op.input0

-- ---- the bytes written

-- a varnode's value is below 256^size
value_fits : (settings : Settings) (m : Memory) (v : Varnode) → OfBytes m → (v.space ≡ 1 → v.offset < 256 ^ v.size) → value_at settings m v < 256 ^ v.size
unfolding value_at bytes_at
value_fits settings m v b h = by (eqb v.space 1) refl
  where
    by : (t : Bool) → eqb v.space 1 ≡ t → cond t v.offset (value_of (big_endian settings) (bytes_at m v)) < 256 ^ v.size
    by true e = h (eqb-true v.space 1 e)
    by false e =
        let l : length (bytes_at m v) ≡ v.size = part_length (space_of m v.space) v.offset v.size in
        rw l at (value_lt (big_endian settings) (bytes_at m v) (part_bytes (space_of m v.space) v.offset v.size (b v.space)))

constant_value : (settings : Settings) (m : Memory) (v : Varnode) → v.space ≡ 1 → value_at settings m v ≡ v.offset
unfolding value_at
constant_value settings m v e = rw e refl

-- the other operations, but for PIECE, SUBPIECE and INT_ZEXT
calculated : (settings : Settings) (op : Operation) (m : Memory) (n : ℕ) → moves op ≡ false
    → bytes_written settings op n (op.input0 ∷ op.input1 ∷ []) m
    ≡ bytes_of (big_endian settings) n (result_of op.opcode op.output.size op.input0.size op.input1.size (value_at settings m op.input0) (value_at settings m op.input1))
unfolding bytes_written computed values_of
calculated settings op m n e = rw e refl

-- an opcode is a number k, or it is not
pub when : {A : Type 0} (n k : ℕ) → (n ≡ k → A) → (eqb n k ≡ false → A) → A
when {A} n k same other = by (eqb n k) refl
  where
    by : (t : Bool) → eqb n k ≡ t → A
    by true e = same (eqb-true n k e)
    by false e = other e

-- a constant that names a space
pub names_bytes : (v : Varnode) → names_space v ≡ true → (v.space ≡ 1) × (2 ≤ v.offset) × (v.offset ≤ 4)
unfolding names_space
names_bytes v e =
    let n = both (eqb v.space 1 && leb 2 v.offset) (leb v.offset 4) e in
    let l = both (eqb v.space 1) (leb 2 v.offset) n.0 in
    (eqb-true v.space 1 l.0, leb-true 2 v.offset l.1, leb-true v.offset 4 n.1)

-- the spaces with bytes, one by one
pub each_space : (P : ℕ → Type 0) → P 2 → P 3 → P 4 → (space : ℕ) → 2 ≤ space → space ≤ 4 → P space
each_space P p2 p3 p4 space low high =
    when space 2 (λ e. subst P (sym e) p2) (λ n2. when space 3 (λ e. subst P (sym e) p3) (λ n3. when space 4 (λ e. subst P (sym e) p4) (λ n4.
    let not2 = eqb-false space 2 n2 in
    let not3 = eqb-false space 3 n3 in
    let not4 = eqb-false space 4 n4 in
    absurd (let z : ⊥ = omega arith in z))))

pub no_division : (n : ℕ) → eqb n 35 ≡ false → eqb n 36 ≡ false → eqb n 37 ≡ false → eqb n 38 ≡ false → divides n ≡ false
unfolding divides
no_division n f5 f6 f7 f8 = by (leb 35 n && leb n 38) refl
  where
    by : (t : Bool) → leb 35 n && leb n 38 ≡ t → t ≡ false
    by true e =
        let d = both (leb 35 n) (leb n 38) e in
        let low : 35 ≤ n = leb-true 35 n d.0 in
        let high : n ≤ 38 = leb-true n 38 d.1 in
        let n5 : n ≡ 35 → ⊥ = eqb-false n 35 f5 in
        let n6 : n ≡ 36 → ⊥ = eqb-false n 36 f6 in
        let n7 : n ≡ 37 → ⊥ = eqb-false n 37 f7 in
        let n8 : n ≡ 38 → ⊥ = eqb-false n 38 f8 in
        absurd (let z : ⊥ = omega arith in z)
    by false e = refl

-- what moves no bytes is no COPY, LOAD or STORE
pub no_move : (n : ℕ) → member n moving ≡ false → (eqb n 1 ≡ false) × (eqb n 2 ≡ false) × (eqb n 3 ≡ false)
unfolding member
no_move n e =
    let n1 = neither (eqb n 1) (member n (2 ∷ 3 ∷ 10 ∷ 11 ∷ 19 ∷ 20 ∷ [])) e in
    let n2 = neither (eqb n 2) (member n (3 ∷ 10 ∷ 11 ∷ 19 ∷ 20 ∷ [])) n1.1 in
    let n3 = neither (eqb n 3) (member n (10 ∷ 11 ∷ 19 ∷ 20 ∷ [])) n2.1 in
    (n1.0, n2.0, n3.0)

-- ---- opcodes that the conditions do not tell apart

record Class : Type 0 where
  kind : Kind
  pointer : Bool
  condition : Bool
  indirect : Bool
  division : Bool
  loads : Bool
  stores : Bool
  logs : Bool
  direct : Bool

class_of : ℕ → Class
class_of n = record {
  kind = kind_of n;
  pointer = member n (2 ∷ 3 ∷ []);
  condition = eqb n 5;
  indirect = member n (6 ∷ 8 ∷ 9 ∷ []);
  division = member n (35 ∷ 36 ∷ 37 ∷ 38 ∷ []);
  loads = eqb n 2;
  stores = eqb n 3;
  logs = member n (2 ∷ 3 ∷ 5 ∷ []);
  direct = member n (4 ∷ 7 ∷ []);
}

-- a class without any condition
free : Kind → Class
free k = record {
  kind = k;
  pointer = false;
  condition = false;
  indirect = false;
  division = false;
  loads = false;
  stores = false;
  logs = false;
  direct = false;
}

divisions : Class
divisions = record {
  kind = Kind.divide;
  pointer = false;
  condition = false;
  indirect = false;
  division = true;
  loads = false;
  stores = false;
  logs = false;
  direct = false;
}

indirect_branches : Class
indirect_branches = record {
  kind = Kind.jump;
  pointer = false;
  condition = false;
  indirect = true;
  division = false;
  loads = false;
  stores = false;
  logs = false;
  direct = false;
}

direct_branches : Class
direct_branches = record {
  kind = Kind.branch;
  pointer = false;
  condition = false;
  indirect = false;
  division = false;
  loads = false;
  stores = false;
  logs = false;
  direct = true;
}

conditional_branch : Class
conditional_branch = record {
  kind = Kind.cbranch;
  pointer = false;
  condition = true;
  indirect = false;
  division = false;
  loads = false;
  stores = false;
  logs = true;
  direct = false;
}

load : Class
load = record {
  kind = Kind.load;
  pointer = true;
  condition = false;
  indirect = false;
  division = false;
  loads = true;
  stores = false;
  logs = true;
  direct = false;
}

store : Class
store = record {
  kind = Kind.store;
  pointer = true;
  condition = false;
  indirect = false;
  division = false;
  loads = false;
  stores = true;
  logs = true;
  direct = false;
}

-- ---- one operation, by its conditions

-- a destination that a well-formed branch at index i can have
pub data Destination (i : ℕ) (v : Varnode) : Type 0 where
  in_list : eqb v.space 1 ≡ true → eqb v.space 4 ≡ false → index_of (relative_target i v.offset) ≡ (i + v.offset) % 2 ^ 64 → Destination i v
  in_ram : eqb v.space 1 ≡ false → eqb v.space 4 ≡ true → Destination i v

-- what is used of a well-formed operation at index i
pub record Formed (settings : Settings) (m : Memory) (i : ℕ) (op : Operation) : Type 0 where
  pub no_output : has_place op.opcode 0 ≡ false → op.output ≡ absent
  pub named : accesses op.opcode ≡ true → names_space op.input0 ≡ true
  pub constant1 : op.opcode ≡ 11 → op.input1.space ≡ 1
  pub branch_to : branches op.opcode ≡ true → Destination i op.input0
  pub fits0 : branches op.opcode ≡ false → value_at settings m op.input0 < 256 ^ op.input0.size
  pub fits1 : value_at settings m op.input1 < 256 ^ op.input1.size
  pub fits2 : value_at settings m op.input2 < 256 ^ op.input2.size
  pub extended : op.opcode ≡ 20 → (1 ≤ op.input0.size) × (op.input0.size < op.output.size)

module _ (program : Program) (op : Operation) (at : Position) (labels m : Memory) where
  unfoldable pub exact_step_by : (leak outside by_zero due leaves : Bool) (word to next : ℕ) → Varnode → (marks : List ℕ) (value : ℕ) → Stepped
  exact_step_by leak outside by_zero due leaves word to next place marks value =
      cond leak (Stepped.halted (ended 31 0 at labels m))
      (cond outside (Stepped.halted (ended 32 0 at labels m))
      (cond by_zero (Stepped.halted (ended 33 0 at labels m))
      (cond (due && eqb at.room 0) (Stepped.halted (ended 34 0 at labels m))
      (cond leaves (Stepped.halted (ended 1 to (advanced at at.index (cond due (word ∷ []) [])) labels m))
      (Stepped.going (advanced at next (cond due (word ∷ []) []))
      (written labels place marks)
      (written m place (bytes_of (big_endian program.settings) place.size value)))))))

  -- the values of input0 and input1
  abbrev a : ℕ
  a = value_at program.settings m op.input0

  abbrev value1 : ℕ
  value1 = value_at program.settings m op.input1

  -- the number that input1 stands for, by the opcode
  abbrev b : ℕ
  b = operand1 program m op

  -- and as a pointer
  abbrev offset1 : ℕ
  offset1 = byte_offset program.settings op value1

  exact_step_by_lem : exact_step program op at labels m
      ≡ exact_step_by (leaks labels op) (out_of_bounds m op b) (divides_by_zero op b) (writes_log op) (exits op b) (log_word_of op at.index b)
      (destination op a) (next_index op at.index b) (destination_bytes op b) (exact_labels (big_endian program.settings) labels op b (destination_bytes op b).size) (value_written program m op a b)
  unfolding exact_step exact_step_with labels_after exact_step_by position_after
  exact_step_by_lem = refl

  -- what a kind writes, with x as the value of what is tested, is what is told
  record Writes (k : Kind) (x : ℕ) (place : Varnode) (marks : List ℕ) (value : ℕ) : Type 0 where
    labelled : written labels (target k op x) (labels_written program.settings op (target k op x).size (sources k op x) labels) ≡ written labels place marks
    stored : written m (target k op x) (bytes_written program.settings op (target k op x).size (sources k op x) m)
        ≡ written m place (bytes_of (big_endian program.settings) place.size value)

  goes : (k : Kind) (x i : ℕ) (words : List ℕ) {place : Varnode} {marks : List ℕ} {value : ℕ} → Writes k x place marks value
      → apply_decision program k op at labels m x (Decision.next words i)
      ≡ Stepped.going (advanced at i words) (written labels place marks) (written m place (bytes_of (big_endian program.settings) place.size value))
  unfolding apply_decision
  goes k x i words w = rw (w.labelled, w.stored) refl

  writes : (k : Kind) (x : ℕ) (place : Varnode) (marks : List ℕ) (value : ℕ) → target k op x ≡ place
      → labels_written program.settings op place.size (sources k op x) labels ≡ marks
      → bytes_written program.settings op place.size (sources k op x) m ≡ bytes_of (big_endian program.settings) place.size value → Writes k x place marks value
  writes k x place marks value e f g = record { labelled = rw (e, f) refl; stored = rw (e, g) refl }

  module _ (word to next : ℕ) (place : Varnode) (marks : List ℕ) (value : ℕ) where
    -- a kind with nothing that must be public, and nothing to check
    unchecked : (k : Kind) → sinks k op ≡ [] → ((i extent room x : ℕ) → checked k op i extent room x ≡ Decision.next [] (suc i))
        → next ≡ suc at.index → Writes k (resolved_value program k op m) place marks value
        → execute_as program k op at labels m ≡ exact_step_by false false false false false word to next place marks value
    unfolding execute_as decided resolved_value tested secret exact_step_by
    unchecked k e f n w = rw (e, f, n) (goes k _ (suc at.index) [] w)

    jumped : to ≡ a
        → execute_as program Kind.jump op at labels m ≡ exact_step_by (has_secret labels op.input0) false false false true word to next place marks value
    unfolding execute_as sinks resolved_value resolved tested exact_step_by apply_decision decided checked ending_of
    jumped e = rw (one_secret labels op.input0, ← e) (by (has_secret labels op.input0))
      where
        by : (t : Bool) → apply_decision program Kind.jump op at labels m to (cond t (Decision.stop Stop.leak) (Decision.exit [] to))
            ≡ exact_step_by t false false false true word to next place marks value
        by true = refl
        by false = refl

    divided : next ≡ suc at.index → Writes Kind.divide value1 place marks value
        → execute_as program Kind.divide op at labels m
        ≡ exact_step_by (has_secret labels op.input1 || has_secret labels op.input0) false (eqb value1 0) false false word to next place marks value
    unfolding execute_as resolved_value resolved tested exact_step_by apply_decision decided checked ending_of
    divided n w = rw (division_secret labels op, n) (by (has_secret labels op.input1 || has_secret labels op.input0) (eqb value1 0))
      where
        by : (t z : Bool) → apply_decision program Kind.divide op at labels m value1
            (cond t (Decision.stop Stop.leak) (cond z (Decision.stop Stop.zero_divisor) (Decision.next [] (suc at.index))))
            ≡ exact_step_by t false z false false word to (suc at.index) place marks value
        by true z = refl
        by false true = refl
        by false false = goes Kind.divide value1 (suc at.index) [] w

    -- LOAD and STORE
    accessed : (k : Kind) (size : ℕ) → sinks k op ≡ op.input1 ∷ [] → tested k op ≡ op.input1 → ((x : ℕ) → resolved program.settings k op x ≡ byte_offset program.settings op x)
        → ((i extent room x : ℕ) → checked k op i extent room x ≡ access i extent room x size)
        → next ≡ suc at.index → word ≡ log_word at.index offset1
        → Writes k offset1 place marks value
        → execute_as program k op at labels m
        ≡ exact_step_by (has_secret labels op.input1) (not (leb (offset1 + size) (length (space_of m op.input0.offset)))) false true false
        word to next place marks value
    unfolding execute_as resolved_value tested exact_step_by apply_decision decided access logging ending_of
    accessed k size g u v c n l w =
        rw (g, u, v value1, c, one_secret labels op.input1, n, l)
        (by (has_secret labels op.input1) (leb (offset1 + size) (length (space_of m op.input0.offset))) (eqb at.room 0))
      where
        written_word : ℕ
        written_word = log_word at.index offset1

        by : (t u z : Bool) → apply_decision program k op at labels m offset1
            (cond t (Decision.stop Stop.leak) (cond u (cond z (Decision.stop Stop.log_full) (Decision.next (written_word ∷ []) (suc at.index))) (Decision.stop Stop.bounds)))
            ≡ cond t (Stepped.halted (ended 31 0 at labels m))
            (cond (not u) (Stepped.halted (ended 32 0 at labels m))
            (cond z (Stepped.halted (ended 34 0 at labels m))
            (Stepped.going (advanced at (suc at.index) (written_word ∷ []))
            (written labels place marks)
            (written m place (bytes_of (big_endian program.settings) place.size value)))))
        by true u z = refl
        by false false z = refl
        by false true true = refl
        by false true false = goes k offset1 (suc at.index) (written_word ∷ []) w

    -- BRANCH, CALL and CBRANCH write nothing
    module _ (k : Kind) (x : ℕ) (nothing : target k op x ≡ absent) (e : place ≡ absent) where
      writes_nothing : Writes k x place marks value
      writes_nothing = record {
        labelled = absent-written labels (target k op x) _ nothing ∙ sym (absent-written labels place _ e);
        stored = absent-written m (target k op x) _ nothing ∙ sym (absent-written m place _ e);
      }

      gone : (words : List ℕ) → Destination at.index op.input0
          → apply_decision program k op at labels m x (go_to at.index op.input0 words)
          ≡ cond (eqb op.input0.space 4) (Stepped.halted (ended 1 op.input0.offset (advanced at at.index words) labels m))
          (Stepped.going (advanced at (cond (eqb op.input0.space 1) ((at.index + op.input0.offset) % 2 ^ 64) (suc at.index)) words)
          (written labels place marks) (written m place (bytes_of (big_endian program.settings) place.size value)))
      unfolding go_to apply_decision
      gone words (in_list s f l) = rw (s, f, l) (goes k x ((at.index + op.input0.offset) % 2 ^ 64) words writes_nothing)
      gone words (in_ram s f) = rw (s, f) refl

    branched : to ≡ op.input0.offset → next ≡ cond (eqb op.input0.space 1) ((at.index + op.input0.offset) % 2 ^ 64) (suc at.index)
        → place ≡ absent → Destination at.index op.input0
        → execute_as program Kind.branch op at labels m ≡ exact_step_by false false false false (eqb op.input0.space 4) word to next place marks value
    unfolding execute_as sinks resolved_value resolved tested secret decided checked exact_step_by target
    branched t n e d = rw (t, n) (gone Kind.branch _ refl e [] d)

    pub cbranched : word ≡ log_word at.index (flag (not (eqb value1 0))) → to ≡ op.input0.offset
        → next ≡ cond (not (eqb value1 0) && eqb op.input0.space 1) ((at.index + op.input0.offset) % 2 ^ 64) (suc at.index)
        → place ≡ absent → Destination at.index op.input0
        → execute_as program Kind.cbranch op at labels m
        ≡ exact_step_by (has_secret labels op.input1) false false true (not (eqb value1 0) && eqb op.input0.space 4) word to next place marks value
    unfolding execute_as sinks resolved_value resolved tested decided checked apply_decision exact_step_by target logging flag ending_of
    cbranched l t n e d =
        rw (one_secret labels op.input1, l, t, n) (by (has_secret labels op.input1) (eqb value1 0) (eqb at.room 0))
      where
        by : (t z f : Bool)
            → apply_decision program Kind.cbranch op at labels m value1
            (cond t (Decision.stop Stop.leak)
            (cond z (cond f (Decision.stop Stop.log_full) (Decision.next (log_word at.index 0 ∷ []) (suc at.index)))
            (cond f (Decision.stop Stop.log_full) (go_to at.index op.input0 (log_word at.index 1 ∷ [])))))
            ≡ cond t (Stepped.halted (ended 31 0 at labels m))
            (cond f (Stepped.halted (ended 34 0 at labels m))
            (cond (not z && eqb op.input0.space 4)
            (Stepped.halted (ended 1 op.input0.offset (advanced at at.index (log_word at.index (flag (not z)) ∷ [])) labels m))
            (Stepped.going
            (advanced at (cond (not z && eqb op.input0.space 1) ((at.index + op.input0.offset) % 2 ^ 64) (suc at.index)) (log_word at.index (flag (not z)) ∷ []))
            (written labels place marks)
            (written m place (bytes_of (big_endian program.settings) place.size value)))))
        by true z f = refl
        by false true true = refl
        by false false true = refl
        by false true false =
            goes Kind.cbranch value1 (suc at.index) (log_word at.index 0 ∷ [])
            (writes_nothing Kind.cbranch value1 refl e)
        by false false false = gone Kind.cbranch value1 refl e (log_word at.index 1 ∷ []) d

  exact_step_as : Class → Stepped
  exact_step_as c =
      let s0 : Bool = has_secret labels op.input0 in
      let s1 : Bool = has_secret labels op.input1 in
      let x : ℕ = cond c.pointer offset1 value1 in
      exact_step_by
      ((c.pointer && s1) || (c.condition && s1) || (c.indirect && s0) || (c.division && s1) || (c.division && s0))
      ((c.loads && exceeds_space m (pointee op x op.output.size)) || (c.stores && exceeds_space m (pointee op x op.input2.size)))
      (c.division && eqb x 0)
      c.logs
      (((c.direct || (c.condition && not (eqb x 0))) && eqb op.input0.space 4) || c.indirect)
      (at.index * 2 ^ 32 + cond c.condition (flag (c.condition && not (eqb x 0))) x)
      (cond c.indirect (a) op.input0.offset)
      (cond ((c.direct || (c.condition && not (eqb x 0))) && eqb op.input0.space 1) ((at.index + op.input0.offset) % 2 ^ 64) (suc at.index))
      (cond c.stores (pointee op x op.input2.size) op.output)
      (exact_labels (big_endian program.settings) labels op b (cond c.stores (pointee op x op.input2.size) op.output).size)
      (value_written program m op a b)

  exact_step_as_lem : (c : Class) → class_of op.opcode ≡ c → execute_as program c.kind op at labels m ≡ exact_step_as c → execute program op at labels m ≡ exact_step program op at labels m
  unfolding class_of exact_step_as execute leaks out_of_bounds divides_by_zero writes_log exits taken branch_taken low_part log_word_of destination next_index destination_bytes becomes_secret operand1 byte_offset
  exact_step_as_lem c e h =
      ap (λ (d : Class). execute_as program d.kind op at labels m) e ∙ h ∙ sym (ap exact_step_as e) ∙ sym exact_step_by_lem

  -- ---- one operation, by its class

  module _ (bytes : OfBytes m) (f : Formed program.settings m at.index op) where
    abbrev pub Meets : Type 0
    Meets = execute program op at labels m ≡ exact_step program op at labels m

    -- the bytes written are those of the value written
    abbrev Bytes : (size : ℕ) → List Varnode → Type 0
    Bytes size vs = bytes_written program.settings op size vs m ≡ bytes_of (big_endian program.settings) size (value_written program m op a b)

    -- the labels written are those told
    abbrev Labels : (size : ℕ) → List Varnode → Type 0
    Labels size vs = labels_written program.settings op size vs labels ≡ exact_labels (big_endian program.settings) labels op b size

    -- nothing that must be public, and nothing to check
    meets_free : (k : Kind) (vs : List Varnode) → class_of op.opcode ≡ free k → sinks k op ≡ []
        → ((i extent room x : ℕ) → checked k op i extent room x ≡ Decision.next [] (suc i))
        → target k op (resolved_value program k op m) ≡ op.output → sources k op (resolved_value program k op m) ≡ vs
        → Bytes op.output.size vs → Labels op.output.size vs → Meets
    unfolding free exact_step_as
    meets_free k vs c n g t q e l =
        exact_step_as_lem (free k) c (unchecked _ _ _ _ _ _ k n g refl (writes k _ _ _ _ t (rw q l) (rw q e)))

    meets_copy : class_of op.opcode ≡ free Kind.copy → Bytes op.output.size (op.input0 ∷ []) → Labels op.output.size (op.input0 ∷ []) → Meets
    unfolding sinks checked target sources
    meets_copy c = meets_free Kind.copy (op.input0 ∷ []) c refl (λ i extent room x. refl) refl refl

    meets_divide : class_of op.opcode ≡ divisions
        → Bytes op.output.size (op.input0 ∷ op.input1 ∷ []) → Labels op.output.size (op.input0 ∷ op.input1 ∷ []) → Meets
    unfolding divisions exact_step_as target sources
    meets_divide c e l = exact_step_as_lem divisions c (divided _ _ _ _ _ _ refl (writes Kind.divide _ _ _ _ refl l e))

    meets_jump : class_of op.opcode ≡ indirect_branches → Meets
    unfolding indirect_branches exact_step_as
    meets_jump c = exact_step_as_lem indirect_branches c (rw (or_false (has_secret labels op.input0), or_false (has_secret labels op.input0)) (jumped _ _ _ _ _ _ refl))

    meets_branch : class_of op.opcode ≡ direct_branches → op.output ≡ absent → Destination at.index op.input0 → Meets
    unfolding direct_branches exact_step_as
    meets_branch c e d = exact_step_as_lem direct_branches c (rw (or_false (eqb op.input0.space 4)) (branched _ _ _ _ _ _ refl refl e d))

    meets_cbranch : class_of op.opcode ≡ conditional_branch → op.output ≡ absent → Destination at.index op.input0 → Meets
    unfolding conditional_branch exact_step_as log_word
    meets_cbranch c e d =
        exact_step_as_lem conditional_branch c
        (rw (
          or_false (has_secret labels op.input1),
          or_false (has_secret labels op.input1),
          or_false (has_secret labels op.input1),
          or_false (not (eqb value1 0) && eqb op.input0.space 4),
        )
        (cbranched _ _ _ _ _ _ refl refl refl e d))

    pointee_fits : accesses op.opcode ≡ true → (size : ℕ) → value_at program.settings m (pointee op offset1 size) < 256 ^ size
    unfolding pointee
    pointee_fits a size =
        value_fits program.settings m (pointee op offset1 size) bytes
        (λ e. let k : 2 ≤ op.input0.offset = (names_bytes op.input0 (f.named a)).1 in absurd (let z : ⊥ = omega arith in z))

    meets_load : class_of op.opcode ≡ load → Bytes op.output.size (pointee op offset1 op.output.size ∷ [])
        → Labels op.output.size (pointee op offset1 op.output.size ∷ []) → Meets
    unfolding load exact_step_as sinks tested resolved checked target sources pointee exceeds_space log_word
    meets_load c e l =
        exact_step_as_lem load c
        (rw (
          or_false (has_secret labels op.input1),
          or_false (has_secret labels op.input1),
          or_false (has_secret labels op.input1),
          or_false (has_secret labels op.input1),
          or_false (not (leb (offset1 + op.output.size) (length (space_of m op.input0.offset)))),
        )
        (accessed _ _ _ _ _ _ Kind.load op.output.size refl refl (λ x. refl) (λ i extent room x. refl) refl refl
        (writes Kind.load _ _ _ _ refl l e)))

    meets_store : class_of op.opcode ≡ store → Bytes op.input2.size (op.input2 ∷ []) → Labels op.input2.size (op.input2 ∷ []) → Meets
    unfolding store exact_step_as sinks tested resolved checked target sources pointee exceeds_space log_word
    meets_store c e l =
        exact_step_as_lem store c
        (rw (
          or_false (has_secret labels op.input1),
          or_false (has_secret labels op.input1),
          or_false (has_secret labels op.input1),
          or_false (has_secret labels op.input1),
        )
        (accessed _ _ _ _ _ _ Kind.store op.input2.size refl refl (λ x. refl) (λ i extent room x. refl) refl refl
        (writes Kind.store _ _ _ _ refl l e)))

    -- ---- one operation, by its opcode

    bytes_copy : op.opcode ≡ 1 → Bytes op.output.size (op.input0 ∷ [])
    unfolding operand1 value_written value_moved value_computed moves dropped member branches
    bytes_copy e = moved_whole program.settings op m op.output.size op.input0 (rw e refl) bytes (f.fits0 (rw e refl)) (rw e refl) (rw e refl) ∙ rw e refl

    bytes_zext : op.opcode ≡ 19 → Bytes op.output.size (op.input0 ∷ [])
    unfolding operand1 value_written value_moved value_computed result_of integer_results lookup int_zext moves dropped member branches
    bytes_zext e = moved_whole program.settings op m op.output.size op.input0 (rw e refl) bytes (f.fits0 (rw e refl)) (rw e refl) (rw e refl) ∙ rw e refl

    bytes_sext : op.opcode ≡ 20 → Bytes op.output.size (op.input0 ∷ [])
    unfolding operand1 value_written value_moved value_computed result_of integer_results lookup moves dropped member branches
    bytes_sext e =
        moved_extended program.settings op m op.output.size op.input0 (rw e refl) bytes (f.fits0 (rw e refl)) e (f.extended e).0 (f.extended e).1 ∙ rw e refl

    bytes_load : op.opcode ≡ 2 → Bytes op.output.size (pointee op offset1 op.output.size ∷ [])
    unfolding operand1 byte_offset value_written value_moved value_computed moves dropped member accesses pointee
    bytes_load e =
        moved_whole program.settings op m op.output.size (pointee op offset1 op.output.size) (rw e refl) bytes (pointee_fits (rw e refl) op.output.size) (rw e refl) (rw e refl) ∙ rw e refl

    bytes_store : op.opcode ≡ 3 → Bytes op.input2.size (op.input2 ∷ [])
    unfolding operand1 value_written value_moved value_computed moves dropped member
    bytes_store e = moved_whole program.settings op m op.input2.size op.input2 (rw e refl) bytes f.fits2 (rw e refl) (rw e refl) ∙ rw e refl

    bytes_computed : moves op ≡ false → Bytes op.output.size (op.input0 ∷ op.input1 ∷ [])
    unfolding operand1 value_written value_moved value_computed moves member
    bytes_computed e =
        calculated program.settings op m op.output.size e ∙ (let o = no_move op.opcode e in rw (o.0, o.1, o.2) refl)

    bytes_piece : op.opcode ≡ 10 → Bytes op.output.size (op.input1 ∷ op.input0 ∷ [])
    unfolding operand1 value_written value_moved value_computed result_of integer_results lookup piece moves dropped member branches
    bytes_piece e =
        moved_both program.settings op m op.input0 op.input1 bytes op.output.size (rw e refl) (rw e refl) (rw e refl) (f.fits0 (rw e refl)) f.fits1 ∙ rw e refl

    bytes_subpiece : op.opcode ≡ 11 → Bytes op.output.size (op.input0 ∷ [])
    unfolding operand1 value_written value_moved value_computed result_of integer_results lookup subpiece moves dropped member branches
    bytes_subpiece e =
        moved-part program.settings op m op.output.size op.input0 (rw e refl) bytes (f.fits0 (rw e refl)) op.input1.offset (rw e refl) (rw e refl)
        ∙ ap (λ (k : ℕ). bytes_of (big_endian program.settings) op.output.size (subpiece op.output.size a k)) (sym (constant_value program.settings m op.input1 (f.constant1 e)))
        ∙ rw e refl

    -- ---- the labels written, by the opcode

    labels_copy : op.opcode ≡ 1 → Labels op.output.size (op.input0 ∷ [])
    unfolding moves dropped member label_moved
    labels_copy e = told_one program.settings op labels b op.output.size op.input0 (rw e refl) (rw e refl) 0 (rw e refl) (λ k. rw (e, zero-add k) refl)

    labels_zext : op.opcode ≡ 19 → Labels op.output.size (op.input0 ∷ [])
    unfolding moves dropped member label_moved
    labels_zext e = told_one program.settings op labels b op.output.size op.input0 (rw e refl) (rw e refl) 0 (rw e refl) (λ k. rw (e, zero-add k) refl)

    labels_load : op.opcode ≡ 2 → Labels op.output.size (pointee op offset1 op.output.size ∷ [])
    unfolding operand1 byte_offset moves dropped member label_moved
    labels_load e =
        told_one program.settings op labels b op.output.size (pointee op offset1 op.output.size) (rw e refl) (rw e refl) 0 (rw e refl) (λ k. rw (e, zero-add k) refl)

    labels_store : op.opcode ≡ 3 → Labels op.input2.size (op.input2 ∷ [])
    unfolding moves dropped member label_moved
    labels_store e = told_one program.settings op labels b op.input2.size op.input2 (rw e refl) (rw e refl) 0 (rw e refl) (λ k. rw (e, zero-add k) refl)

    labels_subpiece : op.opcode ≡ 11 → Labels op.output.size (op.input0 ∷ [])
    unfolding moves dropped member label_moved
    labels_subpiece e = told_one program.settings op labels b op.output.size op.input0 (rw e refl) (rw e refl) op.input1.offset (rw e refl) (λ k. rw e refl)

    labels_piece : op.opcode ≡ 10 → Labels op.output.size (op.input1 ∷ op.input0 ∷ [])
    unfolding moves dropped member label_moved
    labels_piece e = told_both program.settings op labels b op.output.size (rw e refl) (rw e refl) (rw e refl) (λ k. rw e refl)

    labels_sext : op.opcode ≡ 20 → Labels op.output.size (op.input0 ∷ [])
    unfolding moves member label_moved
    labels_sext e = told_extended program.settings op labels b op.output.size (rw e refl) e (λ k. rw e refl)

    labels_computed : moves op ≡ false → Labels op.output.size (op.input0 ∷ op.input1 ∷ [])
    unfolding becomes_secret moves
    labels_computed e =
        told_whole program.settings op labels b op.output.size (op.input0 ∷ op.input1 ∷ []) e
        (let o = no_move op.opcode e in two_secret labels op.input0 op.input1 ∙ rw (o.1, o.2) (sym (or_false _)))

    pub meets : Meets
    unfolding class_of kind_of branches jumps divides accesses member moves has_place outputs inputs row_of opcodes free divisions indirect_branches direct_branches conditional_branch load store
        sinks checked target sources
    meets =
        when op.opcode 1 (λ e. meets_copy (ap class_of e) (bytes_copy e) (labels_copy e)) (λ n1.
        when op.opcode 2 (λ e. meets_load (ap class_of e) (bytes_load e) (labels_load e)) (λ n2.
        when op.opcode 3 (λ e. meets_store (ap class_of e) (bytes_store e) (labels_store e)) (λ n3.
        when op.opcode 4 (λ e. meets_branch (ap class_of e) (f.no_output (rw e refl)) (f.branch_to (rw e refl))) (λ n4.
        when op.opcode 5 (λ e. meets_cbranch (ap class_of e) (f.no_output (rw e refl)) (f.branch_to (rw e refl))) (λ n5.
        when op.opcode 6 (λ e. meets_jump (ap class_of e)) (λ n6.
        when op.opcode 7 (λ e. meets_branch (ap class_of e) (f.no_output (rw e refl)) (f.branch_to (rw e refl))) (λ n7.
        when op.opcode 8 (λ e. meets_jump (ap class_of e)) (λ n8.
        when op.opcode 9 (λ e. meets_jump (ap class_of e)) (λ n9.
        when op.opcode 10 (λ e. meets_free Kind.piece (op.input1 ∷ op.input0 ∷ []) (ap class_of e) refl (λ i extent room x. refl) refl refl (bytes_piece e) (labels_piece e)) (λ n10.
        when op.opcode 11 (λ e. meets_free Kind.subpiece (op.input0 ∷ []) (ap class_of e) refl (λ i extent room x. refl) refl refl (bytes_subpiece e) (labels_subpiece e)) (λ n11.
        when op.opcode 19 (λ e. meets_copy (ap class_of e) (bytes_zext e) (labels_zext e)) (λ n19.
        when op.opcode 20 (λ e. meets_copy (ap class_of e) (bytes_sext e) (labels_sext e)) (λ n20.
        when op.opcode 35 (λ e. meets_divide (ap class_of e) (bytes_computed (rw e refl)) (labels_computed (rw e refl))) (λ n35.
        when op.opcode 36 (λ e. meets_divide (ap class_of e) (bytes_computed (rw e refl)) (labels_computed (rw e refl))) (λ n36.
        when op.opcode 37 (λ e. meets_divide (ap class_of e) (bytes_computed (rw e refl)) (labels_computed (rw e refl))) (λ n37.
        when op.opcode 38 (λ e. meets_divide (ap class_of e) (bytes_computed (rw e refl)) (labels_computed (rw e refl))) (λ n38.
        meets_free Kind.compute (op.input0 ∷ op.input1 ∷ [])
        (rw (no_division op.opcode n35 n36 n37 n38, n1, n2, n3, n4, n5, n6, n7, n8, n9, n10, n11, n19, n20, n35, n36, n37, n38) refl) refl (λ i extent room x. refl) refl refl
        (bytes_computed (rw (n1, n2, n3, n10, n11, n19, n20) refl)) (labels_computed (rw (n1, n2, n3, n10, n11, n19, n20) refl)))))))))))))))))))

-- ---- a well-formed operation

-- where a branch of a well-formed operation goes
destination_of : (i n : ℕ) (v : Varnode) → is_destination v ≡ true → v.offset < 2 ^ 64 → n < 2 ^ 64
    → (v.space ≡ 1 → (t : ℕ) × (t ≤ n) × (relative_target i v.offset ≡ pos t)) → Destination i v
unfolding is_destination index_of
destination_of i n v d l small h = by (eqb v.space 1) refl
  where
    by : (t : Bool) → eqb v.space 1 ≡ t → Destination i v
    by true e =
        let s : v.space ≡ 1 = eqb-true v.space 1 e in
        let r = h s in
        let k : r.0 < 2 ^ 64 = omega (arith, r.1) in
        in_list e (rw s refl) (ap index_of r.2 ∙ sym (wrapping i v.offset r.0 l k r.2))
    by false e = let q : false || eqb v.space 4 ≡ true = rw e at d in in_ram e q

-- rule 23, of a varnode at input0's or input1's place
module _ (opcode : ℕ) (v : Varnode) where
  pub names : breaks_place opcode 1 v ≡ false → accesses opcode ≡ true → names_space v ≡ true
  unfolding breaks_place
  names p e = not-false (names_space v) (rw e at p)

  leads : breaks_place opcode 1 v ≡ false → branches opcode ≡ true → is_destination v ≡ true
  unfolding breaks_place is_destination
  leads p e = by (accesses opcode) refl
    where
      by : (t : Bool) → accesses opcode ≡ t → is_destination v ≡ true
      by true a = rw (names_bytes v (names p a)).0 refl
      by false a = not-false (is_destination v) (rw (a, e) at p)

  is_constant : breaks_place opcode 2 v ≡ false → opcode ≡ 11 → v.space ≡ 1
  unfolding breaks_place
  is_constant p e = eqb-true v.space 1 (not-false (eqb v.space 1) (rw e at p))

-- rules 22 and 25, of INT_SEXT
extends : (opcode : ℕ) → opcode ≡ 20 → has_place opcode 1 ≡ true
unfolding has_place outputs inputs row_of opcodes
extends opcode e = rw e refl

pub larger : (address_size opcode size size0 size1 : ℕ) → opcode ≡ 20 → breaks_size address_size opcode size size0 size1 ≡ false → size0 < size
unfolding breaks_size sizes_agree agree sizes_of row_of opcodes
larger address_size opcode size size0 size1 e h = ltb-true size0 size (not-false (ltb size0 size) (rw e at h))

module _ (settings : Settings) (address_size : ℕ) (list : List ℕ) (i : ℕ) (m : Memory) (words : Words list) (b : OfBytes m)
    (small : operation_count list < 2 ^ 64) (w : WellFormed address_size (lengths_of m) list i) where
  pub formed : Formed settings m i (operation_at list i)
  unfolding operation_at absent varnode_at described_by offset_at word_at
  formed = record {
    no_output = λ e. w.omitted 0 (omega arith) e;
    named = λ e. names _ _ (w.placed 1 (omega arith)) e;
    constant1 = λ e. is_constant _ _ (w.placed 2 (omega arith)) e;
    branch_to = λ e. destination_of i (operation_count list) (varnode_at list i 1) (leads _ _ (w.placed 1 (omega arith)) e) (words _) small (λ s. w.target e s);
    fits0 = λ e. value_fits settings m (varnode_at list i 1) b (w.constant 1 (omega arith) (λ k. e));
    fits1 = value_fits settings m (varnode_at list i 2) b (w.constant 2 (omega arith) (λ k. absurd (let z : ⊥ = omega arith in z)));
    fits2 = value_fits settings m (varnode_at list i 3) b (w.constant 3 (omega arith) (λ k. absurd (let z : ⊥ = omega arith in z)));
    extended = λ e. ((w.present 1 (omega arith) (extends _ e)).2, larger _ _ _ _ _ e w.sized);
  }

-- ---- the run

pub few_operations : (lengths : Lengths) (list : List ℕ) → lengths_in_range lengths list ≡ true → operation_count list < 2 ^ 64
few_operations lengths list e = omega (arith, (in_range lengths list e).0)

-- at n, END; else BUDGET, or the operation
module _ {program : Program} {S : Position → Memory → Memory → Stepped} {R : ℕ → Position → Memory → Memory → Ended} (u : Repeats program S R)
    (at : Position) (labels m : Memory) (ends : Ends program S at labels m) where
  abbrev n : ℕ
  n = operation_count program.list

  pub within_budget : (budget : ℕ) (step : Stepped) → (ltb at.index n ≡ true → S at labels m ≡ step)
      → R budget at labels m
      ≡ continued (R (budget - 1)) (cond (leb n at.index) (Stepped.halted (ended 0 0 at labels m)) (cond (eqb budget 0) (Stepped.halted (ended 2 0 at labels m)) step))
  unfolding continued
  within_budget budget step h = by budget (ltb at.index n) refl
    where
      by : (budget : ℕ) (t : Bool) → ltb at.index n ≡ t
          → R budget at labels m
          ≡ continued (R (budget - 1)) (cond (leb n at.index) (Stepped.halted (ended 0 0 at labels m)) (cond (eqb budget 0) (Stepped.halted (ended 2 0 at labels m)) step))
      by zero true e = rw (u.none at labels m, e, lt-leb n at.index (ltb-true at.index n e)) refl
      by zero false e = rw (u.none at labels m, e, le-leb n at.index (ltb-false at.index n e)) refl
      by (suc b) true e =
          let less : suc b - 1 ≡ b = omega arith in
          rw (u.next b at labels m, h e, lt-leb n at.index (ltb-true at.index n e), less, ne_eqb (suc b) 0 (λ z. absurd (omega arith))) refl
      by (suc b) false e = rw (u.next b at labels m, ends e, le-leb n at.index (ltb-false at.index n e)) refl

-- an operation of a list whose verdict is 0
pub formed_at : (program : Program) (i : ℕ) (m : Memory) → Words program.list → OfBytes m
    → (verdict program.settings (lengths_of m) program.list).ending ≡ 0 → ltb i (operation_count program.list) ≡ true
    → Formed program.settings m i (operation_at program.list i)
formed_at program i m words b v e =
    let z = verdict-zero program.settings (lengths_of m) program.list v in
    let small = few_operations (lengths_of m) program.list z.1 in
    formed program.settings program.settings.address_size program.list i m words b small (z.2 i (ltb-true i (operation_count program.list) e))

pub exact_conditions : ExactConditions
unfolding exact_step_within stepped
exact_conditions program budget at labels m words b v =
    within_budget (run_repeats program) at labels m (stepped_ends program at labels m) budget (exact_step program (operation_at program.list at.index) at labels m)
    (λ e. rw e (meets program (operation_at program.list at.index) at labels m b (formed_at program at.index m words b v e)))
