-- Laws of the table of opcodes, and of the code's sets of opcodes.
use Prim.Native.Nat.{ℕ, zero, suc, ◌^◌, ◌≤◌, ◌<◌}
use mathlib.Core.Bool.{Bool, true, false, cond, ◌&&◌}
use mathlib.Core.List.{List, [], ◌∷◌}
use mathlib.Core.Path.{◌≡◌, refl, sym, ap, ◌∙◌}
use native.Mathlib.Omega.{arith}
use native.Mathlib.Nat.{lt_of_lt_of_le, div-eq_of_lt, pow-le-pow_right}
use borrow.Author.Tests.{ltb-true, ltb-false, leb-true, lt-leb, le-leb, ne_eqb}
use lib.Dec.{lit<, eqb, leb, ltb}
use lib.ListN.{get_or}
use Rattle.word.specs.Sum.{tabulate, digit}
use Rattle.word.proofs.Sums.{tabulate_at}
use Rattle.integer.specs.Operations.{flag}
use Rattle.integer.proofs.Booleans.{both}
use Rattle.arithmetic.specs.Opcodes.{most_inputs, last_opcode, first_integer, Sizes, kept, equal, compared, extended, boolean, negated, joined, pointer, indirect}
use Rattle.arithmetic.specs.Opcodes.{condition, free, none, opcodes, row_of, outputs, inputs, sizes_of, has_place}

-- ---- the table

-- the opcodes of some rows
abbrev pub keys : List (ℕ × ℕ × ℕ × Sizes) → List ℕ
keys [] = []
keys (row ∷ rows) = row.0 ∷ keys rows

-- each opcode has one row, in order
pub numbered : keys opcodes ≡ tabulate last_opcode suc
unfolding opcodes tabulate
numbered = refl

-- the opcodes of some rows, and their inputs, are at most these
abbrev up_to : (last most : ℕ) → List (ℕ × ℕ × ℕ × Sizes) → Bool
up_to last most [] = true
up_to last most (row ∷ rows) = (leb row.0 last && leb row.2 most) && up_to last most rows

no_row : (n last most : ℕ) (rows : List (ℕ × ℕ × ℕ × Sizes)) → up_to last most rows ≡ true → last < n → row_of n rows ≡ (n, 0, 0, none)
unfolding row_of
no_row n last most [] t h = refl
no_row n last most (row ∷ rows) t h =
    let e = both (leb row.0 last && leb row.2 most) (up_to last most rows) t in
    let l : row.0 ≤ last = leb-true row.0 last (both (leb row.0 last) (leb row.2 most) e.0).0 in
    rw (ne_eqb n row.0 (λ k. let z : ⊥ = omega arith in z)) (no_row n last most rows e.1 h)

either_row : (t : Bool) (row rest : ℕ × ℕ × ℕ × Sizes) (most : ℕ) → row.2 ≤ most → rest.2 ≤ most → (cond t row rest).2 ≤ most
either_row true row rest most h q = h
either_row false row rest most h q = q

few_inputs : (n last most : ℕ) (rows : List (ℕ × ℕ × ℕ × Sizes)) → up_to last most rows ≡ true → (row_of n rows).2 ≤ most
unfolding row_of
few_inputs n last most [] t = omega arith
few_inputs n last most (row ∷ rows) t =
    let e = both (leb row.0 last && leb row.2 most) (up_to last most rows) t in
    let l : row.2 ≤ most = leb-true row.2 most (both (leb row.0 last) (leb row.2 most) e.0).1 in
    either_row (eqb n row.0) row (row_of n rows) most l (few_inputs n last most rows e.1)

-- a number past the last opcode has no varnodes and no sizes
past_last : (n : ℕ) → last_opcode < n → row_of n opcodes ≡ (n, 0, 0, none)
unfolding opcodes
past_last n h = no_row n last_opcode most_inputs opcodes refl h

past_outputs : (n : ℕ) → last_opcode < n → outputs n ≡ 0
unfolding outputs
past_outputs n h = ap (λ row. row.1) (past_last n h)

past_inputs : (n : ℕ) → last_opcode < n → inputs n ≡ 0
unfolding inputs
past_inputs n h = ap (λ row. row.2) (past_last n h)

past_place : (place k : ℕ) → last_opcode < k → has_place k place ≡ false
unfolding has_place
past_place place k h = rw (past_outputs k h, past_inputs k h) (by place)
  where
    by : (p : ℕ) → cond (eqb p 0) (leb 1 0) (leb p 0) ≡ false
    by zero = refl
    by (suc p) = rw (ne_eqb (suc p) 0 (λ e. omega arith), lt-leb (suc p) 0 (omega arith)) refl

-- no operation has more inputs
pub no_place : (k place : ℕ) → most_inputs < place → has_place k place ≡ false
unfolding has_place inputs opcodes
no_place k place h =
    let few = few_inputs k last_opcode most_inputs opcodes refl in
    rw (ne_eqb place 0 (λ e. omega arith)) (lt-leb place (inputs k) (omega (arith, few)))

-- ---- sets of opcodes

flag_one : (t : Bool) → eqb (flag t) 1 ≡ t
unfolding flag
flag_one true = refl
flag_one false = refl

-- a bit that counts more than the number
pub no_bit : (v k n : ℕ) → v < 2 ^ n → n ≤ k → digit 2 v k ≡ 0
unfolding digit
no_bit v k n small h = rw (div-eq_of_lt (lt_of_lt_of_le small (pow-le-pow_right {n = 2} (lit< tt) h))) refl

-- two tables of the same numbers
same_tables : (f g : ℕ → ℕ) (n : ℕ) → tabulate n f ≡ tabulate n g → (k : ℕ) → k < n → f k ≡ g k
same_tables f g n same k h = sym (tabulate_at n f k h) ∙ ap (λ (l : List ℕ). get_or l k 0) same ∙ tabulate_at n g k h

-- what is told by the bits of a set
set_tells : (set : ℕ) (g : ℕ → Bool) → set < 2 ^ 64 → ((k : ℕ) → last_opcode < k → g k ≡ false)
    → tabulate 64 (λ k. digit 2 set k) ≡ tabulate 64 (λ k. flag (g k)) → (k : ℕ) → eqb (digit 2 set k) 1 ≡ g k
set_tells set g small past same k = by (ltb k 64) refl
  where
    by : (t : Bool) → ltb k 64 ≡ t → eqb (digit 2 set k) 1 ≡ g k
    by true e = rw (same_tables (λ n. digit 2 set n) (λ n. flag (g n)) 64 same k (ltb-true k 64 e)) (flag_one (g k))
    by false e = let h = ltb-false k 64 e in rw (past k (omega arith), no_bit set k 64 small h) refl

-- the operations that have a varnode at a place
set_place : (set place : ℕ) → set < 2 ^ 64 → tabulate 64 (λ k. digit 2 set k) ≡ tabulate 64 (λ k. flag (has_place k place))
    → (k : ℕ) → eqb (digit 2 set k) 1 ≡ has_place k place
set_place set place small same = set_tells set (λ k. has_place k place) small (past_place place) same

abbrev with_output_set : ℕ
with_output_set = 0x7fffffffc06

pub with_output : (k : ℕ) → eqb (digit 2 with_output_set k) 1 ≡ has_place k 0
unfolding has_place outputs inputs row_of opcodes flag tabulate digit
with_output = set_place with_output_set 0 (lit< tt) refl

abbrev with_input0_set : ℕ
with_input0_set = 0x7fffffffffe

pub with_input0 : (k : ℕ) → eqb (digit 2 with_input0_set k) 1 ≡ has_place k 1
unfolding has_place outputs inputs row_of opcodes flag tabulate digit
with_input0 = set_place with_input0_set 1 (lit< tt) refl

abbrev with_input1_set : ℕ
with_input1_set = 0x77ff3e7ec2c

pub with_input1 : (k : ℕ) → eqb (digit 2 with_input1_set k) 1 ≡ has_place k 2
unfolding has_place outputs inputs row_of opcodes flag tabulate digit
with_input1 = set_place with_input1_set 2 (lit< tt) refl

abbrev with_input2_set : ℕ
with_input2_set = 0x8

pub with_input2 : (k : ℕ) → eqb (digit 2 with_input2_set k) 1 ≡ has_place k 3
unfolding has_place outputs inputs row_of opcodes flag tabulate digit
with_input2 = set_place with_input2_set 3 (lit< tt) refl

-- ---- the sentences of rule 25

-- each sentence has a number
unfoldable pub number_of : Sizes → ℕ
number_of kept = 0
number_of equal = 1
number_of compared = 2
number_of extended = 3
number_of boolean = 4
number_of negated = 5
number_of joined = 6
number_of pointer = 7
number_of indirect = 8
number_of condition = 9
number_of free = 10
number_of none = 11

-- two sentences are one
unfoldable pub is : Sizes → Sizes → Bool
is s t = eqb (number_of s) (number_of t)

-- the operations of a sentence
set_sizes : (set : ℕ) (s : Sizes) → set < 2 ^ 64 → is none s ≡ false
    → tabulate 64 (λ k. digit 2 set k) ≡ tabulate 64 (λ k. flag (is (sizes_of k) s)) → (k : ℕ) → eqb (digit 2 set k) 1 ≡ is (sizes_of k) s
unfolding sizes_of
set_sizes set s small other same =
    set_tells set (λ k. is (sizes_of k) s) small (λ k h. ap (λ (row : ℕ × ℕ × ℕ × Sizes). is row.3 s) (past_last k h) ∙ other) same

abbrev kept_set : ℕ
kept_set = 0x38c000002

pub kept-set : (k : ℕ) → eqb (digit 2 kept_set k) 1 ≡ is (sizes_of k) kept
unfolding sizes_of row_of opcodes is number_of flag tabulate digit
kept-set = set_sizes kept_set kept (lit< tt) refl refl

abbrev equal_set : ℕ
equal_set = 0x7c70600000

pub equal-set : (k : ℕ) → eqb (digit 2 equal_set k) 1 ≡ is (sizes_of k) equal
unfolding sizes_of row_of opcodes is number_of flag tabulate digit
equal-set = set_sizes equal_set equal (lit< tt) refl refl

abbrev compared_set : ℕ
compared_set = 0x387e000

pub compared-set : (k : ℕ) → eqb (digit 2 compared_set k) 1 ≡ is (sizes_of k) compared
unfolding sizes_of row_of opcodes is number_of flag tabulate digit
compared-set = set_sizes compared_set compared (lit< tt) refl refl

abbrev extended_set : ℕ
extended_set = 0x180000

pub extended-set : (k : ℕ) → eqb (digit 2 extended_set k) 1 ≡ is (sizes_of k) extended
unfolding sizes_of row_of opcodes is number_of flag tabulate digit
extended-set = set_sizes extended_set extended (lit< tt) refl refl

abbrev boolean_set : ℕ
boolean_set = 0x70000000000

pub boolean-set : (k : ℕ) → eqb (digit 2 boolean_set k) 1 ≡ is (sizes_of k) boolean
unfolding sizes_of row_of opcodes is number_of flag tabulate digit
boolean-set = set_sizes boolean_set boolean (lit< tt) refl refl

abbrev negated_set : ℕ
negated_set = 0x8000000000

pub negated-set : (k : ℕ) → eqb (digit 2 negated_set k) 1 ≡ is (sizes_of k) negated
unfolding sizes_of row_of opcodes is number_of flag tabulate digit
negated-set = set_sizes negated_set negated (lit< tt) refl refl

abbrev joined_set : ℕ
joined_set = 0x400

pub joined-set : (k : ℕ) → eqb (digit 2 joined_set k) 1 ≡ is (sizes_of k) joined
unfolding sizes_of row_of opcodes is number_of flag tabulate digit
joined-set = set_sizes joined_set joined (lit< tt) refl refl

abbrev pointer_set : ℕ
pointer_set = 0xc

pub pointer-set : (k : ℕ) → eqb (digit 2 pointer_set k) 1 ≡ is (sizes_of k) pointer
unfolding sizes_of row_of opcodes is number_of flag tabulate digit
pointer-set = set_sizes pointer_set pointer (lit< tt) refl refl

abbrev indirect_set : ℕ
indirect_set = 0x340

pub indirect-set : (k : ℕ) → eqb (digit 2 indirect_set k) 1 ≡ is (sizes_of k) indirect
unfolding sizes_of row_of opcodes is number_of flag tabulate digit
indirect-set = set_sizes indirect_set indirect (lit< tt) refl refl

abbrev condition_set : ℕ
condition_set = 0x20

pub condition-set : (k : ℕ) → eqb (digit 2 condition_set k) 1 ≡ is (sizes_of k) condition
unfolding sizes_of row_of opcodes is number_of flag tabulate digit
condition-set = set_sizes condition_set condition (lit< tt) refl refl

abbrev free_set : ℕ
free_set = 0x1890

pub free-set : (k : ℕ) → eqb (digit 2 free_set k) 1 ≡ is (sizes_of k) free
unfolding sizes_of row_of opcodes is number_of flag tabulate digit
free-set = set_sizes free_set free (lit< tt) refl refl

-- from the first integer operation on they have an output and an input0
pub data_shape : (n : ℕ) → first_integer ≤ n → n ≤ last_opcode → (has_place n 0 ≡ true) × (has_place n 1 ≡ true)
unfolding tabulate flag has_place outputs inputs row_of opcodes
data_shape n low high =
    let f : flag (has_place n 0 && has_place n 1) ≡ 1 =
    same_tables (λ k. flag (has_place k 0 && has_place k 1)) (λ k. cond (leb first_integer k) 1 (flag (has_place k 0 && has_place k 1))) (suc last_opcode) refl n (omega arith)
    ∙ rw (le-leb first_integer n low) refl in
    both (has_place n 0) (has_place n 1) (sym (flag_one (has_place n 0 && has_place n 1)) ∙ rw f refl)
