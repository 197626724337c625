-- Labels as numbers: what the code makes of them has the labels that the exact conditions tell.
use Prim.Native.Nat.{ℕ, ◌+◌, ◌-◌, ◌*◌, ◌/◌, ◌%◌, ◌^◌, ◌≤◌, ◌<◌}
use native.Mathlib.Omega.{arith}
use native.Mathlib.Nat.{mod-lt, lt_of_lt_of_le}
use mathlib.Core.Path.{◌≡◌, refl, sym, ap, subst, ◌∙◌}
use mathlib.Core.Bool.{Bool, true, false, cond, not, ◌&&◌, ◌||◌, true≢false}
use mathlib.Core.List.{List, [], ◌∷◌}
use borrow.Author.Tests.{ltb-true, ltb-false, eqb-true, ne_eqb, not-false}
use lib.Dec.{eqb, ltb}
use lib.ListN.{length, get_or}
use Rattle.word.specs.Sum.{tabulate, digit}
use Rattle.word.specs.Word.{significance, value_of, bytes_of}
use Rattle.word.proofs.Sums.{tabulate_at, tabulate_is}
use Rattle.word.proofs.Laws.{significance_lt, significance_twice, bytes-length, bytes_at_lem}
use Rattle.word.proofs.Tests.{by_cond}
use Rattle.word.proofs.Powers.{pow_bits, size_pos, size_most, shifted_low}
use Rattle.word.proofs.Shifts.{digit_past, digit_top, digit-mod, digit-div, digit_joined}
use Rattle.integer.specs.Operations.{flag, piece, subpiece}
use Rattle.integer.proofs.Whole.{piece_lt}
use Rattle.integer.proofs.Booleans.{or_false}
use Rattle.arithmetic.specs.Opcodes.{first_integer, most_inputs, member, opcodes, row_of, outputs, inputs, sizes_of, has_place}
use Rattle.arithmetic.specs.Operands.{agree, sizes_agree}
use Rattle.operation.specs.declared.layout.Varnode.{Varnode}
use Rattle.operation.specs.Layout.{opcode_at, varnode_at, absent}
use Rattle.operation.specs.Rules.{breaks_size}
use Rattle.machine.specs.Memory.{Memory, OfBytes, bytes_at}
use Rattle.machine.specs.Effect.{Operation, operation_at, pointee}
use Rattle.machine.specs.Conditions.{has_secret, destination_bytes, label_of, label_joined, label_extended, moving, label_moved, becomes_secret, label_written, exact_labels}
use Rattle.machine.proofs.Cases.{either_equal}
use Rattle.machine.proofs.Conditions.{when, no_move, larger}
use Rattle.machine.proofs.Moves.{bytes_count}
use Rattle.machine.proofs.Labels.{label_either, label_in_memory, word_fits, word_bytes}
use Rattle.run_memory.specs.Placed.{Placed}
use Rattle.run_plan.proofs.Opcodes.{late_no_branch}
use Rattle.run_taint.specs.Taint.{Readable, MovesBytes, LabelWord, WordOf, MovedWord, source_of}
use Rattle.run_taint.proofs.Tainting.{place}

-- ---- INT_SEXT of a word

module _ (size0 a : ℕ) (some : 1 ≤ size0) (most : size0 < 8) (below : a < 256 ^ size0) where
  abbrev top : ℕ
  top = a / 2 ^ (8 * (size0 - 1))

  top_is : top ≡ digit 256 a (size0 - 1)
  top_is = ap (λ (n : ℕ). a / n) (sym (pow_bits (size0 - 1))) ∙ sym (digit_top size0 a some below)

  pub top_small : top < 256
  unfolding digit
  top_small = rw top_is (mod-lt (a / 256 ^ (size0 - 1)) (omega arith))

  module _ (each : ℕ) (same : (k : ℕ) → k < 8 → digit 256 each k ≡ top) where
    -- what a shift leaves of it
    abbrev fill : ℕ
    fill = each % 256 ^ (8 - size0)

    shifted : each * 2 ^ (8 * size0) % 2 ^ 64 ≡ fill * 256 ^ size0
    shifted = shifted_low each size0 (omega arith)

    pub extended_fits : each * 2 ^ (8 * size0) % 2 ^ 64 + a < 2 ^ 64
    extended_fits =
        rw shifted (piece_lt 8 (8 - size0) size0 fill a (omega arith) (mod-lt each (size_pos (8 - size0))) below)

    pub extended_digits : (k : ℕ) → k < 8 → digit 256 (each * 2 ^ (8 * size0) % 2 ^ 64 + a) k ≡ cond (ltb k size0) (digit 256 a k) (digit 256 a (size0 - 1))
    extended_digits k h = rw shifted (digit_joined size0 fill a below k ∙ by (ltb k size0) refl)
      where
        by : (t : Bool) → ltb k size0 ≡ t → cond t (digit 256 a k) (digit 256 fill (k - size0)) ≡ cond t (digit 256 a k) (digit 256 a (size0 - 1))
        by true q = refl
        by false q =
            let l : k - size0 < 8 - size0 = omega (arith, ltb-false k size0 q) in
            digit-mod each (8 - size0) (k - size0) l ∙ same (k - size0) (omega arith) ∙ top_is

-- ---- what a move reads

module _ (op : Operation) (offset : ℕ) where
  pub source_loaded : eqb op.opcode 2 ≡ true → pointee op offset op.output.size ≡ source_of op offset
  unfolding source_of
  source_loaded e = rw e refl

  pub source_stored : eqb op.opcode 2 ≡ false → eqb op.opcode 3 ≡ true → op.input2 ≡ source_of op offset
  unfolding source_of
  source_stored n e = rw (n, e) refl

  pub source_other : eqb op.opcode 2 ≡ false → eqb op.opcode 3 ≡ false → op.input0 ≡ source_of op offset
  unfolding source_of
  source_other n e = rw (n, e) refl

-- ---- the label word of an operation

-- a list of labels told byte by byte, in memory order
told_are : (big : Bool) (labels : Memory) (op : Operation) (offset size : ℕ) (ls : List ℕ) → length ls ≡ size
    → ((i : ℕ) → i < size → get_or ls i 0 ≡ label_written big labels op offset (significance big size i)) → ls ≡ exact_labels big labels op offset size
unfolding exact_labels
told_are big labels op offset size ls c h =
    sym (tabulate_is size (λ i. label_written big labels op offset (significance big size i)) ls c (λ i l. sym (h i l)))

module _ (big : Bool) (labels : Memory) (op : Operation) (offset : ℕ) (e : member op.opcode moving ≡ true) where
  told : (k : ℕ) → label_moved big labels op offset k ≡ label_written big labels op offset k
  unfolding label_written
  told k = rw e refl

  -- COPY, LOAD, STORE: that of what is read, byte by byte
  label_read : op.opcode < first_integer → (k : ℕ) → label_of big labels (source_of op offset) k ≡ label_moved big labels op offset k
  unfolding label_moved source_of
  label_read early k =
      rw (ne_eqb op.opcode 10 (λ z. omega arith), ne_eqb op.opcode 11 (λ z. omega arith), ne_eqb op.opcode 20 (λ z. omega arith))
      (by (eqb op.opcode 2) (eqb op.opcode 3))
    where
      by : (t u : Bool) → label_of big labels (cond t (pointee op offset op.output.size) (cond u op.input2 op.input0)) k
          ≡ cond t (label_of big labels (pointee op offset op.output.size) k) (cond u (label_of big labels op.input2 k) (label_of big labels op.input0 k))
      by true u = refl
      by false true = refl
      by false false = refl

  word_read : OfBytes labels → op.opcode < first_integer → (v : Varnode) → v ≡ source_of op offset → (destination_bytes op offset).size ≡ v.size
      → (r : ℕ) → r ≡ value_of false (bytes_at labels v) → LabelWord big labels op offset r
  word_read bytes early v ev es r er =
      rw (es, er, word_bytes labels v bytes)
      (told_are big labels op offset v.size (bytes_at labels v) (bytes_count labels v)
      (λ i l. sym (label_in_memory big labels v i l) ∙ ap (λ (u : Varnode). label_of big labels u (significance big v.size i)) ev ∙ label_read early _ ∙ told _))

  -- PIECE, SUBPIECE, INT_ZEXT, INT_SEXT: laid out in the byte order
  pub word_moved : first_integer ≤ op.opcode → (word : ℕ) → MovedWord big labels op word
      → (r : ℕ) → ((k : ℕ) → k < op.output.size → digit 256 r k ≡ digit 256 word (significance big op.output.size k)) → LabelWord big labels op offset r
  unfolding destination_bytes significance
  word_moved late word h r er =
      let size : ℕ = op.output.size in
      rw (ne_eqb op.opcode 3 (λ z. omega arith))
      (told_are big labels op offset size (bytes_of false size r) (bytes-length false size r)
      (λ i l. bytes_at_lem false size r i l ∙ er i l ∙ h offset (significance big size i) (significance_lt big size i l) ∙ told _))

-- the labels of a varnode, by significance
module _ (big : Bool) (labels : Memory) (v : Varnode) where
  pub word_ordered : OfBytes labels → (n : ℕ) → n ≡ value_of false (bytes_at labels v)
      → (r : ℕ) → ((k : ℕ) → k < v.size → digit 256 r k ≡ digit 256 n (significance big v.size k)) → (n < 256 ^ v.size → r < 256 ^ v.size) → WordOf big labels v r
  unfolding significance
  word_ordered bytes n en r er below = record { bytes = at; below = below (rw en (word_fits labels v bytes)) }
    where
      at : (k : ℕ) → k < v.size → digit 256 r k ≡ label_of big labels v k
      at k l =
          let place : ℕ = significance big v.size k in
          let inside : place < v.size = significance_lt big v.size k l in
          er k l ∙ sym (bytes_at_lem false v.size n place inside)
          ∙ ap (λ (bs : List ℕ). get_or bs place 0) (ap (bytes_of false v.size) en ∙ word_bytes labels v bytes)
          ∙ sym (label_in_memory big labels v place inside) ∙ ap (label_of big labels v) (significance_twice big v.size k l)

  -- above it there is nothing, as above the varnode
  word_label : (word : ℕ) → WordOf big labels v word → (k : ℕ) → digit 256 word k ≡ label_of big labels v k
  unfolding label_of
  word_label word w k = by (ltb k v.size) refl
    where
      by : (t : Bool) → ltb k v.size ≡ t → digit 256 word k ≡ label_of big labels v k
      by true e = w.bytes k (ltb-true k v.size e)
      by false e = digit_past v.size word k w.below (ltb-false k v.size e) ∙ rw e (sym (either_equal (eqb v.space 1) refl refl))

-- ---- operations that compute

pub flag_small : (t : Bool) → flag t < 256
unfolding flag
flag_small true = omega arith
flag_small false = omega arith

pub late_no_move : (n : ℕ) → 20 < n → member n moving ≡ false
unfolding member
late_no_move n l =
    rw (
      ne_eqb n 1 (λ e. omega arith),
      ne_eqb n 2 (λ e. omega arith),
      ne_eqb n 3 (λ e. omega arith),
      ne_eqb n 10 (λ e. omega arith),
      ne_eqb n 11 (λ e. omega arith),
      ne_eqb n 19 (λ e. omega arith),
      ne_eqb n 20 (λ e. omega arith),
    )
    refl

-- the same label for each byte
pub word_whole : (big : Bool) (labels : Memory) (op : Operation) (offset : ℕ) → member op.opcode moving ≡ false → (destination_bytes op offset).size ≤ 8
    → (s0 s1 : Bool) → s0 ≡ has_secret labels op.input0 → s1 ≡ has_secret labels op.input1
    → (r : ℕ) → ((k : ℕ) → k < 8 → digit 256 r k ≡ flag (s0 || s1)) → LabelWord big labels op offset r
unfolding label_written becomes_secret significance
word_whole big labels op offset e most s0 s1 e0 e1 r h =
    let n = no_move op.opcode e in
    told_are big labels op offset (destination_bytes op offset).size (bytes_of false (destination_bytes op offset).size r) (bytes-length false _ r)
    (λ i l. bytes_at_lem false (destination_bytes op offset).size r i l ∙ h i (omega arith) ∙ rw (e0, e1, e, n.1, n.2, or_false) refl)

-- ---- what the code relies on at an operation that writes

-- below the integer operations nothing else writes
other_output : ℕ → ℕ
other_output n = flag (has_place n 0 && not (member n moving))

no_other_output : (n : ℕ) → n < first_integer → other_output n ≡ 0
unfolding other_output has_place outputs inputs row_of opcodes member flag tabulate
no_other_output n l =
    let table : tabulate first_integer other_output ≡ tabulate first_integer (λ k. 0) = refl in
    sym (tabulate_at first_integer other_output n l) ∙ ap (λ (t : List ℕ). get_or t n 0) table ∙ tabulate_at first_integer (λ k. 0) n l

early_no_output : (n : ℕ) → n < first_integer → member n moving ≡ false → has_place n 0 ≡ false
unfolding other_output flag
early_no_output n l e = by (has_place n 0) refl
  where
    by : (t : Bool) → has_place n 0 ≡ t → t ≡ false
    by true q = absurd (let z : ◌≡◌ {A = ℕ} 1 0 = rw (q, e) at (no_other_output n l) in omega arith)
    by false q = refl

module _ (labels : Memory) (list : List ℕ) (i offset : ℕ) (pre : Readable labels list i offset) where
  pub place_source : (v : Varnode) → v ≡ source_of (operation_at list i) offset → Placed labels v
  unfolding source_of operation_at
  place_source v e =
      rw e
      (by_cond (Placed labels) (eqb (opcode_at list i) 2) _ _ (λ t. pre.loaded t)
      (λ f. by_cond (Placed labels) (eqb (opcode_at list i) 3) _ _
      (λ t. place labels list pre.valid i pre.index 3 (omega arith) (λ z. absurd (omega arith)))
      (λ g. place labels list pre.valid i pre.index 1 (omega arith) (λ z. pre.no_branch))))

  pub place_input : (k : ℕ) → k ≤ most_inputs → Placed labels (varnode_at list i k)
  place_input k l = place labels list pre.valid i pre.index k l (λ z. pre.no_branch)

  -- COPY keeps the size, by rule 25, and LOAD and STORE read as much as they write
  sizes_kept : opcode_at list i ≡ 1 → (varnode_at list i 1).size ≡ (varnode_at list i 0).size
  unfolding breaks_size sizes_agree agree sizes_of row_of opcodes
  sizes_kept e = eqb-true _ _ (not-false _ (rw e at (pre.valid.operations i pre.index).sized))

  same_size : member (opcode_at list i) moving ≡ true → opcode_at list i < first_integer → (v : Varnode) → v ≡ source_of (operation_at list i) offset
      → (destination_bytes (operation_at list i) offset).size ≡ v.size
  unfolding member destination_bytes source_of operation_at pointee
  same_size e early v ev =
      rw ev
      (when (opcode_at list i) 1 (λ o. rw o (sym (sizes_kept o))) (λ n1.
      when (opcode_at list i) 2 (λ o. rw o refl) (λ n2.
      when (opcode_at list i) 3 (λ o. rw o refl) (λ n3.
      absurd (true≢false (sym (rw (
        n1,
        n2,
        n3,
        ne_eqb (opcode_at list i) 10 (λ z. omega arith),
        ne_eqb (opcode_at list i) 11 (λ z. omega arith),
        ne_eqb (opcode_at list i) 19 (λ z. omega arith),
        ne_eqb (opcode_at list i) 20 (λ z. omega arith),
      ) at e)))))))

  nothing_else : member (opcode_at list i) moving ≡ false → opcode_at list i < first_integer → (destination_bytes (operation_at list i) offset).size ≡ 0
  unfolding destination_bytes operation_at absent
  nothing_else e early =
      rw (no_move (opcode_at list i) e).2 (rw ((pre.valid.operations i pre.index).omitted 0 (omega arith) (early_no_output (opcode_at list i) early e)) refl)

  pub word_early : (big : Bool) → OfBytes labels → opcode_at list i < first_integer → (v : Varnode) → v ≡ source_of (operation_at list i) offset
      → (r : ℕ) → r ≡ value_of false (bytes_at labels v) → LabelWord big labels (operation_at list i) offset r
  unfolding operation_at bytes_of exact_labels tabulate
  word_early big bytes early v ev r er = by (member (opcode_at list i) moving) refl
    where
      by : (t : Bool) → member (opcode_at list i) moving ≡ t → LabelWord big labels (operation_at list i) offset r
      by true e = word_read big labels (operation_at list i) offset e bytes early v ev (same_size e early v ev) r er
      by false e = rw (nothing_else e early) refl

  pub moves_bytes : first_integer ≤ opcode_at list i → member (opcode_at list i) moving ≡ true → MovesBytes labels list i
  moves_bytes l e = record { valid = pre.valid; index = pre.index; integer = l; moves = e }

  pub whole_most : member (opcode_at list i) moving ≡ false → (destination_bytes (operation_at list i) offset).size ≤ 8
  unfolding destination_bytes operation_at
  whole_most e = rw (no_move (opcode_at list i) e).2 (place_input 0 (omega arith)).size

-- ---- PIECE, SUBPIECE, INT_ZEXT, INT_SEXT

-- the integer operations that move bytes, one by one
pub late_moves : (n : ℕ) → first_integer ≤ n → member n moving ≡ member n (10 ∷ 11 ∷ 19 ∷ 20 ∷ [])
unfolding member
late_moves n l = rw (ne_eqb n 1 (λ e. omega arith), ne_eqb n 2 (λ e. omega arith), ne_eqb n 3 (λ e. omega arith)) refl

-- the four tests in a row
or_right : (a b c d : Bool) → ((a || b) || c) || d ≡ a || (b || (c || (d || false)))
or_right true b c d = refl
or_right false true c d = refl
or_right false false true d = refl
or_right false false false true = refl
or_right false false false false = refl

pub late_tests : (n : ℕ) → first_integer ≤ n → ((eqb n 10 || eqb n 11) || eqb n 19) || eqb n 20 ≡ member n moving
unfolding member
late_tests n l = rw (late_moves n l) (or_right (eqb n 10) (eqb n 11) (eqb n 19) (eqb n 20))

each_late_move : (P : ℕ → Type 0) → P 10 → P 11 → P 19 → P 20 → (n : ℕ) → first_integer ≤ n → member n moving ≡ true → P n
unfolding member
each_late_move P p10 p11 p19 p20 n l e =
    when n 10 (λ q. subst P (sym q) p10) (λ n10. when n 11 (λ q. subst P (sym q) p11) (λ n11. when n 19 (λ q. subst P (sym q) p19) (λ n19. when n 20 (λ q. subst P (sym q) p20) (λ n20.
    absurd (true≢false (sym e ∙ late_moves n l ∙ rw (n10, n11, n19, n20) refl))))))

module _ (labels : Memory) (list : List ℕ) (i : ℕ) (pre : MovesBytes labels list i) where
  pub place_moved : (k : ℕ) → k ≤ most_inputs → Placed labels (varnode_at list i k)
  place_moved k l = place labels list pre.valid i pre.index k l (λ z. late_no_branch (opcode_at list i) pre.integer)

  some : (k : ℕ) → k ≤ most_inputs → has_place (opcode_at list i) k ≡ true → 1 ≤ (varnode_at list i k).size
  some k l h = ((pre.valid.operations i pre.index).present k l h).2

  pub some_output : 1 ≤ (varnode_at list i 0).size
  unfolding has_place outputs inputs row_of opcodes
  some_output = some 0 (omega arith) (each_late_move (λ n. has_place n 0 ≡ true) refl refl refl refl (opcode_at list i) pre.integer pre.moves)

  pub some_input0 : 1 ≤ (varnode_at list i 1).size
  unfolding has_place outputs inputs row_of opcodes
  some_input0 = some 1 (omega arith) (each_late_move (λ n. has_place n 1 ≡ true) refl refl refl refl (opcode_at list i) pre.integer pre.moves)

  pub some_input1 : opcode_at list i ≡ 10 → 1 ≤ (varnode_at list i 2).size
  unfolding has_place outputs inputs row_of opcodes
  some_input1 e = some 2 (omega arith) (rw e refl)

  -- rule 25
  sizes_joined : opcode_at list i ≡ 10 → (varnode_at list i 1).size + (varnode_at list i 2).size ≡ (varnode_at list i 0).size
  unfolding breaks_size sizes_agree agree sizes_of row_of opcodes
  sizes_joined e = eqb-true _ _ (not-false _ (rw e at (pre.valid.operations i pre.index).sized))

  pub size_extended : opcode_at list i ≡ 20 → (varnode_at list i 1).size < 8
  size_extended e =
      let most = (place_moved 0 (omega arith)).size in
      let l = larger _ _ _ _ _ e (pre.valid.operations i pre.index).sized in
      omega arith

  -- none of them looks at the byte offset
  late_label : (big : Bool) (b k : ℕ) → label_moved big labels (operation_at list i) b k
      ≡ cond (eqb (opcode_at list i) 10) (label_joined big labels (operation_at list i) k)
      (cond (eqb (opcode_at list i) 11) (label_of big labels (varnode_at list i 1) ((varnode_at list i 2).offset + k))
      (cond (eqb (opcode_at list i) 20) (label_extended big labels (operation_at list i) k)
      (label_of big labels (varnode_at list i 1) k)))
  unfolding label_moved operation_at
  late_label big b k = let l = pre.integer in rw (ne_eqb (opcode_at list i) 2 (λ z. omega arith), ne_eqb (opcode_at list i) 3 (λ z. omega arith)) refl

  module _ (big : Bool) (a : ℕ) (wa : WordOf big labels (varnode_at list i 1) a) where
    label0 : (k : ℕ) → digit 256 a k ≡ label_of big labels (varnode_at list i 1) k
    label0 = word_label big labels (varnode_at list i 1) a wa

    module _ (e : opcode_at list i ≡ 10) (b : ℕ) (wb : WordOf big labels (varnode_at list i 2) b) where
      pub piece_fits : ((varnode_at list i 2).size < 8) × (a * 256 ^ (varnode_at list i 2).size + b < 2 ^ 64)
      piece_fits =
          let s = some_input0 in
          let j = sizes_joined e in
          let most = (place_moved 0 (omega arith)).size in
          (omega arith, lt_of_lt_of_le (piece_lt _ (varnode_at list i 1).size (varnode_at list i 2).size a b j wa.below wb.below) (size_most _ most))

      pub moved-piece : (r : ℕ) → r ≡ piece (varnode_at list i 2).size a b → MovedWord big labels (operation_at list i) r
      unfolding piece label_joined operation_at
      moved-piece r er o k h =
          ap (λ (x : ℕ). digit 256 x k) er ∙ digit_joined (varnode_at list i 2).size a b wb.below k
          ∙ rw (late_label big o k, e, word_label big labels (varnode_at list i 2) b wb k, label0 (k - (varnode_at list i 2).size)) refl

    pub moved-subpiece : opcode_at list i ≡ 11 → (r : ℕ) → r ≡ subpiece (varnode_at list i 0).size a (varnode_at list i 2).offset → MovedWord big labels (operation_at list i) r
    unfolding subpiece operation_at
    moved-subpiece e r er o k h =
        ap (λ (x : ℕ). digit 256 x k) er ∙ digit-mod (a / 256 ^ (varnode_at list i 2).offset) (varnode_at list i 0).size k h ∙ digit-div a (varnode_at list i 2).offset k
        ∙ label0 ((varnode_at list i 2).offset + k) ∙ sym (late_label big o k ∙ rw e refl)

    pub moved_extended : opcode_at list i ≡ 20
        → (r : ℕ) → ((k : ℕ) → k < 8 → digit 256 r k ≡ cond (ltb k (varnode_at list i 1).size) (digit 256 a k) (digit 256 a ((varnode_at list i 1).size - 1)))
        → MovedWord big labels (operation_at list i) r
    unfolding label_extended operation_at
    moved_extended e r er o k h =
        let most = (place_moved 0 (omega arith)).size in
        let size0 : ℕ = (varnode_at list i 1).size in
        let told : cond (ltb k size0) (digit 256 a k) (digit 256 a (size0 - 1)) ≡ label_of big labels (varnode_at list i 1) (cond (ltb k size0) k (size0 - 1)) =
        rw (label0 k, label0 (size0 - 1)) (sym (label_either big labels (varnode_at list i 1) (ltb k size0) k (size0 - 1))) in
        er k (omega arith) ∙ told ∙ sym (late_label big o k ∙ rw e refl)

    pub moved_whole : (opcode_at list i ≡ 10 → ⊥) → (opcode_at list i ≡ 11 → ⊥) → (opcode_at list i ≡ 20 → ⊥) → MovedWord big labels (operation_at list i) a
    moved_whole n10 n11 n20 o k h =
        label0 k ∙ sym (late_label big o k ∙ rw (ne_eqb (opcode_at list i) 10 n10, ne_eqb (opcode_at list i) 11 n11, ne_eqb (opcode_at list i) 20 n20) refl)
