-- What the operands of an operation satisfy, by the sentence of rule 25 that its opcode falls under.
use Prim.Native.Nat.{ℕ, ◌+◌, ◌*◌, ◌^◌, ◌≤◌, ◌<◌}
use mathlib.Core.Bool.{Bool, true, cond, ◌&&◌}
use mathlib.Core.Path.{◌≡◌, refl, sym, subst, ap, ◌∙◌}
use native.Mathlib.Omega.{arith}
use native.Mathlib.Nat.{lt_of_lt_of_le}
use borrow.Author.Tests.{eqb-true}
use lib.Dec.{eqb, ltb}
use Rattle.word.proofs.Powers.{size_most}
use Rattle.integer.proofs.Booleans.{both}
use Rattle.integer.proofs.Whole.{piece_lt}
use Rattle.arithmetic.specs.Opcodes.{Sizes, kept, equal, compared, extended, boolean, negated, joined, pointer, indirect, condition, free, none}
use Rattle.arithmetic.specs.Operands.{divides, agree, sizes_agree, Operands}
use Rattle.arithmetic.proofs.Table.{number_of, is}

-- a test by a set, as a fact of the opcode
pub tested : {r x y t : Bool} → r ≡ x → x ≡ y → r ≡ t → y ≡ t
tested a b c = sym b ∙ sym a ∙ c

-- rule 25 as the code goes through it
pub by_sentence : (s : Sizes) (A size size0 size1 : ℕ)
    → cond (is s kept) (eqb size0 size)
    (cond (is s equal) (eqb size0 size && eqb size1 size)
    (cond (is s compared) (eqb size1 size0 && eqb size 1)
    (cond (is s extended) (ltb size0 size)
    (cond (is s boolean) (eqb size0 1 && eqb size1 1 && eqb size 1)
    (cond (is s negated) (eqb size0 1 && eqb size 1)
    (cond (is s joined) (eqb (size0 + size1) size)
    (cond (is s pointer) (eqb size1 A)
    (cond (is s indirect) (eqb size0 A)
    (cond (is s condition) (eqb size1 1)
    (is s free)))))))))) ≡ agree s A size size0 size1
unfolding agree is number_of
by_sentence kept A size size0 size1 = refl
by_sentence equal A size size0 size1 = refl
by_sentence compared A size size0 size1 = refl
by_sentence extended A size size0 size1 = refl
by_sentence boolean A size size0 size1 = refl
by_sentence negated A size size0 size1 = refl
by_sentence joined A size size0 size1 = refl
by_sentence pointer A size size0 size1 = refl
by_sentence indirect A size size0 size1 = refl
by_sentence condition A size size0 size1 = refl
by_sentence free A size size0 size1 = refl
by_sentence none A size size0 size1 = refl

module _ {opcode size size0 size1 a b : ℕ} (o : Operands opcode size size0 size1 a b) where
  -- rule 25 at the opcode's number
  pub agreed : (k : ℕ) → opcode ≡ k → sizes_agree o.address_size k size size0 size1 ≡ true
  agreed k e = subst (λ (n : ℕ). sizes_agree o.address_size n size size0 size1 ≡ true) e o.sizes

  pub nonzero : (k : ℕ) → opcode ≡ k → divides k ≡ true → 0 < b
  nonzero k e d = o.divisor (ap divides e ∙ d)

  -- PIECE: inputs add up to output
  pub halves_fit : eqb (size0 + size1) size ≡ true → (size1 < 8) × (a * 256 ^ size1 + b < 2 ^ 64)
  halves_fit t =
      let e : size0 + size1 ≡ size = eqb-true _ _ t in
      let h0 : 1 ≤ size0 = o.some0 in
      let h : size ≤ 8 = o.most in
      (omega arith, lt_of_lt_of_le (piece_lt size size0 size1 a b e o.below0 o.below1) (size_most size h))

  -- input0 = output
  pub size_kept : eqb size0 size ≡ true → a < 256 ^ size
  size_kept t = rw (← (eqb-true size0 size t)) o.below0

  -- all three equal
  pub all_equal : eqb size0 size && eqb size1 size ≡ true → (a < 256 ^ size) × (b < 256 ^ size)
  all_equal t =
      let e = both (eqb size0 size) (eqb size1 size) t in
      (size_kept e.0, subst (λ (n : ℕ). b < 256 ^ n) (eqb-true size1 size e.1) o.below1)

  -- inputs equal
  pub inputs_equal : eqb size1 size0 && eqb size 1 ≡ true → b < 256 ^ size0
  inputs_equal t = subst (λ (n : ℕ). b < 256 ^ n) (eqb-true size1 size0 (both (eqb size1 size0) (eqb size 1) t).0) o.below1
