-- A pointer and its byte offset, as the code computes it: a pointer past the space counts as the space's length.
use Rattle.std.proofs.Common.{◌≡◌, ℕ, ◌+◌, ◌*◌, ◌<◌, ◌≤◌, Bool, true, false, cond, eqb, ltb, leb, sym, refl, ◌∙◌, le_trans, mul-le-mul, mul-le-mul_left, arith, ltb-false, ltb-true, leb-true}
use borrow.Author.Tests.{lt-leb}
use Rattle.operation.specs.declared.layout.Varnode.{Varnode}
use Rattle.operation.specs.declared.layout.Settings.{Settings}
use Rattle.operation.specs.Layout.{wordsize_of}
use Rattle.operation.specs.Rules.{length_of}
use Rattle.validation.specs.Verdict.{most_bytes}
use Rattle.machine.specs.Memory.{Memory, lengths_of}
use Rattle.machine.specs.Effect.{Operation, byte_offset}
use Rattle.run_plan.specs.Plans.{Addressable}
use Rattle.run_plan.proofs.Places.{space_length}

-- ---- with a wordsize and a size of at least 1

module _ (pointer wordsize size length : ℕ) (w : 1 ≤ wordsize) (s : 1 ≤ size) where
  abbrev near : ℕ
  near = cond (ltb pointer length) pointer length

  -- nothing fits at the product of a pointer that is not before the space's end
  past : (x : ℕ) → length ≤ x → length < x * wordsize + size
  past x l = let p : x * 1 ≤ x * wordsize = mul-le-mul_left x w in omega arith

  near_fits : leb (near * wordsize + size) length ≡ leb (pointer * wordsize + size) length
  near_fits = by (ltb pointer length) refl
    where
      by : (t : Bool) → ltb pointer length ≡ t → leb (cond t pointer length * wordsize + size) length ≡ leb (pointer * wordsize + size) length
      by true e = refl
      by false e =
          lt-leb (length * wordsize + size) length (past length (omega arith))
          ∙ sym (lt-leb (pointer * wordsize + size) length (past pointer (ltb-false pointer length e)))

  near_is : leb (near * wordsize + size) length ≡ true → near * wordsize ≡ pointer * wordsize
  near_is = by (ltb pointer length) refl
    where
      by : (t : Bool) → ltb pointer length ≡ t → leb (cond t pointer length * wordsize + size) length ≡ true → cond t pointer length * wordsize ≡ pointer * wordsize
      by true e f = refl
      by false e f =
          let l = leb-true (length * wordsize + size) length f in
          let q = past length (omega arith) in
          absurd (let z : ⊥ = omega arith in z)

near_small : (pointer length : ℕ) → cond (ltb pointer length) pointer length ≤ length
near_small pointer length = by (ltb pointer length) refl
  where
    by : (t : Bool) → ltb pointer length ≡ t → cond t pointer length ≤ length
    by true e = let l = ltb-true pointer length e in omega arith
    by false e = omega arith

-- the product is small
pub product_small : (pointer length near wordsize : ℕ) → near ≡ cond (ltb pointer length) pointer length → length ≤ most_bytes → wordsize ≤ 8
    → near * wordsize ≤ most_bytes * 8
product_small pointer length near wordsize e l w = mul-le-mul (le_trans (rw e (near_small pointer length)) l) w

-- ---- as the code finds it: n is the opcode, and output, input0 and input2 are varnodes, that it decoded; `sized` is what is moved

module _ (settings : Settings) (m : Memory) (op : Operation) (h : Addressable settings m op) where
  -- what the code asks for its product
  pub may_multiply : (input0 : Varnode) → input0 ≡ op.input0 → (extent : ℕ) → extent ≡ length_of (lengths_of m) input0.offset
      → (extent ≤ most_bytes) × (wordsize_of settings.wordsizes input0.offset ≤ 8)
  may_multiply input0 e0 extent ee = (rw (ee, e0, space_length m op.input0.offset) h.extent, rw e0 h.wordsize.1)

  module _ (n : ℕ) (output input0 input2 sized : Varnode) (eo : n ≡ op.opcode)
      (e : output ≡ op.output) (e0 : input0 ≡ op.input0) (e2 : input2 ≡ op.input2) (es : sized ≡ cond (eqb n 2) output input2)
      (pointer extent offset : ℕ) (ee : extent ≡ length_of (lengths_of m) input0.offset)
      (en : offset ≡ cond (ltb pointer extent) pointer extent * wordsize_of settings.wordsizes input0.offset) where
    abbrev wordsize : ℕ
    wordsize = wordsize_of settings.wordsizes input0.offset

    some_wordsize : 1 ≤ wordsize
    some_wordsize = rw e0 h.wordsize.0

    some : 1 ≤ sized.size
    some = rw (es, eo, e, e2) h.some

    -- the bytes fit there exactly where they fit at the byte offset
    pub product_fits : leb (offset + sized.size) extent ≡ leb (byte_offset settings op pointer + sized.size) extent
    unfolding byte_offset
    product_fits = rw (en, near_fits pointer wordsize sized.size extent some_wordsize some, e0) refl

    -- and where they do it is the byte offset
    pub product_is : leb (offset + sized.size) extent ≡ true → offset ≡ byte_offset settings op pointer
    unfolding byte_offset
    product_is f = en ∙ near_is pointer wordsize sized.size extent some_wordsize some (rw en at f) ∙ rw e0 refl
