-- What the walk over a list finds: laws of the rules together, and of the first malformed operation.
use Prim.Native.Nat.{ℕ, zero, suc, ◌+◌, ◌-◌, ◌/◌, ◌%◌, ◌≤◌, ◌<◌}
use mathlib.Core.Bool.{Bool, true, false, cond, not, ◌&&◌, ◌||◌, xor}
use mathlib.Core.List.{List}
use mathlib.Core.Path.{◌≡◌, refl, sym, ap, ◌∙◌}
use native.Mathlib.Omega.{arith}
use borrow.Author.Tests.{leb-true, eq-eqb, ne_eqb, ltb-true, ltb-false}
use lib.Dec.{eqb, leb, ltb}
use Rattle.word.specs.Word.{is_size}
use Rattle.integer.proofs.Booleans.{both, or_true}
use Rattle.arithmetic.specs.Opcodes.{most_inputs}
use Rattle.operation.specs.declared.layout.Varnode.{Varnode}
use Rattle.operation.specs.Spaces.{Lengths}
use Rattle.std.specs.Prelude.{None, Some}
use Rattle.operation.specs.Layout.{operation_count, opcode_at, described_by, varnode_at}
use Rattle.operation.specs.Rules.{breaks_head, describes_varnode, breaks_shape, breaks_shape_at, breaks_place, breaks_range}
use Rattle.operation.specs.Decoding.{decoded}
use Rattle.validation.specs.Verdict.{first_malformed, malformed, any_below, any_place, lowest_rule, size_or_target}

-- ---- the first malformed operation

module _ (f : ℕ → ℕ) (n i : ℕ) where
  step : i < n → first_malformed f (n - i) i ≡ cond (eqb (f i) 0) (first_malformed f (n - (i + 1)) (i + 1)) (record { rule = f i; index = i })
  unfolding first_malformed
  step h = let e : n - i ≡ suc (n - (i + 1)) = omega arith in rw e

  pub first_skip : i < n → f i ≡ 0 → first_malformed f (n - i) i ≡ first_malformed f (n - (i + 1)) (i + 1)
  first_skip h z = step h ∙ simp (eq-eqb (f i) 0 z)

  first_hit : i < n → (f i ≡ 0 → ⊥) → first_malformed f (n - i) i ≡ record { rule = f i; index = i }
  first_hit h z = step h ∙ simp (ne_eqb (f i) 0 z)

  first_end : n ≤ i → first_malformed f (n - i) i ≡ record { rule = 0; index = i }
  unfolding first_malformed
  first_end h = let e : n - i ≡ 0 = omega arith in rw e

pub first_start : (f : ℕ → ℕ) (n : ℕ) → first_malformed f (n - 0) 0 ≡ first_malformed f n 0
first_start f n = let e : n - 0 ≡ n = omega arith in rw e

-- a walk that has come to operation i with no fault before it
module _ (a : ℕ) (lengths : Lengths) (list : List ℕ) (i : ℕ)
    (so_far : first_malformed (lowest_rule a lengths list) (operation_count list - i) i ≡ first_malformed (lowest_rule a lengths list) (operation_count list) 0) where
  pub left_at_end : i ≡ operation_count list → record { rule = 0; index = operation_count list } ≡ malformed a lengths list
  unfolding malformed
  left_at_end e =
      ap (λ (n : ℕ). record { rule = 0; index = n }) (sym e)
      ∙ sym (first_end (lowest_rule a lengths list) (operation_count list) i (omega (arith, e)))
      ∙ so_far

  pub left_at : (rule : ℕ) → rule ≡ lowest_rule a lengths list i → 0 < rule → i < operation_count list → record { rule = rule; index = i } ≡ malformed a lengths list
  unfolding malformed
  left_at rule e positive h =
      ap (λ (r : ℕ). record { rule = r; index = i }) e
      ∙ sym (first_hit (lowest_rule a lengths list) (operation_count list) i h (λ z. omega (arith, e, z)))
      ∙ so_far

-- ---- some place breaks a rule

pub any_none : (f : ℕ → Bool) → any_below 0 f ≡ false
unfolding any_below
any_none f = refl

any_more : (f : ℕ → Bool) (k : ℕ) → any_below (k + 1) f ≡ any_below k f || f k
unfolding any_below
any_more f k = let e : k + 1 ≡ suc k = omega arith in rw e

pub any_grows : (f : ℕ → Bool) (k : ℕ) {m q : Bool} → m ≡ any_below k f → q ≡ f k → m || q ≡ any_below (k + 1) f
any_grows f k em eq = rw (em, eq) (sym (any_more f k))

any_at : (f : ℕ → Bool) (n k : ℕ) → k < n → f k ≡ true → any_below n f ≡ true
unfolding any_below
any_at f zero k h e = absurd (let z : ⊥ = omega arith in z)
any_at f (suc n) k h e = by (ltb k n) refl (λ l. any_at f n k l e)
  where
    by : (t : Bool) → ltb k n ≡ t → (k < n → any_below n f ≡ true) → any_below n f || f n ≡ true
    by true l ih = rw (ih (ltb-true k n l))
    by false l ih = let last : k ≡ n = omega (arith, ltb-false k n l) in or_true (any_below n f) (f n) (rw last at e)

-- no place breaks a rule that none breaks
pub none_at : (f : ℕ → Bool) (n k : ℕ) → k < n → any_below n f ≡ false → f k ≡ false
none_at f n k h e = by (f k) refl
  where
    by : (t : Bool) → f k ≡ t → f k ≡ false
    by true t = let z = any_at f n k h t in cc
    by false t = t

-- ---- the lowest rule that operation i breaks

module _ (a : ℕ) (lengths : Lengths) (list : List ℕ) (i : ℕ) where
  pub at_head : breaks_head list i ≡ true → lowest_rule a lengths list i ≡ 21
  unfolding lowest_rule
  at_head h = rw h

  module _ (head : breaks_head list i ≡ false) where
    pub at_shape : (k : ℕ) → k < most_inputs + 1 → breaks_shape_at list i k ≡ true → lowest_rule a lengths list i ≡ 22
    unfolding lowest_rule any_place
    at_shape k h t = rw (head, any_at (breaks_shape_at list i) (most_inputs + 1) k h t)

    module _ (shape : any_below (most_inputs + 1) (breaks_shape_at list i) ≡ false) where
      pub at_place : any_below (most_inputs + 1) (λ place. breaks_place (opcode_at list i) place (varnode_at list i place)) ≡ true → lowest_rule a lengths list i ≡ 23
      unfolding lowest_rule any_place
      at_place t = rw (head, shape, t)

      module _ (placed : any_below (most_inputs + 1) (λ place. breaks_place (opcode_at list i) place (varnode_at list i place)) ≡ false) where
        pub at_range : any_below (most_inputs + 1) (λ place. breaks_range lengths (opcode_at list i) place (varnode_at list i place)) ≡ true → lowest_rule a lengths list i ≡ 24
        unfolding lowest_rule any_place
        at_range t = rw (head, shape, placed, t)

        pub at_last : (r : ℕ) → any_below (most_inputs + 1) (λ place. breaks_range lengths (opcode_at list i) place (varnode_at list i place)) ≡ false
            → r ≡ size_or_target a list i
            → lowest_rule a lengths list i ≡ r
        unfolding lowest_rule any_place
        at_last r t e = rw (head, shape, placed, t) (sym e)

-- ---- decoding

pub none_of : (wanted : Bool) (d o : ℕ) → decoded wanted d o ≡ None → breaks_shape wanted d o ≡ true
unfolding decoded
none_of wanted d o = by (breaks_shape wanted d o)
  where
    by : (t : Bool) → cond t None (Some (described_by d o)) ≡ None → t ≡ true
    by true e = refl
    by false e = cc

module _ (wanted : Bool) (d o : ℕ) (v : Varnode) where
  pub shape_of : decoded wanted d o ≡ Some v → breaks_shape wanted d o ≡ false
  unfolding decoded
  shape_of = by (breaks_shape wanted d o)
    where
      by : (t : Bool) → cond t None (Some (described_by d o)) ≡ Some v → t ≡ false
      by true e = cc
      by false e = refl

  pub varnode_of : decoded wanted d o ≡ Some v → v ≡ described_by d o
  unfolding decoded
  varnode_of = by (breaks_shape wanted d o)
    where
      by : (t : Bool) → cond t None (Some (described_by d o)) ≡ Some v → v ≡ described_by d o
      by true e = cc
      by false e = cc

-- what rule 22 lets pass: nothing at all, or a space of 1 to 4 and a size of 1 to 8
pub passed_shape : (wanted : Bool) (d o : ℕ) → breaks_shape wanted d o ≡ false
    → cond wanted (describes_varnode d) (eqb d 0 && eqb o 0) ≡ true
unfolding breaks_shape xor
passed_shape wanted d o = by wanted (eqb d 0) (describes_varnode d) (eqb o 0)
  where
    by : (w z g q : Bool) → xor w (not z) || (not z && not g) || (z && not q) ≡ false → cond w g (z && q) ≡ true
    by true true g q e = absurd (let z : ◌≡◌ {A = ℕ} 0 1 = cc in omega arith)
    by true false true q e = refl
    by true false false q e = absurd (let z : ◌≡◌ {A = ℕ} 0 1 = cc in omega arith)
    by false true g true e = refl
    by false true g false e = absurd (let z : ◌≡◌ {A = ℕ} 0 1 = cc in omega arith)
    by false false g q e = absurd (let z : ◌≡◌ {A = ℕ} 0 1 = cc in omega arith)

pub described : (d : ℕ) → describes_varnode d ≡ true → (1 ≤ d / 16) × (d / 16 ≤ 4) × (1 ≤ d % 16) × (d % 16 ≤ 8)
unfolding describes_varnode is_size
described d t =
    let e = both (leb 1 (d / 16) && leb (d / 16) 4) (leb 1 (d % 16) && leb (d % 16) 8) t in
    let f = both (leb 1 (d / 16)) (leb (d / 16) 4) e.0 in
    let g = both (leb 1 (d % 16)) (leb (d % 16) 8) e.1 in
    (leb-true 1 (d / 16) f.0, leb-true (d / 16) 4 f.1, leb-true 1 (d % 16) g.0, leb-true (d % 16) 8 g.1)

-- ---- rules of equal operations

pub same_place : (place : ℕ) {c c' : ℕ} {v v' : Varnode} → c ≡ c' → v ≡ v' → breaks_place c place v ≡ breaks_place c' place v'
same_place place ec ev = rw (ec, ev)

pub same_range : (lengths : Lengths) (place : ℕ) {c c' : ℕ} {v v' : Varnode} → c ≡ c' → v ≡ v' → breaks_range lengths c place v ≡ breaks_range lengths c' place v'
same_range lengths place ec ev = rw (ec, ev)
