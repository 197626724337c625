-- Tests that agree. A test `ltb a b` is `leb (suc a) b`, so the law serves both.
use mathlib.Core.Path.{◌≡◌, refl, sym, ◌∙◌}
use mathlib.Core.Bool.{Bool, true, false, cond}
use Prim.Native.Nat.{ℕ, zero, suc, ◌≤◌, ◌<◌}
use native.Mathlib.Omega.{arith}
use borrow.Author.Tests.{leb-true, leb-false, le-leb, lt-leb, le-ltb}
use lib.Dec.{leb, ltb, eqb, eqb-suc-zero}

pub leb-agree : (a b c d : ℕ) → (a ≤ b → c ≤ d) → (b < a → d < c) → leb a b ≡ leb c d
leb-agree a b c d when_true when_false = by (leb a b) refl
  where
    by : (t : Bool) → leb a b ≡ t → leb a b ≡ leb c d
    by true e = e ∙ sym (le-leb c d (when_true (leb-true a b e)))
    by false e = e ∙ sym (lt-leb c d (when_false (leb-false a b e)))

below_one : (x : ℕ) → eqb x 0 ≡ ltb x 1
below_one zero = refl
below_one (suc x) = eqb-suc-zero x ∙ sym (le-ltb (suc x) 1 (omega arith))

-- what holds of each answer where its test says so holds of the condition
pub by_cond : {A : Type 0} (P : A → Type 0) (b : Bool) (x y : A) → (b ≡ true → P x) → (b ≡ false → P y) → P (cond b x y)
by_cond P true x y f g = f refl
by_cond P false x y f g = g refl
