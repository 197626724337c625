-- Tables of values.
use Prim.Native.Nat.{ℕ}
use mathlib.Core.Bool.{Bool, true, false, ◌&&◌, ◌||◌, true≢false}
use mathlib.Core.List.{List, [], ◌∷◌}
use mathlib.Core.Path.{◌≡◌, refl, sym, ◌∙◌}
use borrow.Author.Tests.{eqb-true, ne_eqb}
use lib.Dec.{eqb}
use Rattle.integer.proofs.Booleans.{both}
use Rattle.arithmetic.specs.Opcodes.{member}
use Rattle.arithmetic.specs.Result.{lookup}

-- a number is none of a list, as a match says it
abbrev pub NoneOf : ℕ → List ℕ → Type 0
NoneOf n [] = Unit
NoneOf n (k ∷ ks) = NoneOf n ks × (n ≡ k → ⊥)

-- the numbers of a table's rows are in a list
abbrev pub keys_in : List ℕ → List (ℕ × ℕ) → Bool
keys_in ks [] = true
keys_in ks (row ∷ rows) = member row.0 ks && keys_in ks rows

not_one : (n k : ℕ) (ks : List ℕ) → NoneOf n ks → member k ks ≡ true → n ≡ k → ⊥
unfolding member
not_one n k [] none e same = true≢false (sym e)
not_one n k (m ∷ ms) none e same = by (eqb k m) refl e (λ q. not_one n k ms none.0 q same)
  where
    by : (t : Bool) → eqb k m ≡ t → t || member k ms ≡ true → (member k ms ≡ true → ⊥) → ⊥
    by true h q rest = none.1 (same ∙ eqb-true k m h)
    by false h q rest = rest q

pub lookup_none : (n : ℕ) (ks : List ℕ) → NoneOf n ks → (rows : List (ℕ × ℕ)) → keys_in ks rows ≡ true → lookup n rows ≡ 0
unfolding lookup
lookup_none n ks none [] e = refl
lookup_none n ks none (row ∷ rows) e =
    let t = both (member row.0 ks) (keys_in ks rows) e in
    rw (ne_eqb n row.0 (not_one n row.0 ks none t.0)) (lookup_none n ks none rows t.1)
