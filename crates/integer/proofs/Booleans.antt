-- Laws of Booleans and of tests.
use Rattle.std.proofs.Common.{◌≡◌, ℕ, ◌<◌, ◌≤◌, Bool, true, false, cond, ◌&&◌, ◌||◌, leb, refl, ◌∙◌, arith, lit<, leb-true}
use mir.Val.{bool_byte}
use Rattle.word.specs.Word.{is_size}
use Rattle.integer.specs.Operations.{flag}

pub or_false : (t : Bool) → t || false ≡ t
or_false true = refl
or_false false = refl

pub and-false : (t : Bool) → t && false ≡ false
and-false true = refl
and-false false = refl

pub or_commutes : (s t : Bool) → s || t ≡ t || s
or_commutes true true = refl
or_commutes true false = refl
or_commutes false true = refl
or_commutes false false = refl

-- both sides of a conjunction that holds
pub both : (s t : Bool) → s && t ≡ true → (s ≡ true) × (t ≡ true)
both true true e = (refl, refl)
both true false e = (refl, e)
both false t e = (e, cc)

-- neither side of a disjunction that fails
pub neither : (s t : Bool) → s || t ≡ false → (s ≡ false) × (t ≡ false)
neither true t e = (e, cc)
neither false t e = (refl, e)

pub or_true : (s t : Bool) → t ≡ true → s || t ≡ true
or_true true t e = refl
or_true false t e = e

-- a test that was passed, and the tests after it
pub passed : (t : Bool) (n rest : ℕ) → 0 < n → cond t n rest ≡ 0 → (t ≡ false) × (rest ≡ 0)
passed true n rest h e = absurd (let z : ⊥ = omega arith in z)
passed false n rest h e = (refl, e)

-- the answer of a choice, its parts as the definition has them
pub pick_is : {A : Type 0} {t u : Bool} {r x y a b : A} → r ≡ cond t x y → t ≡ u → x ≡ a → y ≡ b → r ≡ cond u a b
pick_is e test first second = e ∙ rw (test, first, second) refl

-- a truth value as a word of 0 or 1
pub flag_is : (t : Bool) → bool_byte t ≡ flag t
unfolding flag
flag_is true = refl
flag_is false = refl

-- a result of a comparison is 0 or 1
pub flag_lt : (t : Bool) → flag t < 2
unfolding flag
flag_lt true = lit< tt
flag_lt false = lit< tt

-- a size is 1 to 8
pub one_to_eight : (n : ℕ) → is_size n ≡ true → (1 ≤ n) × (n ≤ 8)
unfolding is_size
one_to_eight n t = let e = both (leb 1 n) (leb n 8) t in (leb-true 1 n e.0, leb-true n 8 e.1)
