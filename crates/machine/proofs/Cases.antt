-- What holds in both cases of a condition holds of the condition.
use mathlib.Core.Bool.{Bool, true, false, cond}
use mathlib.Core.Path.{◌≡◌}

pub either : {A : Type 0} (P : A → Type 0) (c : Bool) (a b : A) → P a → P b → P (cond c a b)
either P true a b h q = h
either P false a b h q = q

pub either_equal : {A : Type 0} (c : Bool) {a b d : A} → a ≡ d → b ≡ d → cond c a b ≡ d
either_equal c {a} {b} {d} e f = either (λ (x : _). x ≡ d) c a b e f

pub either₂ : {A B : Type 0} (R : A → B → Type 0) (c : Bool) (a x : A) (b y : B) → R a b → R x y → R (cond c a x) (cond c b y)
either₂ R true a x b y h q = h
either₂ R false a x b y h q = q

pub either₃ : {A B C : Type 0} (R : A → B → C → Type 0) (c : Bool) (a x : A) (b y : B) (d z : C) → R a b d → R x y z
    → R (cond c a x) (cond c b y) (cond c d z)
either₃ R true a x b y d z h q = h
either₃ R false a x b y d z h q = q
