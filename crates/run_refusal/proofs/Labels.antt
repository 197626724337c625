-- When every label of a list is 0 or 1.
use Prim.Native.Nat.{ℕ, zero, suc, ◌<◌, max}
use mathlib.Core.Bool.{Bool, true, false, ◌&&◌}
use mathlib.Core.List.{List, [], ◌∷◌}
use mathlib.Core.Path.{◌≡◌, refl, sym, ap, ◌∙◌}
use native.Mathlib.Omega.{arith}
use borrow.Author.Tests.{leb-true, leb-false, le-leb, lt-leb}
use lib.Dec.{leb}
use lib.ListN.{length, get_or, take}
use Rattle.machine.specs.Calls.{all_labels}

-- of the first labels, with one more
all_more : (ls : List ℕ) (i : ℕ) → i < length ls → all_labels (take (suc i) ls) ≡ all_labels (take i ls) && leb (get_or ls i 0) 1
unfolding all_labels
all_more [] i h = absurd (let z : ⊥ = omega arith in z)
all_more (l ∷ ls) zero h = by (leb l 1)
  where
    by : (t : Bool) → t && true ≡ t
    by true = refl
    by false = refl
all_more (l ∷ ls) (suc i) h = by (leb l 1) (all_more ls i (omega arith))
  where
    by : (t : Bool) → all_labels (take (suc i) ls) ≡ all_labels (take i ls) && leb (get_or ls i 0) 1
        → t && all_labels (take (suc i) ls) ≡ (t && all_labels (take i ls)) && leb (get_or ls i 0) 1
    by true e = e
    by false e = refl

-- the larger of two numbers
both_low : (a b : ℕ) → leb (max a b) 1 ≡ leb a 1 && leb b 1
both_low a b = by (leb a 1) refl (leb b 1) refl
  where
    by : (s : Bool) → leb a 1 ≡ s → (t : Bool) → leb b 1 ≡ t → leb (max a b) 1 ≡ s && t
    by true s true t = let p = leb-true a 1 s in let q = leb-true b 1 t in le-leb (max a b) 1 (omega arith)
    by true s false t = let q = leb-false b 1 t in lt-leb (max a b) 1 (omega arith)
    by false s t e = let p = leb-false a 1 s in lt-leb (max a b) 1 (omega arith)

pub larger_low : (ls : List ℕ) (most i : ℕ) → i < length ls → leb most 1 ≡ all_labels (take i ls) → leb (max most (get_or ls i 0)) 1 ≡ all_labels (take (suc i) ls)
larger_low ls most i h e = both_low most (get_or ls i 0) ∙ ap (λ (t : Bool). t && leb (get_or ls i 0) 1) e ∙ sym (all_more ls i h)
