-- Laws of decoding.
use Prim.Native.Nat.{ℕ}
use mathlib.Core.Bool.{Bool, true, false, cond, not, ◌&&◌, ◌||◌, xor}
use mathlib.Core.Path.{◌≡◌, refl, sym}
use lib.Dec.{eqb}
use Rattle.integer.proofs.Booleans.{or_false}
use Rattle.operation.specs.Rules.{describes_varnode, breaks_shape}
use Rattle.operation.specs.Decoding.{decoded}

-- rule 22, for an absent varnode and for a present one
pub shape_broken : (wanted : Bool) (d o : ℕ)
    → cond (eqb d 0) (wanted || not (eqb o 0)) (not wanted || not (describes_varnode d)) ≡ breaks_shape wanted d o
unfolding breaks_shape xor
shape_broken wanted d o = by wanted (eqb d 0)
  where
    by : (w z : Bool) → cond z (w || not (eqb o 0)) (not w || not (describes_varnode d))
        ≡ xor w (not z) || (not z && not (describes_varnode d)) || (z && not (eqb o 0))
    by true true = refl
    by true false = sym (or_false _)
    by false true = refl
    by false false = refl

-- the same varnode is decoded
pub same_decoding : {w w' : Bool} {d d' o o' : ℕ} → w ≡ w' → d ≡ d' → o ≡ o' → decoded w d o ≡ decoded w' d' o'
same_decoding e f g = rw (e, f, g) refl
