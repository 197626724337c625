-- No refusal has the number 0.
use Prim.Native.Nat.{◌<◌}
use mathlib.Core.Bool.{Bool, true, false, cond}
use mathlib.Core.Path.{◌≡◌, refl}
use native.Mathlib.Omega.{arith}
use Rattle.std.specs.Prelude.{Ok, Err, ⊤}
use Rattle.operation.specs.declared.report.Refusal.{Refusal}
use Rattle.operation.specs.declared.report.Refusal.TheVariants.{Setting, Length, Label, Head, Shape, Place, Range, Size, Target, Start, Zero}
use Rattle.operation.specs.Numbers.{number_of}

pub positive : (why : Refusal) → 0 < number_of why
positive Setting = omega arith
positive Length = omega arith
positive Label = omega arith
positive Head = omega arith
positive Shape = omega arith
positive Place = omega arith
positive Range = omega arith
positive Size = omega arith
positive Target = omega arith
positive Start = omega arith
positive Zero = omega arith

-- a test that refused nothing held
pub passes : (t : Bool) (why : Refusal) (nothing : ⊤) → Ok nothing ≡ cond t (Ok tt) (Err why) → t ≡ true
passes true why nothing e = refl
passes false why nothing e = cc
