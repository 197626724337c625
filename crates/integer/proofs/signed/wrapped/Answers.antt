-- `integer::signed::wrapped` meets its contract.
use Rattle.std.proofs.Common.{◌∙◌, arith, w64}
use mir.ValLaws.{to_z-of_z}
use Rattle.integer.proofs.TwosComplement.{cut}
use Rattle.integer.proofs.signed.wrapped.Goals as goal

pub returns : goal.returns
returns c =
    c.low.ensures
    ∙ rw (c.cast_unsigned.ensures, to_z-of_z w64 c.args.z c.ranges.z) (cut _ c.args.z c.args.size.in_range.1 (omega (arith, c.ranges.z.sfits)))
