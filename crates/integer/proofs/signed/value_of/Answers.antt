-- `integer::signed::value_of` meets its contract.
use Rattle.std.proofs.Common.{ℤ, ◌-◌, ◌*◌, ◌^◌, ap, ◌∙◌, w64, SFits}
use lib.Signed.{shr_z}
use mir.ValLaws.{to_z-of_z}
use Rattle.integer.proofs.TwosComplement.{shift_fits, shifted_back}
use Rattle.integer.proofs.signed.value_of.Goals as goal

pub returns : goal.returns
returns c =
    let z = c.cast_signed in
    let f : SFits w64 z.result = record { sfits = z.type_inv } in
    to_z-of_z w64 _ (shift_fits z.result _ f)
    ∙ ap (λ (k : ℤ). shr_z k (2 ^ (64 - 8 * c.args.size.bytes))) (to_z-of_z w64 z.result f ∙ z.ensures)
    ∙ shifted_back _ _ c.args.size.in_range.1 c.requires
