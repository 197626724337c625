-- `integer::signed::right` meets its contract.
use Rattle.std.proofs.Common.{◌^◌, ℤ, sym, ap, ◌∙◌, w64, SFits, le-ltb, lt-ltb}
use lib.Signed.{shr_z}
use mir.ValLaws.{to_z-of_z}
use Rattle.integer.proofs.TwosComplement.{written, shift_fits, sign_test}
use Rattle.integer.specs.Operations.{int_sright}
use Rattle.integer.proofs.signed.right.Goals as goal

pub returns-then-b-size : goal.returns-then-b-size
unfolding int_sright
returns-then-b-size c =
    let z = c.value_of-z in
    let f : SFits w64 z.result = record { sfits = z.type_inv } in
    rw (lt-ltb _ _ c.if-b-size.true)
    (written _ _ _ _ (shift_fits z.result _ f) (ap (λ (k : ℤ). shr_z k (2 ^ c.args.b)) (to_z-of_z w64 z.result f ∙ z.ensures)) c.wrapped.ensures)

pub returns-then-z-lt0 : goal.returns-then-z-lt0
unfolding int_sright
returns-then-z-lt0 c =
    let z = c.value_of-z in
    let f : SFits w64 z.result = record { sfits = z.type_inv } in
    rw (le-ltb _ _ c.if-b-size.false, sym (sign_test z.result _ f z.ensures) ∙ c.if-z-lt0.true) c.largest.ensures

pub returns-else-z-lt0 : goal.returns-else-z-lt0
unfolding int_sright
returns-else-z-lt0 c =
    let z = c.value_of-z in
    let f : SFits w64 z.result = record { sfits = z.type_inv } in
    rw (le-ltb _ _ c.if-b-size.false, sym (sign_test z.result _ f z.ensures) ∙ c.if-z-lt0.false)
