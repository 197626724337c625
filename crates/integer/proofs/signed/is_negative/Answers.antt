-- `integer::signed::is_negative` meets its contract.
use Rattle.integer.proofs.TwosComplement.{sign_test}
use Rattle.integer.proofs.signed.is_negative.Goals as goal

pub returns : goal.returns
returns c = sign_test _ _ (record { sfits = c.value_of.type_inv }) c.value_of.ensures
