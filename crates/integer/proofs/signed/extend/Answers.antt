-- `integer::signed::extend` meets its contract.
use Rattle.integer.proofs.TwosComplement.{written}
use Rattle.integer.specs.Operations.{int_sext}
use Rattle.integer.proofs.signed.extend.Goals as goal

pub returns : goal.returns
unfolding int_sext
returns c = written _ _ c.value_of.result _ (record { sfits = c.value_of.type_inv }) c.value_of.ensures c.wrapped.ensures
