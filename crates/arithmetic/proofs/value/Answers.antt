-- `arithmetic::value` meets its contract.
use Rattle.arithmetic.specs.Result.{result_of}
use Rattle.arithmetic.proofs.value.Goals as goal

pub returns : goal.returns
unfolding result_of
returns c = c.integer_value.ensures
