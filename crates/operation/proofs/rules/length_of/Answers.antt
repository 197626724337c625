-- `operation::rules::length_of` meets its contract.
use Rattle.operation.specs.Rules.{length_of}
use Rattle.operation.proofs.rules.length_of.Goals as goal

pub returns : goal.returns
unfolding length_of
returns c = c.by_space.ensures
