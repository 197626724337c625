-- `operation::layout::wordsize_of` meets its contract.
use Rattle.operation.specs.Layout.{wordsize_of}
use Rattle.operation.proofs.layout.wordsize_of.Goals as goal

pub returns : goal.returns
unfolding wordsize_of
returns c = c.by_space.ensures
