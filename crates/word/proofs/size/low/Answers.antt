-- `word::size::low` meets its contract.
use Rattle.word.proofs.Powers.{size_pos}
use Rattle.word.proofs.size.low.Goals as goal

pub nonzero_rem-result : goal.nonzero_rem-result
nonzero_rem-result c = rw c.modulus.ensures (size_pos _)
