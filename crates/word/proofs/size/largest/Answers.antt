-- `word::size::largest` meets its contract.
use Rattle.word.proofs.Powers.{largest_is}
use Rattle.word.proofs.size.largest.Goals as goal

pub returns : goal.returns
returns c = largest_is _ c.args.size.in_range.1
