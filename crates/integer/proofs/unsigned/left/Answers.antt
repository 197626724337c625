-- `integer::unsigned::left` meets its contract.
use Rattle.std.proofs.Common.{◌∙◌, le-ltb, lt-ltb}
use Rattle.word.proofs.Powers.{low_part_lem}
use Rattle.integer.specs.Operations.{int_left}
use Rattle.integer.proofs.unsigned.left.Goals as goal

pub returns-then-b-size : goal.returns-then-b-size
unfolding int_left
returns-then-b-size c = rw (lt-ltb _ _ c.if-b-size.true) (c.low.ensures ∙ low_part_lem _ _ c.requires)

pub returns-else-b-size : goal.returns-else-b-size
unfolding int_left
returns-else-b-size c = rw (le-ltb _ _ c.if-b-size.false)
