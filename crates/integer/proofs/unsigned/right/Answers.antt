-- `integer::unsigned::right` meets its contract.
use Rattle.std.proofs.Common.{le-ltb, lt-ltb}
use Rattle.integer.specs.Operations.{int_right}
use Rattle.integer.proofs.unsigned.right.Goals as goal

pub returns-then-b-size : goal.returns-then-b-size
unfolding int_right
returns-then-b-size c = rw (lt-ltb _ _ c.if-b-size.true)

pub returns-else-b-size : goal.returns-else-b-size
unfolding int_right
returns-else-b-size c = rw (le-ltb _ _ c.if-b-size.false)
