-- `integer::unsigned::subpiece` meets its contract.
use Rattle.std.proofs.Common.{sym, ◌∙◌}
use Rattle.integer.proofs.Whole.{dropped_all}
use Rattle.integer.specs.Operations.{subpiece}
use Rattle.word.proofs.Powers.{pow_bits}
use Rattle.integer.proofs.unsigned.subpiece.Goals as goal

pub returns-then-b-lt8 : goal.returns-then-b-lt8
unfolding subpiece
returns-then-b-lt8 c = c.low.ensures ∙ rw (pow_bits c.args.b)

pub returns-else-b-lt8 : goal.returns-else-b-lt8
returns-else-b-lt8 c = sym (dropped_all _ _ _ c.ranges.a.fits c.if-b-lt8.false)
