-- `operation::rules::target_outside` meets its contract.
use Rattle.operation.proofs.Targets.{forward, backward}
use Rattle.operation.proofs.rules.target_outside.Goals as goal

pub returns-then-offset : goal.returns-then-offset
returns-then-offset c = forward _ _ _ c.requires c.if-offset.true

pub returns-else-offset : goal.returns-else-offset
returns-else-offset c = backward _ _ _ c.requires c.if-offset.false c.ranges.offset.fits
