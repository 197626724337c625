use Rattle.case.proofs.Reading.{read_none, read_part}
use Rattle.case.proofs.read_all.Goals as goal

pub loop-init : goal.loop-init
loop-init g c = read_none _ c.requires

pub loop-preserved : goal.loop-preserved
loop-preserved g c = read_part c.loop.invariant c.in-Ok.ensures.bytes.0 c.read-in-loop.ensures
