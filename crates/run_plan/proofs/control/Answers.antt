-- `run_plan::control` meets its contract.
use Rattle.std.proofs.Common.{refl}
use Rattle.run_plan.specs.Plans.{control}
use Rattle.run_plan.proofs.control.Goals as goal

pub returns : goal.returns
unfolding control
returns c = rw c.absent.ensures refl
