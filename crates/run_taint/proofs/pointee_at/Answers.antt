-- `run_taint::pointee_at` meets its contract.
use mathlib.Core.Path.{refl}
use Rattle.machine.specs.Effect.{operation_at, pointee}
use Rattle.run_taint.proofs.pointee_at.Goals as goal

pub returns : goal.returns
unfolding operation_at pointee
returns c = rw c.varnode_at-input0.ensures refl
