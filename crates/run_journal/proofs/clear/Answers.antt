use native.Mathlib.Nat.{zero-add}
use native.Mathlib.Omega.{arith}
use mathlib.Core.Path.{refl}
use Rattle.word.proofs.Stores.{storing_none, storing_more}
use Rattle.run_journal.proofs.Clearing.{cleared}
use Rattle.run_journal.proofs.clear.Goals as goal

pub loop-k-init : goal.loop-k-init
loop-k-init c = storing_none _ _ _ _

pub loop-k-preserved : goal.loop-k-preserved
loop-k-preserved c = rw zero-add at (storing_more c.loop-k.invariant (omega (arith, c.loop-k-test.true)) {v = 0} refl)

pub returns : goal.returns
returns c = cleared _ _ _ c.requires _ c.loop-k.invariant (omega (arith, c.loop-k-test.false))
