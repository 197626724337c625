-- `run_memory::space::space_of` meets its contract.
use Rattle.machine.specs.Memory.{space_of}
use native.Mathlib.Omega.{arith}
use mathlib.Core.Path.{◌≡◌, refl}
use Rattle.run_memory.proofs.space.space_of.Goals as goal

pub returns-in-3 : goal.returns-in-3
unfolding space_of
returns-in-3 c = rw c.in-3.is refl

pub returns-in-2 : goal.returns-in-2
unfolding space_of
returns-in-2 c = rw c.in-2.is refl

pub returns-in_default : goal.returns-in_default
unfolding space_of
returns-in_default c = let p = c.requires in let a = c.in_default.in_default-own.rest.0.1 in let b = c.in_default.in_default-own.rest.1 in let e : c.args.space ≡ 4 = omega arith in rw e refl
