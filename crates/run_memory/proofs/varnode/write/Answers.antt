-- `run_memory::varnode::write` meets its contract.
use mathlib.Core.Path.{sym}
use lib.Dec.{lit≤}
use Rattle.machine.specs.Memory.{space_of, with_space}
use Rattle.run_memory.proofs.Spaces.{placed_in, written_in, written_elsewhere}
use Rattle.run_memory.proofs.varnode.write.Goals as goal

pub scatter-requires : goal.scatter-requires
unfolding space_of
scatter-requires c =
    let p = c.requires in
    (p.size, placed_in _ _ 4 c.in-4.is (lit≤ tt) p)

pub scatter-requires-in-3 : goal.scatter-requires-in-3
unfolding space_of
scatter-requires-in-3 c =
    let p = c.requires in
    (p.size, placed_in _ _ 3 c.in-3.is (lit≤ tt) p)

pub scatter-requires-in-2 : goal.scatter-requires-in-2
unfolding space_of
scatter-requires-in-2 c =
    let p = c.requires in
    (p.size, placed_in _ _ 2 c.in-2.is (lit≤ tt) p)

pub returns-in-4-clause-written : goal.returns-in-4-clause-written
unfolding space_of with_space
returns-in-4-clause-written c = written_in _ _ 4 c.in-4.is _ _ c.scatter.ensures

pub returns-in-3-clause-written : goal.returns-in-3-clause-written
unfolding space_of with_space
returns-in-3-clause-written c = written_in _ _ 3 c.in-3.is _ _ c.scatter-in-3.ensures

pub returns-in-2-clause-written : goal.returns-in-2-clause-written
unfolding space_of with_space
returns-in-2-clause-written c = written_in _ _ 2 c.in-2.is _ _ c.scatter-in-2.ensures

pub returns-in_default-clause-written : goal.returns-in_default-clause-written
returns-in_default-clause-written c =
    let r = c.in_default.in_default-own.rest in
    sym (written_elsewhere _ _ r.1 r.0.1 r.0.0.1 _)
