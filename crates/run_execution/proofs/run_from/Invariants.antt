-- `run_execution::run_from` meets its contract.
use Prim.Native.Nat.{◌-◌}
use mathlib.Core.Path.{◌≡◌}
use Rattle.operation.specs.Layout.{operation_count}
use Rattle.machine.specs.Program.{program_of}
use Rattle.machine.specs.Lent.{lent, SameBuffers}
use Rattle.run_execution.proofs.Running.{Going}
use Rattle.run_execution.proofs.run_from.Given as goal

-- what is left to do from here is the whole run
abbrev pub invariant-loop-i : goal.invariant-loop-i
invariant-loop-i l =
    (l.count ≡ operation_count l.list)
    × SameBuffers l.initial.memory l.memory
    × Going (program_of l.settings l.list) l.budget l.start l.from l.initial.log
    (lent l.initial.memory) l.i l.executed l.k l.log (lent l.memory)

abbrev pub decreases-loop-i : goal.decreases-loop-i
decreases-loop-i l = l.budget - l.executed
