-- How many log words an operation writes, and so a run.
use Prim.Native.Nat.{ℕ, zero, suc, ◌+◌, ◌*◌, ◌≤◌}
use native.Mathlib.Nat.{suc-mul}
use native.Mathlib.Omega.{arith}
use mathlib.Core.List.{List}
use lib.Dec.{ltb}
use lib.ListN.{length, length-append}
use Rattle.operation.specs.Layout.{operation_count}
use Rattle.machine.specs.Program.{Program}
use Rattle.machine.specs.Memory.{Memory}
use Rattle.machine.specs.Effect.{Operation, Kind, operation_at}
use Rattle.machine.specs.Run.{Decision, Position, Ended, Stepped, ending_of, advanced, ended, apply_decision, execute_as, execute, stepped, continued}
use Rattle.machine.proofs.Cases.{either}
use Rattle.machine.proofs.Budget.{Repeats}
use Rattle.machine.proofs.Kept.{Fits, decided_fits}

-- at most `most` words behind those at `at`
pub data Writes (most : ℕ) (at : Position) : Stepped → Type 0 where
  halts : {r : Ended} → length r.position.log ≤ length at.log + most → Writes most at (Stepped.halted r)
  goes : {next : Position} {ls n : Memory} → length next.log ≤ length at.log + most → Writes most at (Stepped.going next ls n)

advanced_writes : (at : Position) (i : ℕ) (words : List ℕ) → length words ≤ 1 → length (advanced at i words).log ≤ length at.log + 1
unfolding advanced
advanced_writes at i words h = rw (length-append at.log words) (omega arith)

applied_writes : (program : Program) (k : Kind) (op : Operation) (at : Position) (labels m : Memory) (x : ℕ) {d : Decision} → Fits at.room d
    → Writes 1 at (apply_decision program k op at labels m x d)
unfolding apply_decision ended
applied_writes program k op at labels m x (Fits.stops {e}) = halts {r = ended (ending_of e) 0 at labels m} (omega arith)
applied_writes program k op at labels m x (Fits.exited l s) = halts (advanced_writes at _ _ s)
applied_writes program k op at labels m x (Fits.nexts l s) = goes (advanced_writes at _ _ s)

-- an operation: at most one
pub stepped_writes : (program : Program) (at : Position) (labels m : Memory) → Writes 1 at (stepped program at labels m)
unfolding stepped execute execute_as ended
stepped_writes program at labels m =
    either (Writes 1 at) (ltb at.index (operation_count program.list)) _ _
    (applied_writes program _ (operation_at program.list at.index) at labels m _ (decided_fits _ _ _ _ _ _ _)) (halts {r = ended 0 0 at labels m} (omega arith))

-- a run: as many for each operation of its budget
continued_writes : (most budget : ℕ) (f : Position → Memory → Memory → Ended)
    → ((at : Position) (labels m : Memory) → length (f at labels m).position.log ≤ length at.log + budget * most)
    → (at : Position) {a : Stepped} → Writes most at a → length (continued f a).position.log ≤ length at.log + suc budget * most
unfolding continued
continued_writes most budget f h at (halts l) = rw suc-mul (omega (arith, l))
continued_writes most budget f h at (goes {next} {ls} {n} l) = rw suc-mul (omega (arith, l, h next ls n))

pub run_writes : {program : Program} {S : Position → Memory → Memory → Stepped} {R : ℕ → Position → Memory → Memory → Ended} → Repeats program S R
    → (most : ℕ) → ((at : Position) (labels m : Memory) → Writes most at (S at labels m))
    → (budget : ℕ) (at : Position) (labels m : Memory) → length (R budget at labels m).position.log ≤ length at.log + budget * most
unfolding ended
run_writes u most w zero at labels m = rw (u.none at labels m) (omega arith)
run_writes u most w (suc budget) at labels m =
    rw (u.next budget at labels m) (continued_writes most budget _ (λ at' l m'. run_writes u most w budget at' l m') at (w at labels m))
