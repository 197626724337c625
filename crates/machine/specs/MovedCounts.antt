-- The counts of three spaces that moved by as much as their labels did.
use Rattle.std.specs.Prelude.{ℕ, length}
use Rattle.secret_counts.specs.Moved.{Moved}
use Rattle.machine.specs.Memory.{Memory}

-- The code is held to this, whatever the counts held.
pub record MovedSpaces (weight : ℕ → ℕ) (before after counts counts' : Memory) : Type 0 where
  pub unique : Moved weight (length before.unique) 0 before.unique after.unique counts.unique counts'.unique
  pub register : Moved weight (length before.register) 0 before.register after.register counts.register counts'.register
  pub ram : Moved weight (length before.ram) 0 before.ram after.ram counts.ram counts'.ram
