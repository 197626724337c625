-- What the slices of the three spaces hold.
use Rattle.std.specs.Prelude.{ℕ, List, ◌≡◌, length}
use Rattle.std.specs.Borrow.{Bor, MutBor}
use Rattle.operation.specs.declared.layout.Spaces.{Spaces}
use Rattle.machine.specs.Memory.{Memory, spaces}

-- Slices that are only read.
abbrev pub held : Spaces (Bor (List ℕ)) → Memory
held s = spaces s.unique.now s.register.now s.ram.now

-- Lent buffers.
abbrev pub lent : Spaces (MutBor (List ℕ)) → Memory
lent s = spaces s.unique.now s.register.now s.ram.now

-- It is the same buffer still, at the same place, whatever it holds.
pub record SameBuffer (before after : MutBor (List ℕ)) : Type 0 where
  pub reference : after.ghost_name ≡ before.ghost_name
  pub place : after.ref_ptr ≡ before.ref_ptr
  pub size : length after.now ≡ length before.now

-- So are all three.
pub record SameBuffers (before after : Spaces (MutBor (List ℕ))) : Type 0 where
  pub unique : SameBuffer before.unique after.unique
  pub register : SameBuffer before.register after.register
  pub ram : SameBuffer before.ram after.ram
