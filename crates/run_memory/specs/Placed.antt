-- Where the code may read and write a varnode: the rules 22 and 24, or BOUNDS, have passed it.
use Rattle.std.specs.Prelude.{◌+◌, ◌≤◌, ◌≡◌, length}
use Rattle.operation.specs.declared.layout.Varnode.{Varnode}
use Rattle.machine.specs.Memory.{Memory, space_of}
use Rattle.operation.specs.Layout.{absent}

-- A space of 1 to 4 and a size of at most 8 bytes, within its space; or an absent varnode.
pub record Placed (m : Memory) (v : Varnode) : Type 0 where
  pub size : v.size ≤ 8
  pub known : v.space ≤ 4
  pub nowhere : v.space ≡ 0 → v ≡ absent
  pub within : 2 ≤ v.space → v.offset + v.size ≤ length (space_of m v.space)
