-- Where a loop stands, in the words of the machine.
use Rattle.std.specs.Prelude.{ℕ, ◌-◌, List, length, take}
use Rattle.machine.specs.Run.{Position}

-- At index i, with the first k words of the log written.
unfoldable pub position : (i k executed : ℕ) → (log : List ℕ) → Position
position i k executed log = record { index = i; room = length log - k; executed = executed; log = take k log }
