-- Labels written to a varnode, and the counts that moved with them.
use Rattle.std.specs.Prelude.{ℕ, false, ◌≡◌}
use Rattle.word.specs.Word.{bytes_of}
use Rattle.secret_counts.specs.Moved.{low_bit}
use Rattle.operation.specs.declared.layout.Varnode.{Varnode}
use Rattle.machine.specs.Memory.{Memory, written}
use Rattle.machine.specs.MovedCounts.{MovedSpaces}

-- `word` is the number that the labels make in little order.
pub record Marked (labels counts : Memory) (v : Varnode) (word : ℕ) (labels' counts' : Memory) : Type 0 where
  pub stored : labels' ≡ written labels v (bytes_of false v.size word)
  pub moved : MovedSpaces low_bit labels labels' counts counts'
