-- How a case lies in the reader's buffers: each space has the room of the largest.
use Rattle.std.specs.Prelude.{ℕ, ◌*◌, List, take}
use Rattle.operation.specs.Spaces.{Lengths}
use Rattle.operation.specs.Layout.{words_per_operation}
use Rattle.machine.specs.Memory.{Memory, spaces}
use Rattle.case_reader.specs.Case.{Case, Progress}
use Rattle.operation.specs.declared.layout.Spaces.{Spaces}
use Rattle.case_reader.specs.declared.buffers.Buffers.{Buffers}
use Rattle.case_reader.specs.declared.line.Stage.{Stage}
use Rattle.case_reader.specs.declared.line.Stage.TheVariants.{Nothing, Reading, BadLine}

-- The memory that three rooms hold.
unfoldable pub memory_in : Lengths → (rooms : Spaces (List ℕ)) → Memory
memory_in l r = spaces (take l.unique r.unique) (take l.register r.register) (take l.ram r.ram)

-- The case that the buffers hold.
unfoldable pub case_in : Buffers → Case
case_in b =
    record {
      settings = b.settings;
      budget = b.budget;
      memory = memory_in b.lengths b.memory;
      labels = memory_in b.lengths b.labels;
      list = take (words_per_operation * b.operations) b.words;
    }

-- What has been read, as a reader holds it.
unfoldable pub progress_in : Stage → Progress
progress_in Nothing = Progress.nothing
progress_in (Reading b) = Progress.reading (case_in b)
progress_in (BadLine n) = Progress.bad_line n
