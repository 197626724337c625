-- What a speculative run divides, in its windows too, does not depend on secret bytes.
use Rattle.std.specs.Prelude.{ℕ, zero, suc, true, cond, List, [], ◌∷◌, ◌++◌, ◌≡◌}
use Rattle.machine.specs.Program.{Program, program_of}
use Rattle.machine.specs.Memory.{Memory, spaces, lengths_of}
use Rattle.machine.specs.Run.{Position, Stepped, stepped}
use Rattle.machine.specs.Calls.{starting, same_lengths, unlabelled}
use Rattle.machine.specs.Noninterference.{LowEquivalent}
use Rattle.machine.specs.Marked.{words, settings}
use Rattle.machine.specs.Divisions.{division_at, divided_after, divided, two_divisions}
use Rattle.speculation.specs.Window.{Way, reached, opens_window, other_way_at, speculated}

-- What the window of a way divides; outside the list there is none.
unfoldable pub divided_ahead : Program → (window room : ℕ) → (labels memory : Memory) → Way → List ℕ
divided_ahead program window room labels m Way.outside = []
divided_ahead program window room labels m (Way.inside i) = divided program window (starting i room) labels m

-- What the window of an operation divides, if it opens one.
unfoldable pub divided_in_window : Program → (window : ℕ) → Position → (labels memory : Memory) → List ℕ
divided_in_window program window at labels m =
    let right : Stepped = stepped program at labels m in
    cond (opens_window program at right) (divided_ahead program window (reached right).room labels m (other_way_at program at m)) []

-- The divisions that a speculative run executes, in order: of each operation those of its window, also where that ends the run, and then
-- its own.
unfoldable pub speculatively_divided : Program → (window budget : ℕ) → Position → (labels memory : Memory) → List ℕ
speculatively_divided program window zero at labels m = []
speculatively_divided program window (suc budget) at labels m =
    divided_in_window program window at labels m
    ++ divided_after (division_at program at.index m) (speculatively_divided program window budget) (speculated program window at labels m)

-- A CBRANCH to index 2, taken, then the operations of `two_divisions`.
abbrev pub branch_and_divisions : Program
branch_and_divisions = program_of (settings 0) (words 0x11110005 0 2 1 ++ two_divisions.list)

-- A CBRANCH to the end, taken, then two divisions of 1 byte in the register space: byte 2 = byte 0 by byte 1, byte 2 = byte 3 by byte 1.
abbrev pub branch_to_the_end : Program
branch_to_the_end = program_of (settings 0) (words 0x11110005 0 3 1 ++ words 0x31313123 2 0 1 ++ words 0x31313123 2 3 1)

-- A CBRANCH to the end, taken, then one to the next operation, and a division.
abbrev pub branches_and_division : Program
branches_and_division = program_of (settings 0) (words 0x11110005 0 3 1 ++ words 0x11110005 0 1 1 ++ words 0x31313123 2 0 1)

-- All of these.
pub record SpeculativeDivisions : Type 0 where
  -- What a window divides comes first: at 1 f9 by 02, whose byte is undone; then what the right way divides, at 2 aa by 02.
  pub window_first : speculatively_divided branch_and_divisions 1 2 (starting 0 1) unlabelled (spaces [] (0xf9 ∷ 0x02 ∷ 0xaa ∷ 0xaa ∷ []) [])
      ≡ 1 ∷ 0xf9 ∷ 0x02 ∷ 2 ∷ 0xaa ∷ 0x02 ∷ []
  -- A window that ends the run is told too: at 1 f9 by 02; at 2 the dividend is secret.
  pub ending_window : speculatively_divided branch_to_the_end 2 1 (starting 0 1) (spaces [] (0 ∷ 0 ∷ 0 ∷ 1 ∷ []) []) (spaces [] (0xf9 ∷ 0x02 ∷ 0xaa ∷ 0xbb ∷ []) [])
      ≡ 1 ∷ 0xf9 ∷ 0x02 ∷ []
  -- A window has the log words that its CBRANCH left: with one in all, the CBRANCH inside finds no room, and nothing is divided.
  pub full_log : speculatively_divided branches_and_division 2 1 (starting 0 1) unlabelled (spaces [] (0xf9 ∷ 0x02 ∷ 0xaa ∷ []) []) ≡ []
  -- Two memories that agree in each byte labelled public divide the same numbers, by the same operations.
  pub same : (program : Program) (window budget : ℕ) (at : Position) (labels first second : Memory)
      → same_lengths (lengths_of labels) (lengths_of first) ≡ true → LowEquivalent labels first second
      → speculatively_divided program window budget at labels first ≡ speculatively_divided program window budget at labels second
