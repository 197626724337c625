-- One thing for each address space with bytes, and the numbers that a call has for each.
use Rattle.std.specs.Prelude.{ℕ}
use Rattle.operation.specs.declared.layout.Spaces.{Spaces}

-- The lengths of the spaces.
abbrev pub Lengths : Type 0
Lengths = Spaces ℕ

-- How many bytes a pointer into each space counts as one.
abbrev pub Wordsizes : Type 0
Wordsizes = Spaces ℕ
