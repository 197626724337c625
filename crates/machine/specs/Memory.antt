-- Memory, and what it holds at a varnode.
use Rattle.std.specs.Prelude.{ℕ, Bool, false, cond, List, [], eqb, length, get_or}
use Rattle.std.proofs.lemmas.List.Edits.{sets}
use Rattle.word.specs.Sum.{tabulate}
use Rattle.word.specs.Word.{Bytes, part, significance, value_of, bytes_of}
use Rattle.operation.specs.declared.layout.Varnode.{Varnode}
use Rattle.operation.specs.declared.layout.Settings.{Settings}
use Rattle.operation.specs.Spaces.{Lengths}
use Rattle.machine.specs.Program.{big_endian}

-- The bytes of spaces 2 to 4; a set of labels has the same form, with a label for each byte.
pub record Memory : Type 0 where
  pub unique : List ℕ
  pub register : List ℕ
  pub ram : List ℕ

-- Three lent buffers as a memory.
abbrev pub spaces : (unique register ram : List ℕ) → Memory
spaces unique register ram = record { unique = unique; register = register; ram = ram }

-- The bytes of each space.
unfoldable pub lengths_of : Memory → Lengths
lengths_of m = record { unique = length m.unique; register = length m.register; ram = length m.ram }

-- The bytes of a space, by its number: 2 unique, 3 register, 4 ram. The constant space has none, and a number that is no space has none.
unfoldable pub space_of : Memory → (space : ℕ) → List ℕ
space_of m space = cond (eqb space 2) m.unique (cond (eqb space 3) m.register (cond (eqb space 4) m.ram []))

-- A memory whose entries are bytes.
abbrev pub OfBytes : Memory → Type 0
OfBytes m = (space : ℕ) → Bytes (space_of m space)

-- The memory with another content of one space.
unfoldable pub with_space : Memory → (space : ℕ) → List ℕ → Memory
with_space m space bs =
    cond (eqb space 2) (record { unique = bs; register = m.register; ram = m.ram })
    (cond (eqb space 3) (record { unique = m.unique; register = bs; ram = m.ram })
    (cond (eqb space 4) (record { unique = m.unique; register = m.register; ram = bs }) m))

-- The bytes of a varnode, in memory order; a place past the end of its space reads as 0.
unfoldable pub bytes_at : Memory → Varnode → List ℕ
bytes_at m v = part (space_of m v.space) v.offset v.size

-- The memory after bytes are written at a varnode; what would lie past the end of its space is not written.
unfoldable pub written : Memory → Varnode → List ℕ → Memory
written m v bs = with_space m v.space (sets (space_of m v.space) v.offset bs)

-- A varnode's value. A constant's value is its offset.
unfoldable pub value_at : Settings → Memory → Varnode → ℕ
value_at settings m v = cond (eqb v.space 1) v.offset (value_of (big_endian settings) (bytes_at m v))

-- Bytes in memory order as bytes by significance, the least significant first; and the other way round.
unfoldable pub ordered : (big : Bool) → List ℕ → List ℕ
ordered big bs = tabulate (length bs) (λ i. get_or bs (significance big (length bs) i) 0)

-- A varnode's bytes, the least significant first.
unfoldable pub digits_at : Settings → Memory → Varnode → List ℕ
digits_at settings m v = cond (eqb v.space 1) (bytes_of false v.size v.offset) (ordered (big_endian settings) (bytes_at m v))
