-- The value of some bytes, and the bytes of a value. The byte order is false for little, true for big.
use Rattle.std.specs.Prelude.{ℕ, ◌+◌, ◌*◌, ◌^◌, ◌-◌, ◌<◌, Bool, true, false, ◌&&◌, List, leb, length, get_or}
use Rattle.word.specs.Sum.{sum, tabulate, digit}

-- The size of a varnode or an address, or a wordsize: 1 to 8 bytes.
unfoldable pub is_size : (size : ℕ) → Bool
is_size size = leb 1 size && leb size 8

-- Every entry is a byte.
abbrev pub Bytes : List ℕ → Type 0
Bytes bs = (i : ℕ) → get_or bs i 0 < 256

-- The n entries from index at on; 0 past the end.
unfoldable pub part : List ℕ → (at n : ℕ) → List ℕ
part l at n = tabulate n (λ i. get_or l (at + i) 0)

-- The byte at place i of n counts 256 to this power: in little order the first byte counts 1, in big order the last.
unfoldable pub significance : (big : Bool) (n i : ℕ) → ℕ
significance false n i = i
significance true n i = n - 1 - i

-- The value of bytes, in the order in which they lie in memory: each byte times 256 to that power, summed.
unfoldable pub value_of : (big : Bool) → List ℕ → ℕ
value_of big bs = sum (length bs) (λ i. get_or bs i 0 * 256 ^ significance big (length bs) i)

-- The n bytes of a value, in the order in which they lie in memory.
unfoldable pub bytes_of : (big : Bool) (n v : ℕ) → List ℕ
bytes_of big n v = tabulate n (λ i. digit 256 v (significance big n i))
