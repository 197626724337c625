-- One reading rule for both byte orders. Little order is the rule to check; big order reads bytes as little order reads them reversed, and
-- writes the bytes of a value as little order does, reversed.
use Rattle.std.specs.Prelude.{ℕ, ◌+◌, ◌*◌, ◌/◌, ◌%◌, ◌^◌, ◌≤◌, Bool, true, false, List, reverse, ◌≡◌, length, get_or}
use Rattle.std.proofs.lemmas.List.Edits.{sets}
use Rattle.word.specs.Sum.{sum, tabulate}
use Rattle.word.specs.Word.{part, value_of, bytes_of}

-- A call of `gather` in an order, of `size` bytes at `at`, that answers `value`: its `requires` and its `ensures`.
pub record GatherCall (big : Bool) (bytes : List ℕ) (at size value : ℕ) : Type 0 where
  pub requires : (size ≤ 8) × (at + size ≤ length bytes)
  pub ensures : value ≡ value_of big (part bytes at size)

-- A call of `scatter` in an order, of `value` to `size` bytes at `at`, that leaves `bytes'`.
pub record ScatterCall (big : Bool) (bytes : List ℕ) (at size value : ℕ) (bytes' : List ℕ) : Type 0 where
  pub requires : (size ≤ 8) × (at + size ≤ length bytes)
  pub ensures : bytes' ≡ sets bytes at (bytes_of big size value)

-- What is proved: of lists of any length, and so of 1 to 8 bytes; of calls, for every size that they take.
pub record BigIsLittleReversed : Type 0 where
  -- Little order: the byte at place i counts 256^i.
  pub little_reads : (bs : List ℕ) → value_of false bs ≡ sum (length bs) (λ i. get_or bs i 0 * 256 ^ i)
  pub little_writes : (n v : ℕ) → bytes_of false n v ≡ tabulate n (λ i. v / 256 ^ i % 256)
  -- Big order: the same, reversed.
  pub big_reads : (bs : List ℕ) → value_of true bs ≡ value_of false (reverse bs)
  pub big_writes : (n v : ℕ) → bytes_of true n v ≡ reverse (bytes_of false n v)
  -- `gather` of a part in big order answers what `gather` of the reversed bytes, wherever they lie, answers in little order.
  pub gathers : {bytes reversed : List ℕ} {at at' size value value' : ℕ}
      → GatherCall true bytes at size value → GatherCall false reversed at' size value'
      → part reversed at' size ≡ reverse (part bytes at size) → value ≡ value'
  -- What `scatter` of a value leaves in big order is what it leaves in little order, wherever that is, reversed.
  pub scatters : {big big' little little' : List ℕ} {at at' size value : ℕ}
      → ScatterCall true big at size value big' → ScatterCall false little at' size value little'
      → part big' at size ≡ reverse (part little' at' size)
