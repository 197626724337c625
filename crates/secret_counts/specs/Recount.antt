-- How many bytes of a space are secret: a count for each block of 64 bytes, then the total.
use Rattle.std.specs.Prelude.{ℕ, ◌+◌, ◌*◌, ◌/◌, Bool, not, List, [], ◌∷◌, ◌++◌, length, take, drop, ◌==◌}
use Rattle.word.specs.Sum.{tabulate}
use Rattle.integer.specs.Operations.{flag}

-- Bytes of a block.
abbrev pub block_bytes : ℕ
block_bytes = 64

-- The blocks of a space of `extent` bytes: extent / 64, rounded up, since the last may be shorter.
unfoldable pub blocks : (extent : ℕ) → ℕ
blocks extent = (extent + 63) / block_bytes

-- The words of its counts: one for each block, then the total.
unfoldable pub count_words : (extent : ℕ) → ℕ
count_words extent = blocks extent + 1

-- A byte with another label than 0 is secret.
unfoldable pub is_secret : (label : ℕ) → Bool
is_secret label = not (label == 0)

-- How many of some labels are secret.
unfoldable pub secrets : List ℕ → ℕ
secrets [] = 0
secrets (l ∷ ls) = flag (is_secret l) + secrets ls

-- The labels of block b.
unfoldable pub block_of : (labels : List ℕ) → (b : ℕ) → List ℕ
block_of labels b = drop (block_bytes * b) (take (block_bytes * b + block_bytes) labels)

-- A recount: the words as they are when they are true.
unfoldable pub recount : (labels : List ℕ) → List ℕ
recount labels = tabulate (blocks (length labels)) (λ b. secrets (block_of labels b)) ++ (secrets labels ∷ [])

-- Counts filled from the labels; further words stay as lent.
unfoldable pub filled : (labels counts : List ℕ) → List ℕ
filled labels counts = recount labels ++ drop (count_words (length labels)) counts
