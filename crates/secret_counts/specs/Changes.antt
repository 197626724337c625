-- Each label changed moves its block's count and the total by one, modulo 2^64.
use Rattle.std.specs.Prelude.{ℕ, suc, ◌+◌, ◌-◌, ◌/◌, ◌%◌, ◌^◌, cond, List, [], ◌∷◌, length, slice_index, slice_set}
use Rattle.secret_counts.specs.Recount.{block_bytes, blocks, is_secret}

-- A count where a label that it counts changes from `old` to `new`: one more where the byte becomes secret, one less where it becomes public.
-- A byte that stays what it is moves nothing.
unfoldable pub count_after : (old new count : ℕ) → ℕ
count_after old new count =
    cond (is_secret new) (cond (is_secret old) count ((count + 1) % 2 ^ 64)) (cond (is_secret old) ((count + (2 ^ 64 - 1)) % 2 ^ 64) count)

-- Word j of the counts moves.
unfoldable pub word_moved : (j old new : ℕ) → (counts : List ℕ) → List ℕ
word_moved j old new counts = slice_set counts j (count_after old new (slice_index counts j))

-- The label at place i of a space of `extent` bytes changes.
unfoldable pub label_changed : (extent i old new : ℕ) → (counts : List ℕ) → List ℕ
label_changed extent i old new counts = word_moved (blocks extent) old new (word_moved (i / block_bytes) old new counts)

-- The labels from place i on change, one after the other.
unfoldable pub labels_changed : (extent i : ℕ) → (before after counts : List ℕ) → List ℕ
labels_changed extent i [] after counts = counts
labels_changed extent i (old ∷ before) [] counts = counts
labels_changed extent i (old ∷ before) (new ∷ after) counts = labels_changed extent (suc i) before after (label_changed extent i old new counts)

-- The counts of a space whose labels change.
unfoldable pub counts_changed : (before after counts : List ℕ) → List ℕ
counts_changed before after counts = labels_changed (length before) 0 before after counts
