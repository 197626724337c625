-- Counts that moved by as much as the labels did, modulo 2^64: the code is held to this, whatever the counts held.
use Rattle.std.specs.Prelude.{◌≡◌, ℕ, suc, ◌+◌, ◌/◌, ◌%◌, ◌^◌, ◌<◌, ◌≤◌, Bool, cond, ◌||◌, List, [], ◌∷◌, length, ◌==◌, slice_index}
use Rattle.integer.specs.Operations.{flag}
use Rattle.secret_counts.specs.Recount.{block_bytes, blocks, count_words, is_secret}

-- Word j counts the label at place i of a space of `extent` bytes.
unfoldable pub covers : (extent j i : ℕ) → Bool
covers extent j i = j == blocks extent || j == i / block_bytes

-- What word j counts of the labels from place i on, where a label counts its weight.
unfoldable pub tally : (weight : ℕ → ℕ) → (extent j i : ℕ) → (labels : List ℕ) → ℕ
tally weight extent j i [] = 0
tally weight extent j i (l ∷ ls) = cond (covers extent j i) (weight l) 0 + tally weight extent j (suc i) ls

-- What some labels count together.
unfoldable pub weigh : (weight : ℕ → ℕ) → (labels : List ℕ) → ℕ
weigh weight [] = 0
weigh weight (l ∷ ls) = weight l + weigh weight ls

-- A secret byte counts one.
unfoldable pub secret_weight : (label : ℕ) → ℕ
secret_weight label = flag (is_secret label)

-- What the code counts of a byte: its lowest bit, which of a label is the label.
unfoldable pub low_bit : (label : ℕ) → ℕ
low_bit label = label % 2

-- The counts of a space of `extent` bytes, whose labels from place i on become others.
pub record Moved (weight : ℕ → ℕ) (extent i : ℕ) (before after counts counts' : List ℕ) : Type 0 where
  pub same_length : length counts' ≡ length counts
  pub words : (j : ℕ) → j < count_words extent
      → (slice_index counts' j + tally weight extent j i before) % 2 ^ 64 ≡ (slice_index counts j + tally weight extent j i after) % 2 ^ 64
  pub further : (j : ℕ) → count_words extent ≤ j → slice_index counts' j ≡ slice_index counts j
