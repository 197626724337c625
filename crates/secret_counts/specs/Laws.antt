-- Label changes and recounts: the counts after are those before, plus the recount after, less the recount before.
use Rattle.std.specs.Prelude.{◌≡◌, ℕ, ◌+◌, ◌%◌, ◌^◌, ◌<◌, ◌≤◌, List, [], ◌∷◌, length, take, replicate, slice_index}
use Rattle.secret_counts.specs.Recount.{count_words, recount, filled}
use Rattle.secret_counts.specs.Changes.{label_changed, counts_changed}

-- Every word is below 2^64.
abbrev pub Words64 : List ℕ → Type 0
Words64 ws = (k : ℕ) → slice_index ws k < 2 ^ 64

-- Word by word and modulo 2^64, `counts'` and the recount before are as much as `counts` and the recount after; further words stay as lent.
pub record Turned (before after counts counts' : List ℕ) : Type 0 where
  pub same_length : length counts' ≡ length counts
  pub words : (j : ℕ) → j < count_words (length before)
      → (slice_index counts' j + slice_index (recount before) j) % 2 ^ 64 ≡ (slice_index counts j + slice_index (recount after) j) % 2 ^ 64
  pub further : (j : ℕ) → count_words (length before) ≤ j → slice_index counts' j ≡ slice_index counts j

-- The counts are true: their first words are a recount.
abbrev pub TrueCounts : (labels counts : List ℕ) → Type 0
TrueCounts labels counts = take (count_words (length labels)) counts ≡ recount labels

-- All of these.
pub record CountLaws : Type 0 where
  pub turned : (before after counts : List ℕ) → length after ≡ length before → count_words (length before) ≤ length counts
      → Turned before after counts (counts_changed before after counts)
  -- Words of 64 bits stay such words, and so the words of `Turned` are told.
  pub words64 : (before after counts : List ℕ) → Words64 counts → Words64 (counts_changed before after counts)
  pub told : (before after counts first second : List ℕ) → Words64 first → Words64 second
      → Turned before after counts first → Turned before after counts second → first ≡ second
  -- True counts stay true, in a space of fewer than 2^64 bytes.
  pub kept : (before after counts : List ℕ) → length after ≡ length before → length before < 2 ^ 64 → TrueCounts before counts
      → TrueCounts after (counts_changed before after counts)
  -- Filling makes them true.
  pub fills : (labels counts : List ℕ) → count_words (length labels) ≤ length counts → TrueCounts labels (filled labels counts)

-- Known answers.
pub record KnownCounts : Type 0 where
  pub words : (count_words 0 ≡ 1) × (count_words 1 ≡ 2) × (count_words 64 ≡ 2) × (count_words 65 ≡ 3) × (count_words 65536 ≡ 1025)
  -- Of 65 secret labels the last block has one.
  pub recounted : recount (replicate 65 1) ≡ 64 ∷ 1 ∷ 65 ∷ []
  -- The last of 65 labels becomes secret: its block's count wraps, the total grows, and the further word stays.
  pub grows : label_changed 65 64 0 1 (5 ∷ 0xffffffffffffffff ∷ 7 ∷ 9 ∷ []) ≡ 5 ∷ 0 ∷ 8 ∷ 9 ∷ []
  -- The first becomes public: its block's count wraps the other way.
  pub shrinks : label_changed 65 0 1 0 (0 ∷ 3 ∷ 8 ∷ 9 ∷ []) ≡ 0xffffffffffffffff ∷ 3 ∷ 7 ∷ 9 ∷ []
  -- One is written as it was.
  pub stays : label_changed 65 63 1 1 (0 ∷ 3 ∷ 8 ∷ []) ≡ 0 ∷ 3 ∷ 8 ∷ []
