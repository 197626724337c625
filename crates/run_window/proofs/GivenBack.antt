-- The counts of a window: they move with its labels, and the undoing gives them back.
use mathlib.Core.Path.{◌≡◌, subst}
use mathlib.Core.Bool.{true}
use Rattle.secret_counts.specs.Moved.{low_bit}
use Rattle.machine.specs.Memory.{Memory, lengths_of}
use Rattle.machine.specs.Counts.{counts_fit}
use Rattle.machine.specs.MovedCounts.{MovedSpaces}
use Rattle.machine.specs.Recounts.{WordsOf}
use Rattle.machine.proofs.MovedCounts.{moved_spaces_none, moved_spaces_on, moved_spaces_told, moved_spaces_lengths}

module _ {labels labels' counts counts' : Memory} (lengths : lengths_of labels' ≡ lengths_of labels) (moved : MovedSpaces low_bit labels labels' counts counts') where
  pub still_fit : counts_fit (lengths_of labels) (lengths_of counts) ≡ true → counts_fit (lengths_of labels') (lengths_of counts') ≡ true
  still_fit t = rw (lengths, moved_spaces_lengths moved) t

  -- 64-bit words, whatever they held
  pub given_back : {labels'' counts'' : Memory} → MovedSpaces low_bit labels' labels'' counts' counts'' → labels'' ≡ labels → WordsOf counts'' → WordsOf counts
      → counts'' ≡ counts
  given_back {counts'' = counts''} back e w w₀ =
      let whole : MovedSpaces low_bit labels labels counts counts'' =
      subst (λ (l : Memory). MovedSpaces low_bit labels l counts counts'') e (moved_spaces_on lengths moved back) in
      moved_spaces_told w w₀ whole (moved_spaces_none labels counts)
