-- The journal's first entries become zeros.
use Prim.Native.Nat.{ℕ, ◌*◌, ◌≤◌}
use native.Mathlib.Nat.{zero-add}
use native.Mathlib.Omega.{arith}
use mathlib.Core.Path.{◌≡◌, refl, ◌∙◌}
use mathlib.Core.List.{List}
use lib.ListN.{length}
use lib.Seq.{sets-eq}
use Rattle.word.specs.Sum.{tabulate}
use Rattle.word.proofs.Sums.{tabulate-length, tabulate_same}
use Rattle.word.proofs.Stores.{Storing, storing_all}
use Rattle.speculation.specs.Speculation.{journal_words, journal_after}
use Rattle.run_journal.specs.Journal.{entry_words}

pub cleared : (journal : List ℕ) (n : ℕ) (now : List ℕ) → entry_words * n ≤ length journal → (k : ℕ) → Storing (λ j. 0) (entry_words * n) 0 journal now k
    → entry_words * n ≤ k → now ≡ journal_after n journal
unfolding journal_after journal_words
cleared journal n now room k h l =
    storing_all h l
    ∙ sets-eq (tabulate (entry_words * n) (λ j. 0)) journal 0 (rw (tabulate-length (entry_words * n) (λ j. 0)) (omega arith))
    ∙ rw (tabulate-length (entry_words * n) (λ j. 0), tabulate_same (entry_words * n) 0, zero-add) refl
