-- The known answers of counts.
use Rattle.std.proofs.Common.{refl}
use Rattle.word.specs.Sum.{tabulate}
use Rattle.integer.specs.Operations.{flag}
use Rattle.secret_counts.specs.Recount.{blocks, count_words, is_secret, secrets, block_of, recount}
use Rattle.secret_counts.specs.Changes.{count_after, word_moved, label_changed}
use Rattle.secret_counts.specs.Laws.{KnownCounts}

pub known_counts : KnownCounts
unfolding count_words blocks recount secrets block_of is_secret flag tabulate label_changed word_moved count_after
known_counts = record { words = (refl, refl, refl, refl, refl); recounted = refl; grows = refl; shrinks = refl; stays = refl }
