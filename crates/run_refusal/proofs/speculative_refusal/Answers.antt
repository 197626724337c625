use mathlib.Core.Path.{refl, ◌∙◌}
use Rattle.operation.proofs.Numbers.{passes}
use Rattle.speculation.specs.Speculation.{most_ahead, journal_words, speculative_refusal}
use Rattle.run_refusal.proofs.Journal.{journal_first}
use Rattle.run_refusal.proofs.speculative_refusal.Goals as goal

pub returns : goal.returns
unfolding speculative_refusal most_ahead journal_words
returns c =
    c.labelled_refusal.ensures ∙ rw (passes _ _ _ c.in_ok-unless.ensures, journal_first) refl
