-- `run_memory::labels::ordered` meets its contract.
use mathlib.Core.Path.{refl}
use Rattle.word.specs.Word.{significance}
use Rattle.run_memory.proofs.Secrets.{turned_digits, turned_below}
use Rattle.run_memory.proofs.labels.ordered.Goals as goal

pub returns-then-not-big : goal.returns-then-not-big
unfolding significance
returns-then-not-big c = rw (c.if-not-big.true) record { bytes = (λ k h. refl); below = λ h. h }

pub returns : goal.returns
returns c =
    let most = c.requires.1 in
    rw (c.if-not-big.false)
    record { bytes = turned_digits _ refl _ _ c.scatter.ensures _ c.gather.ensures _ most _ refl; below = λ h. turned_below _ refl _ _ c.scatter.ensures _ c.gather.ensures _ most _ refl }
