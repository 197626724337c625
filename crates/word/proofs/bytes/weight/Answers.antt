-- `word::bytes::weight` meets its contract.
use mathlib.Core.Path.{refl}
use native.Mathlib.Omega.{arith}
use Rattle.word.specs.Word.{significance}
use Rattle.word.proofs.bytes.weight.Goals as goal

pub returns-then-big : goal.returns-then-big
unfolding significance
returns-then-big c = rw c.if-big.true (refl, omega arith)

pub returns-else-big : goal.returns-else-big
unfolding significance
returns-else-big c = rw c.if-big.false (refl, c.requires)
