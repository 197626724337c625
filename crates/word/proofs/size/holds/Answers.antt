-- `word::size::holds` meets its contract.
use mathlib.Core.Path.{sym, ◌∙◌}
use native.Mathlib.Omega.{arith}
use borrow.Author.Tests.{lt-ltb, le-leb}
use Rattle.word.proofs.Powers.{size_mono}
use Rattle.word.proofs.size.holds.Goals as goal

pub returns-then-size-ge8 : goal.returns-then-size-ge8
returns-then-size-ge8 c =
    let a = c.args in
    le-leb 8 a.size c.if-size-ge8.true ∙ sym (lt-ltb a.x _ (omega (arith, size_mono 8 a.size c.if-size-ge8.true, c.ranges.x.fits)))
