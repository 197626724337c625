-- What a showable place satisfies, and how long the shown part is.
use Prim.Native.Nat.{ℕ, ◌+◌, ◌-◌, ◌≤◌}
use mathlib.Core.Bool.{true}
use mathlib.Core.Path.{◌≡◌}
use native.Mathlib.Omega.{arith}
use borrow.Author.Tests.{leb-true}
use lib.Dec.{leb}
use Rattle.integer.proofs.Booleans.{both}
use Rattle.word.specs.Word.{is_size}
use Rattle.show.specs.Show.{showable}

pub showable_end : (n offset size : ℕ) → showable n offset size ≡ true → offset + size ≤ n
unfolding showable
showable_end n offset size e = leb-true (offset + size) n (both (is_size size) (leb (offset + size) n) e).1

pub end_less_start : (a b : ℕ) → a + b - a ≡ b
end_less_start a b = omega arith
