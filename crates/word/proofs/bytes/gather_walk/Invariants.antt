-- `word::bytes::gather_walk` meets its contract. The loop's invariant: the value so far is the sum of the bytes passed, by their weights.
use mathlib.Core.Path.{◌≡◌}
use Rattle.word.proofs.Laws.{gathered}
use Rattle.word.proofs.bytes.gather_walk.Given as goal

abbrev pub invariant-loop-i : goal.invariant-loop-i
invariant-loop-i l = l.v ≡ gathered l.big l.s l.at l.size l.i
