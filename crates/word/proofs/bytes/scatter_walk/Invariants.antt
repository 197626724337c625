-- `word::bytes::scatter_walk` meets its contract. The loop's invariant: the bytes passed are written, and nothing else (`Storing`).
use Rattle.word.specs.Sum.{digit}
use Rattle.word.specs.Word.{significance}
use Rattle.word.proofs.Stores.{Storing}
use Rattle.word.proofs.bytes.scatter_walk.Given as goal

abbrev pub invariant-loop-i : goal.invariant-loop-i
invariant-loop-i l = Storing (λ k. digit 256 l.v (significance l.big l.size k)) l.size l.at l.initial.s l.s l.i
