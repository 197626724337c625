-- `run_journal::clear` meets its contract.
use Prim.Native.Nat.{◌*◌, ◌-◌}
use Rattle.word.proofs.Stores.{Storing}
use Rattle.run_journal.specs.Journal.{entry_words}
use Rattle.run_journal.proofs.clear.Given as goal

-- the words passed are 0, and nothing else is stored
abbrev pub invariant-loop-k : goal.invariant-loop-k
invariant-loop-k l = Storing (λ j. 0) (entry_words * l.n) 0 l.initial.journal l.journal l.k

abbrev pub decreases-loop-k : goal.decreases-loop-k
decreases-loop-k l = entry_words * l.n - l.k
