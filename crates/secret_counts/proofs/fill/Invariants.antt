-- `secret_counts::fill` meets its contract. The loop's invariant: the counts of the blocks passed are stored, and their sum is the total so far.
use Rattle.std.proofs.Common.{◌≡◌, ◌*◌, take}
use Rattle.word.proofs.Stores.{Storing}
use Rattle.secret_counts.specs.Recount.{secrets, block_of}
use Rattle.secret_counts.proofs.fill.Given as goal

abbrev pub invariant-loop-block : goal.invariant-loop-block
invariant-loop-block l =
    Storing (λ b. secrets (block_of l.labels b)) l.blocks 0 l.initial.counts l.counts l.block × (l.total ≡ secrets (take (64 * l.block) l.labels))
