-- `secret_counts::count_words` meets its contract.
use Rattle.std.proofs.Common.{arith}
use Rattle.secret_counts.specs.Recount.{blocks, count_words}
use Rattle.secret_counts.proofs.count_words.Goals as goal

pub returns : goal.returns
unfolding count_words blocks
returns c = omega (arith, c.div_ceil.ensures)
