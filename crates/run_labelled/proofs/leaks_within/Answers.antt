-- `run_labelled::leaks_within` meets its contract.
use Rattle.std.proofs.Common.{arith}
use Rattle.std.proofs.lemmas.Grind.{common_steps}
use Rattle.run_labelled.proofs.leaks_within.Goals as goal

pub leaks_at-requires : goal.leaks_at-requires
leaks_at-requires c = rw c.reading.ensures.same (grind (arith, common_steps))

pub returns-then-asked : goal.returns-then-asked
returns-then-asked c = rw (← c.reading.ensures.same) (grind (arith, common_steps))
