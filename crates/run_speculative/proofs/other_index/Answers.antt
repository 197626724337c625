-- `run_speculative::other_index` meets its contract.
use mathlib.Core.Path.{refl}
use Rattle.run_speculative.proofs.Ways.{other_found}
use Rattle.run_speculative.proofs.other_index.Goals as goal

pub returns : goal.returns
returns c = other_found _ _ _ _ c.varnode_at-destination.ensures _ _ refl c.pick.ensures
