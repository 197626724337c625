use Rattle.std.proofs.Common.{◌∙◌}
use Rattle.integer.proofs.Bits.{popcount_is}
use Rattle.integer.proofs.unsigned.popcount.Goals as goal

pub returns : goal.returns
returns c = c.from.ensures ∙ popcount_is _ _ c.requires
