use Rattle.std.proofs.Common.{◌∙◌}
use Rattle.word.proofs.Powers.{low_part_lem}
use Rattle.integer.specs.Operations.{int_mult}
use Rattle.integer.proofs.unsigned.mult.Goals as goal

pub returns : goal.returns
unfolding int_mult
returns c = c.low.ensures ∙ low_part_lem _ _ c.requires
