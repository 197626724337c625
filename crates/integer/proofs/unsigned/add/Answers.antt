use Rattle.std.proofs.Common.{◌∙◌}
use Rattle.word.proofs.Powers.{low_part_lem}
use Rattle.integer.specs.Operations.{int_add}
use Rattle.integer.proofs.unsigned.add.Goals as goal

pub returns : goal.returns
unfolding int_add
returns c = c.low.ensures ∙ low_part_lem _ _ c.requires
