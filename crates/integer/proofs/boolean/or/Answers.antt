use Rattle.std.proofs.Common.{◌∙◌}
use Rattle.integer.specs.Operations.{truth, bool_or}
use Rattle.integer.proofs.Booleans.{flag_is}
use Rattle.integer.proofs.boolean.or.Goals as goal

pub returns : goal.returns
unfolding truth bool_or
returns c = c.from.ensures ∙ flag_is _
