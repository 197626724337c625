use Rattle.std.proofs.Common.{◌∙◌}
use Rattle.integer.specs.Operations.{truth, bool_and}
use Rattle.integer.proofs.Booleans.{flag_is}
use Rattle.integer.proofs.boolean.and.Goals as goal

pub returns : goal.returns
unfolding truth bool_and
returns c = c.from.ensures ∙ flag_is _
