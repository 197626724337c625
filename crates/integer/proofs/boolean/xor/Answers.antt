use Rattle.std.proofs.Common.{◌∙◌}
use mathlib.Core.Bool.{xor}
use Rattle.integer.specs.Operations.{truth, bool_xor}
use Rattle.integer.proofs.Booleans.{flag_is}
use Rattle.integer.proofs.boolean.xor.Goals as goal

pub returns : goal.returns
unfolding truth bool_xor xor
returns c = c.from.ensures ∙ flag_is _
