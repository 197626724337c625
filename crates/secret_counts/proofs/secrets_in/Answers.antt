use Rattle.std.proofs.Common.{◌∙◌}
use Rattle.secret_counts.proofs.LabelWords.{eight_masked}
use Rattle.secret_counts.proofs.secrets_in.Goals as goal

pub returns : goal.returns
returns c = c.from.ensures ∙ eight_masked _
