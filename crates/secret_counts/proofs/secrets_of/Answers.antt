-- `secret_counts::secrets_of` meets its contract.
use Rattle.std.proofs.Common.{◌≡◌, not, eqb, ◌∙◌, rules}
use Rattle.std.specs.List.{sum_by}
use mir.Val.{bool_byte}
use Rattle.secret_counts.proofs.Filling.{counted}
use Rattle.secret_counts.proofs.secrets_of.Goals as goal

pub returns : goal.returns
returns c =
    let e : c.sum.result ≡ sum_by (λ l. bool_byte (not (eqb l 0))) c.args.labels.now = search rules in
    e ∙ counted _
