-- `run_memory::labels::has_secret` meets its contract.
use mathlib.Core.Path.{◌∙◌}
use Rattle.machine.proofs.Conditions.{has-secret}
use Rattle.run_memory.proofs.Secrets.{number_secret}
use Rattle.run_memory.proofs.labels.has_secret.Goals as goal

pub returns : goal.returns
returns c = rw c.labels_at.ensures (number_secret _ _ ∙ has-secret _ _)
