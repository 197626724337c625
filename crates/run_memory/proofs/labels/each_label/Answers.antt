use Rattle.run_memory.proofs.Secrets.{same_labels}
use Rattle.run_memory.proofs.labels.each_label.Goals as goal

pub returns : goal.returns
returns c = same_labels _ c.requires
