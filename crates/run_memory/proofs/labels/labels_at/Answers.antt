-- `run_memory::labels::labels_at` meets its contract.
use mathlib.Core.Path.{sym, ◌∙◌}
use Rattle.run_memory.proofs.Spaces.{labels_gathered}
use Rattle.run_memory.proofs.Secrets.{constant_labels}
use Rattle.run_memory.proofs.labels.labels_at.Goals as goal

pub returns-then-v-lt-UNIQUE : goal.returns-then-v-lt-UNIQUE
returns-then-v-lt-UNIQUE c = sym (constant_labels _ _ c.if-v-lt-UNIQUE.true)

pub returns : goal.returns
returns c = c.gather.ensures ∙ labels_gathered _ _ _ c.space_of-bytes.ensures
