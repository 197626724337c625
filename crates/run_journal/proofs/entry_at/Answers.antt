-- `run_journal::entry_at` meets its contract.
use mathlib.Core.Path.{refl}
use Rattle.run_journal.specs.Journal.{entry_in}
use Rattle.run_journal.proofs.entry_at.Goals as goal

pub returns : goal.returns
unfolding entry_in
returns c = rw c.described_by.ensures refl
