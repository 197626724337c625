-- `run_memory::space::slices_are_words` meets its contract.
use Rattle.machine.proofs.MovedCounts.{of_words}
use Rattle.run_memory.proofs.space.slices_are_words.Goals as goal

pub returns : goal.returns
returns c = of_words _ _ _ (λ j. (c.type_inv.unique j).fits) (λ j. (c.type_inv.register j).fits) (λ j. (c.type_inv.ram j).fits)
