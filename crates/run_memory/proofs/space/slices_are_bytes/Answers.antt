-- `run_memory::space::slices_are_bytes` meets its contract.
use Rattle.run_memory.proofs.Spaces.{of_bytes}
use Rattle.run_memory.proofs.space.slices_are_bytes.Goals as goal

pub returns : goal.returns
returns c = of_bytes _ _ _ (λ j. (c.type_inv.unique j).fits) (λ j. (c.type_inv.register j).fits) (λ j. (c.type_inv.ram j).fits)
