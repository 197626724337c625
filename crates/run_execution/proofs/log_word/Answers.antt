-- `run_execution::log_word` meets its contract.
use Rattle.machine.specs.Run.{log_word}
use mathlib.Core.Path.{refl}
use Rattle.run_execution.proofs.log_word.Goals as goal

pub returns : goal.returns
unfolding log_word
returns c = refl
