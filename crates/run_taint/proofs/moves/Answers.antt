-- `run_taint::moves` meets its contract.
use Rattle.run_taint.proofs.LabelWords.{late_tests}
use Rattle.run_taint.proofs.moves.Goals as goal

pub returns : goal.returns
returns c = late_tests _ c.requires
