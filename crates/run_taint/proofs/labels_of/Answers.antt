-- `run_taint::labels_of` meets its contract.
use Rattle.run_taint.proofs.LabelWords.{word_ordered}
use Rattle.run_taint.proofs.labels_of.Goals as goal

pub returns : goal.returns
returns c =
    let bytes = c.are_bytes.ensures in
    word_ordered _ _ _ bytes _ c.labels_at.ensures _ c.ordered.ensures.bytes c.ordered.ensures.below
