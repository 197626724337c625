-- `run_taint::extended_word` meets its contract.
use Rattle.run_taint.proofs.LabelWords.{top_small, extended_fits, extended_digits}
use Rattle.run_taint.proofs.extended_word.Goals as goal

pub each_label-requires : goal.each_label-requires
each_label-requires c = let p = c.requires in top_small _ _ p.0 p.1 p.2

pub overflow_add-result : goal.overflow_add-result
overflow_add-result c = let p = c.requires in record { fits = extended_fits _ _ p.0 p.1 p.2 _ c.each_label.ensures }

pub returns : goal.returns
returns c = let p = c.requires in extended_digits _ _ p.0 p.1 p.2 _ c.each_label.ensures
