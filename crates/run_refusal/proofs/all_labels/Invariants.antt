-- The loop's invariant: the largest label so far is 0 or 1 where all of them are.
use mathlib.Core.Path.{◌≡◌}
use lib.Dec.{leb}
use lib.ListN.{take}
use Rattle.machine.specs.Calls.{all_labels}
use Rattle.run_refusal.proofs.all_labels.Given as goal

abbrev pub invariant-loop-label : goal.invariant-loop-label
invariant-loop-label l = leb l.most 1 ≡ all_labels (take l.label-index l.labels)
