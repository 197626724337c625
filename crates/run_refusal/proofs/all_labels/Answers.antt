use Prim.Native.Nat.{max}
use lib.ListN.{get_or}
use Rattle.std.proofs.lemmas.Grind.{common_steps}
use mathlib.Core.Path.{◌≡◌, refl}
use native.Mathlib.Numerals.{add-one}
use native.Mathlib.Omega.{arith}
use Rattle.machine.specs.Calls.{all_labels}
use Rattle.run_refusal.proofs.Labels.{larger_low}
use Rattle.run_refusal.proofs.all_labels.Goals as goal

pub loop-label-init : goal.loop-label-init
unfolding all_labels
loop-label-init c = refl

pub loop-label-preserved : goal.loop-label-preserved
loop-label-preserved c =
    let e : c.max-most.result ≡ max c.loop-label.most (get_or c.args.labels.now c.loop-label.label-index 0) = grind (arith, common_steps) in
    rw (add-one, e) (larger_low _ _ _ (omega arith) c.loop-label.invariant)
