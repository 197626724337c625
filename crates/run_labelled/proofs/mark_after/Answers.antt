-- `run_labelled::mark_after` meets its contract.
use mathlib.Core.Path.{subst}
use lib.Dec.{eqb}
use Rattle.machine.specs.Memory.{Memory}
use Rattle.machine.specs.Effect.{operation_at}
use Rattle.run_taint.specs.Taint.{LabelWord}
use Rattle.machine.specs.Program.{big_endian}
use Rattle.machine.proofs.MovedCounts.{moved_spaces_none}
use Rattle.run_plan.proofs.Places.{in_words}
use Rattle.run_labelled.proofs.Marking.{marked, unmarked}
use Rattle.run_labelled.proofs.mark_after.Goals as goal

pub logged_offset-offset-requires : goal.logged_offset-offset-requires
logged_offset-offset-requires c =
    let h = (c.requires c.if-completed.true).0 in
    (in_words _ _ h.valid _ h.index, h.logged)

pub target_at-target-requires : goal.target_at-target-requires
target_at-target-requires c =
    let h = (c.requires c.if-completed.true).0 in
    in_words _ _ h.valid _ h.index

pub returns-then-target-ne-ABSENT-clause-labels : goal.returns-then-target-ne-ABSENT-clause-labels
unfolding big_endian
returns-then-target-ne-ABSENT-clause-labels c =
    rw c.if-completed.true
    (marked _ _ _ c.logged_offset-offset.ensures _ c.target_at-target.ensures _ _ _ _ (subst (λ (m : Memory). LabelWord (eqb c.args.settings.order 1) m (operation_at c.args.list.now c.args.i) c.logged_offset-offset.result c.labels_written-word.result) c.reading.ensures.same c.labels_written-word.ensures) c.mark.ensures.marked.stored)

pub returns-then-target-ne-ABSENT-clause-counts : goal.returns-then-target-ne-ABSENT-clause-counts
returns-then-target-ne-ABSENT-clause-counts c = c.mark.ensures.marked.moved

pub returns-else-target-ne-ABSENT-clause-labels : goal.returns-else-target-ne-ABSENT-clause-labels
returns-else-target-ne-ABSENT-clause-labels c =
    let h = (c.requires c.if-completed.true).0 in
    rw c.if-completed.true (unmarked _ _ _ c.logged_offset-offset.ensures _ c.target_at-target.ensures _ _ c.if-target-ne-ABSENT.false h.placed)

pub returns-else-target-ne-ABSENT-clause-counts : goal.returns-else-target-ne-ABSENT-clause-counts
returns-else-target-ne-ABSENT-clause-counts c = moved_spaces_none _ _
