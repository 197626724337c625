use mathlib.Core.Path.{sym, ap, ◌∙◌}
use mathlib.Core.Bool.{false}
use lib.Dec.{lit≤}
use Rattle.word.specs.Word.{value_of}
use Rattle.machine.specs.Memory.{Memory, space_of, with_space, bytes_at}
use Rattle.run_memory.proofs.Relabelling.{marked_same, marked_nowhere, marked_in, may_relabel}
use Rattle.run_memory.proofs.labels.mark.Goals as goal

pub returns-then-old-new-clause-marked : goal.returns-then-old-new-clause-marked
returns-then-old-new-clause-marked c =
    marked_same _ _ _ _
    c.reading.ensures.bytes
    c.requires.placed (sym (c.labels_at-old.ensures ∙ ap (λ (m : Memory). value_of false (bytes_at m c.args.v)) c.reading.ensures.same) ∙ c.if-old-new.true ∙ c.low-new.ensures)

pub relabel-requires : goal.relabel-requires
unfolding space_of
relabel-requires c =
    may_relabel _ _ _ c.args.word 4 c.in-4.is (lit≤ tt) (lit≤ tt) c.requires.placed c.requires.counts _ _
    (c.labels_at-old.ensures ∙ ap (λ (m : Memory). value_of false (bytes_at m c.args.v)) c.reading.ensures.same) c.low-new.ensures c.if-old-new.false

pub relabel-requires-in-3 : goal.relabel-requires-in-3
unfolding space_of
relabel-requires-in-3 c =
    may_relabel _ _ _ c.args.word 3 c.in-3.is (lit≤ tt) (lit≤ tt) c.requires.placed c.requires.counts _ _
    (c.labels_at-old.ensures ∙ ap (λ (m : Memory). value_of false (bytes_at m c.args.v)) c.reading.ensures.same) c.low-new.ensures c.if-old-new.false

pub relabel-requires-in-2 : goal.relabel-requires-in-2
unfolding space_of
relabel-requires-in-2 c =
    may_relabel _ _ _ c.args.word 2 c.in-2.is (lit≤ tt) (lit≤ tt) c.requires.placed c.requires.counts _ _
    (c.labels_at-old.ensures ∙ ap (λ (m : Memory). value_of false (bytes_at m c.args.v)) c.reading.ensures.same) c.low-new.ensures c.if-old-new.false

pub returns-in-4-clause-marked : goal.returns-in-4-clause-marked
unfolding space_of with_space
returns-in-4-clause-marked c =
    marked_in _ _ _ _ 4 c.in-4.is (lit≤ tt) (lit≤ tt) _ _ (rw (← c.low-new.ensures) c.relabel.ensures.0) c.relabel.ensures.1

pub returns-in-3-clause-marked : goal.returns-in-3-clause-marked
unfolding space_of with_space
returns-in-3-clause-marked c =
    marked_in _ _ _ _ 3 c.in-3.is (lit≤ tt) (lit≤ tt) _ _ (rw (← c.low-new.ensures) c.relabel-in-3.ensures.0) c.relabel-in-3.ensures.1

pub returns-in-2-clause-marked : goal.returns-in-2-clause-marked
unfolding space_of with_space
returns-in-2-clause-marked c =
    marked_in _ _ _ _ 2 c.in-2.is (lit≤ tt) (lit≤ tt) _ _ (rw (← c.low-new.ensures) c.relabel-in-2.ensures.0) c.relabel-in-2.ensures.1

pub returns-in_default-clause-marked : goal.returns-in_default-clause-marked
returns-in_default-clause-marked c =
    let r = c.in_default.in_default-own.rest in
    marked_nowhere _ _ _ _ r.1 r.0.1 r.0.0.1
