-- `secret_counts::move_counts` meets its contract.
use Rattle.std.proofs.Common.{◌-◌, ◌%◌, arith}
use Rattle.word.proofs.Powers.{pow_bits}
use Rattle.secret_counts.proofs.LabelWords.{total_inside, block_first, near_moved, next_first, far_moved, taken_off}
use Rattle.secret_counts.proofs.move_counts.Goals as goal

pub grow-requires : goal.grow-requires
grow-requires c =
    let p = c.requires in
    omega (arith, c.div_ceil-total.ensures, total_inside _ _ _ _ _ _ c.args.counts.now p.0 p.1 p.2 p.3 p.4 p.5 c.gained-more.ensures)

pub grow-requires-then-size-near : goal.grow-requires-then-size-near
grow-requires-then-size-near c =
    let p = c.requires in
    let inside = total_inside _ _ _ _ _ _ c.args.counts.now p.0 p.1 p.2 p.3 p.4 p.5 c.gained-more.ensures in
    let first = block_first _ _ _ _ _ _ c.args.counts.now p.0 p.1 p.2 p.3 p.4 p.5 c.gained-more.ensures in
    omega (arith, inside, first, c.grow.auto.counts)

pub returns-then-size-near : goal.returns-then-size-near
returns-then-size-near c =
    let p = c.requires in
    rw (c.grow-then-size-near.ensures, c.grow.ensures)
    (rw (← c.div_ceil-total.ensures) at (near_moved _ _ _ _ _ _ c.args.counts.now p.0 p.1 p.2 p.3 p.4 p.5 c.gained-more.ensures c.if-size-near.true))

pub grow-requires-else-size-near : goal.grow-requires-else-size-near
grow-requires-else-size-near c =
    let p = c.requires in
    let inside = total_inside _ _ _ _ _ _ c.args.counts.now p.0 p.1 p.2 p.3 p.4 p.5 c.gained-more.ensures in
    let first = block_first _ _ _ _ _ _ c.args.counts.now p.0 p.1 p.2 p.3 p.4 p.5 c.gained-more.ensures in
    omega (arith, inside, first, c.grow.auto.counts)

pub grow-requires-else-size-near-2 : goal.grow-requires-else-size-near-2
grow-requires-else-size-near-2 c =
    let p = c.requires in
    let inside = total_inside _ _ _ _ _ _ c.args.counts.now p.0 p.1 p.2 p.3 p.4 p.5 c.gained-more.ensures in
    let next = next_first _ _ _ _ _ _ c.args.counts.now p.0 p.1 p.2 p.3 p.4 p.5 c.gained-more.ensures c.if-size-near.false _ _
    (rw (pow_bits (64 - c.args.at % 64)) c.gained-far.ensures) (taken_off _ _ (c.gained-more.type_inv) (c.gained-far.type_inv)) in
    omega (arith, inside, next, c.grow.auto.counts, c.grow-else-size-near.auto.counts)

pub returns-else-size-near : goal.returns-else-size-near
returns-else-size-near c =
    let p = c.requires in
    rw (c.grow-else-size-near-2.ensures, c.grow-else-size-near.ensures, c.grow.ensures)
    (rw (← c.div_ceil-total.ensures) at (far_moved _ _ _ _ _ _ c.args.counts.now p.0 p.1 p.2 p.3 p.4 p.5 c.gained-more.ensures c.if-size-near.false _ _
    (rw (pow_bits (64 - c.args.at % 64)) c.gained-far.ensures) (taken_off _ _ (c.gained-more.type_inv) (c.gained-far.type_inv))))
