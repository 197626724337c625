use Rattle.std.proofs.Common.{◌≡◌, ◌+◌, ◌*◌, length, take, sym, refl, ap, ◌∙◌, zero-add, arith, length-take}
use Rattle.word.proofs.Stores.{storing_none, storing_more, storing_all, storing_length}
use Rattle.secret_counts.specs.Recount.{blocks, count_words, secrets, block_of}
use Rattle.secret_counts.proofs.Filling.{block_is, secrets_few, total_more, total_all, counts-filled}
use Rattle.secret_counts.proofs.fill.Goals as goal

-- the secret labels of a block, and the total of a few labels more
module _ (c : goal.After-secrets_of-secrets) where
  block-at : c.secrets_of-secrets.result ≡ secrets (block_of c.args.labels.now c.loop-block.block)
  block-at = c.secrets_of-secrets.ensures ∙ ap secrets (block_is _ _ _ c.min-to.ensures)

  total-at : c.loop-block.total + c.secrets_of-secrets.result ≡ secrets (take (64 * c.loop-block.block + 64) c.args.labels.now)
  total-at = rw (c.loop-block.invariant.1, block-at) (sym (total_more c.args.labels.now c.loop-block.block))

pub loop-block-init : goal.loop-block-init
unfolding secrets
loop-block-init c = (storing_none _ _ _ _, refl)

pub overflow_add-total : goal.overflow_add-total
overflow_add-total c =
    let labels = c.args.labels.now in
    let n = 64 * c.loop-block.block + 64 in
    omega (arith, total-at c, secrets_few (take n labels), length-take n labels, c.requires.0)

pub loop-block-preserved : goal.loop-block-preserved
loop-block-preserved c =
    let l = c.loop-block in
    let e : 64 * (l.block + 1) ≡ 64 * l.block + 64 = omega arith in
    let stored = rw zero-add at (storing_more l.invariant.0 c.loop-block-test.true (block-at c)) in
    (stored, rw e (total-at c))

pub bounds-counts-block : goal.bounds-counts-block
unfolding count_words blocks
bounds-counts-block c =
    omega (arith, c.div_ceil-blocks.ensures, c.requires.1, c.loop-block-test.true, storing_length c.loop-block.invariant.0)

pub bounds-counts-blocks : goal.bounds-counts-blocks
unfolding count_words blocks
bounds-counts-blocks c =
    omega (arith, c.div_ceil-blocks.ensures, c.requires.1, storing_length c.loop-block.invariant.0)

pub returns : goal.returns
unfolding blocks
returns c =
    let l = c.loop-block in
    let labels = c.args.labels.now in
    let n : c.div_ceil-blocks.result ≡ blocks (length labels) = omega (arith, c.div_ceil-blocks.ensures) in
    let all : l.total ≡ secrets labels = l.invariant.1 ∙ ap secrets (total_all labels l.block (omega (arith, c.loop-block-test.false, n))) in
    rw (storing_all l.invariant.0 c.loop-block-test.false, all, n) (counts-filled labels c.args.counts.now c.requires.1)
