use Rattle.std.proofs.Common.{◌≡◌, ◌+◌, arith, sym, ◌∙◌}
use Rattle.word.proofs.Sums.{tabulate-length}
use Rattle.word.proofs.Stores.{storing_none, storing_more, storing_all, storing_length, filled}
use Rattle.operation.specs.Layout.{words_per_operation}
use Rattle.case_frame.specs.Frames.{words_on}
use Rattle.case_frame.proofs.store_words.Goals as goal

pub loop-k-init : goal.loop-k-init
loop-k-init c = storing_none _ _ _ _

pub loop-k-preserved : goal.loop-k-preserved
loop-k-preserved c =
    let l = c.loop-k in
    let e : 0 + l.k ≡ l.k = omega arith in
    rw e at (storing_more l.invariant (omega (arith, c.loop-k-test.true, storing_length l.invariant)) c.number.ensures)

pub returns : goal.returns
unfolding words_on
returns c =
    storing_all c.loop-k.invariant (omega (arith, c.loop-k-test.false, storing_length c.loop-k.invariant))
    ∙ filled c.args.to.now _ (tabulate-length words_per_operation _ ∙ sym c.requires.1)
