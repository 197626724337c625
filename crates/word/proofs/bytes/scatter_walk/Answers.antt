use mathlib.Core.Path.{◌∙◌}
use Rattle.word.specs.Word.{bytes_of}
use Rattle.word.proofs.Laws.{bytes_at_lem, scattered}
use Rattle.word.proofs.Stores.{storing_none, storing_more, storing_all}
use Rattle.word.proofs.bytes.scatter_walk.Goals as goal

pub loop-i-init : goal.loop-i-init
loop-i-init c = storing_none _ _ _ _

pub loop-i-preserved : goal.loop-i-preserved
loop-i-preserved c =
    let l = c.loop-i in
    let a = c.args in
    let test = c.loop-i-test.true in
    let byte = scattered a.big a.size a.v l.i test ∙ bytes_at_lem a.big a.size a.v l.i test in
    storing_more l.invariant test (rw c.weight-k.ensures.0 byte)

pub returns : goal.returns
unfolding bytes_of
returns c = storing_all c.loop-i.invariant c.loop-i-test.false
