use Rattle.std.proofs.Common.{◌∙◌, arith}
use Rattle.integer.proofs.Whole.{sub_is}
use Rattle.integer.proofs.unsigned.sub.Goals as goal

pub returns : goal.returns
returns c =
    let a = c.args in
    c.low.ensures ∙ sub_is a.size a.a a.b _ c.requires c.ranges.a.fits c.ranges.b.fits (omega arith) (omega arith)
