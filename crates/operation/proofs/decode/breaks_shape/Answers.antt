use borrow.Author.Tests.{eq-eqb, ne_eqb}
use Rattle.operation.proofs.Decoding.{shape_broken}
use Rattle.operation.proofs.decode.breaks_shape.Goals as goal

pub returns-then-descriptor-eq0 : goal.returns-then-descriptor-eq0
returns-then-descriptor-eq0 c =
    let a = c.args in
    (rw (eq-eqb a.descriptor 0 c.if-descriptor-eq0.true) at (shape_broken a.wanted a.descriptor a.offset))

pub returns-else-descriptor-eq0 : goal.returns-else-descriptor-eq0
returns-else-descriptor-eq0 c =
    let a = c.args in
    rw c.describes_varnode.ensures (rw (ne_eqb a.descriptor 0 c.if-descriptor-eq0.false) at (shape_broken a.wanted a.descriptor a.offset))
