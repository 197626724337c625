-- `arithmetic::operands::sizes_agree` meets its contract: each line is a sentence of rule 25.
use mathlib.Core.Path.{refl, ◌∙◌}
use Rattle.integer.proofs.Booleans.{pick_is}
use Rattle.arithmetic.specs.Opcodes.{sizes_of}
use Rattle.arithmetic.specs.Operands.{sizes_agree}
use Rattle.arithmetic.proofs.Table.{kept-set, equal-set, compared-set, extended-set, boolean-set, negated-set, joined-set, pointer-set, indirect-set, condition-set, free-set}
use Rattle.arithmetic.proofs.Agreement.{tested, by_sentence}
use Rattle.arithmetic.proofs.operands.sizes_agree.Goals as goal

pub returns-then-has_bit : goal.returns-then-has_bit
unfolding sizes_agree
returns-then-has_bit c =
    let a = c.args in
    rw (tested c.has_bit.ensures (kept-set _) c.if-has_bit.true) at (by_sentence (sizes_of a.opcode) a.address_size a.size a.size0 a.size1)

pub returns-then-has_bit-2 : goal.returns-then-has_bit-2
unfolding sizes_agree
returns-then-has_bit-2 c =
    let a = c.args in
    rw (tested c.has_bit.ensures (kept-set _) c.if-has_bit.false, tested c.has_bit-else-has_bit.ensures (equal-set _) c.if-has_bit-2.true)
    at (by_sentence (sizes_of a.opcode) a.address_size a.size a.size0 a.size1)

pub returns-else-has_bit-2 : goal.returns-else-has_bit-2
unfolding sizes_agree
returns-else-has_bit-2 c =
    let a = c.args in
    pick_is c.sentence.ensures (compared-set _) refl
    (pick_is c.sentence-extended.ensures (extended-set _) refl
    (pick_is c.sentence-boolean.ensures (boolean-set _) refl
    (pick_is c.sentence-negated.ensures (negated-set _) refl
    (pick_is c.sentence-joined.ensures (joined-set _) c.add_up.ensures
    (pick_is c.sentence-pointer.ensures (pointer-set _) refl
    (pick_is c.sentence-indirect.ensures (indirect-set _) refl
    (pick_is c.sentence-condition.ensures (condition-set _) refl (c.has_bit-free.ensures ∙ free-set _))))))))
    ∙ (rw (tested c.has_bit.ensures (kept-set _) c.if-has_bit.false, tested c.has_bit-else-has_bit.ensures (equal-set _) c.if-has_bit-2.false)
    at (by_sentence (sizes_of a.opcode) a.address_size a.size a.size0 a.size1))
