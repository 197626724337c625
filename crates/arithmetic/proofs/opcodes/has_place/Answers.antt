-- `arithmetic::opcodes::has_place` meets its contract.
use mathlib.Core.Path.{sym, ap, ◌∙◌}
use native.Mathlib.Omega.{arith}
use Rattle.arithmetic.specs.Opcodes.{has_place}
use Rattle.arithmetic.proofs.Table.{with_output, with_input0, with_input1, with_input2, no_place}
use Rattle.arithmetic.proofs.opcodes.has_place.Goals as goal

pub returns-in-0 : goal.returns-in-0
returns-in-0 c = c.has_bit.ensures ∙ with_output _ ∙ ap (has_place _) (sym c.in-0.is)

pub returns-in-1 : goal.returns-in-1
returns-in-1 c = c.has_bit-in-1.ensures ∙ with_input0 _ ∙ ap (has_place _) (sym c.in-1.is)

pub returns-in-2 : goal.returns-in-2
returns-in-2 c = c.has_bit-in-2.ensures ∙ with_input1 _ ∙ ap (has_place _) (sym c.in-2.is)

pub returns-in-3 : goal.returns-in-3
returns-in-3 c = c.has_bit-in-3.ensures ∙ with_input2 _ ∙ ap (has_place _) (sym c.in-3.is)

pub returns-in_default : goal.returns-in_default
returns-in_default c = sym (no_place _ _ (omega arith))
