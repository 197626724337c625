-- `arithmetic::integer_value` meets its contract. Each arm is its row of the table of results.
use Prim.Native.Nat.{suc, ◌-◌, ◌^◌, ◌<◌}
use mathlib.Core.Path.{refl, sym, ap, ◌∙◌}
use native.Mathlib.Omega.{arith}
use Rattle.word.specs.Sum.{tabulate}
use Rattle.integer.proofs.Bits.{negate_is, xor_is, and_is, or_is}
use Rattle.std.proofs.Math.Bool.{not-not}
use Rattle.integer.proofs.Booleans.{flag_is}
use Rattle.arithmetic.proofs.Lookup.{lookup_none}
use Rattle.arithmetic.proofs.Agreement.{agreed, nonzero, halves_fit, size_kept, all_equal, inputs_equal}
use Rattle.integer.proofs.Overflow.{opposite_is}
use Rattle.integer.specs.Operations.{flag, int_equal, int_not_equal, int_less, int_sless, int_less_equal, int_sless_equal, int_zext, int_carry, int_scarry, int_sborrow, int_div, int_rem, bool_negate, truth}
use Rattle.arithmetic.specs.Result.{lookup, integer_results}
use Rattle.arithmetic.specs.Opcodes.{first_integer, last_integer, opcodes, row_of, sizes_of, member}
use Rattle.arithmetic.specs.Operands.{divides, agree, sizes_agree}
use Rattle.arithmetic.proofs.integer_value.Goals as goal

pub piece-requires : goal.piece-requires
unfolding sizes_agree agree sizes_of row_of opcodes
piece-requires c = halves_fit c.requires (agreed c.requires 10 c.in-10.is)

pub less-requires : goal.less-requires
unfolding sizes_agree agree sizes_of row_of opcodes
less-requires c = (c.requires.below0, inputs_equal c.requires (agreed c.requires 16 c.in-16.is))

pub less_equal-requires : goal.less_equal-requires
unfolding sizes_agree agree sizes_of row_of opcodes
less_equal-requires c = (c.requires.below0, inputs_equal c.requires (agreed c.requires 18 c.in-18.is))

pub carry-requires : goal.carry-requires
unfolding sizes_agree agree sizes_of row_of opcodes
carry-requires c = inputs_equal c.requires (agreed c.requires 23 c.in-23.is)

pub carry-requires-in-24 : goal.carry-requires-in-24
unfolding sizes_agree agree sizes_of row_of opcodes
carry-requires-in-24 c = (c.requires.below0, inputs_equal c.requires (agreed c.requires 24 c.in-24.is))

pub borrow-requires : goal.borrow-requires
unfolding sizes_agree agree sizes_of row_of opcodes
borrow-requires c = (c.requires.below0, inputs_equal c.requires (agreed c.requires 25 c.in-25.is))

pub overflow_sub-result : goal.overflow_sub-result
unfolding sizes_agree agree sizes_of row_of opcodes
overflow_sub-result c =
    let h : c.args.a < 256 ^ c.args.size = size_kept c.requires (agreed c.requires 27 c.in-27.is) in
    omega (arith, c.largest.ensures)

pub right-requires-in-33 : goal.right-requires-in-33
unfolding sizes_agree agree sizes_of row_of opcodes
right-requires-in-33 c = size_kept c.requires (agreed c.requires 33 c.in-33.is)

pub nonzero_div-result : goal.nonzero_div-result
unfolding divides
nonzero_div-result c = nonzero c.requires 35 c.in-35.is refl

pub nonzero_rem-result : goal.nonzero_rem-result
unfolding divides
nonzero_rem-result c = nonzero c.requires 36 c.in-36.is refl

pub div-requires : goal.div-requires
unfolding sizes_agree agree sizes_of row_of opcodes divides
div-requires c =
    let o = c.requires in
    let h = all_equal o (agreed o 37 c.in-37.is) in
    (h.0, h.1, nonzero o 37 c.in-37.is refl)

pub rem-requires : goal.rem-requires
unfolding sizes_agree agree sizes_of row_of opcodes divides
rem-requires c =
    let o = c.requires in
    let h = all_equal o (agreed o 38 c.in-38.is) in
    (h.0, h.1, nonzero o 38 c.in-38.is refl)

pub returns-in-13 : goal.returns-in-13
unfolding lookup integer_results int_equal
returns-in-13 c = rw c.in-13.is (c.from.ensures ∙ flag_is _)

pub returns-in-14 : goal.returns-in-14
unfolding lookup integer_results int_not_equal
returns-in-14 c = rw c.in-14.is (c.from-in-14.ensures ∙ flag_is _)

pub returns-in-15 : goal.returns-in-15
unfolding lookup integer_results int_less
returns-in-15 c = rw c.in-15.is (c.from-in-15.ensures ∙ flag_is _)

pub returns-in-16 : goal.returns-in-16
unfolding lookup integer_results int_sless
returns-in-16 c = rw c.in-16.is (c.from-in-16.ensures ∙ flag_is _ ∙ ap flag c.less.ensures)

pub returns-in-17 : goal.returns-in-17
unfolding lookup integer_results int_less_equal
returns-in-17 c = rw c.in-17.is (c.from-in-17.ensures ∙ flag_is _)

pub returns-in-18 : goal.returns-in-18
unfolding lookup integer_results int_sless_equal
returns-in-18 c = rw c.in-18.is (c.from-in-18.ensures ∙ flag_is _ ∙ ap flag c.less_equal.ensures)

pub returns-in-19 : goal.returns-in-19
unfolding lookup integer_results int_zext
returns-in-19 c = rw c.in-19.is

pub returns-in-23 : goal.returns-in-23
unfolding lookup integer_results int_carry
returns-in-23 c = rw c.in-23.is (c.from-in-23.ensures ∙ flag_is _ ∙ ap flag c.carry.ensures)

pub returns-in-24 : goal.returns-in-24
unfolding lookup integer_results int_scarry
returns-in-24 c = rw c.in-24.is (c.from-in-24.ensures ∙ flag_is _ ∙ ap flag c.carry-in-24.ensures)

pub returns-in-25 : goal.returns-in-25
unfolding lookup integer_results int_sborrow
returns-in-25 c = rw c.in-25.is (c.from-in-25.ensures ∙ flag_is _ ∙ ap flag c.borrow.ensures)

pub returns-in-26 : goal.returns-in-26
unfolding lookup integer_results sizes_agree agree sizes_of row_of opcodes
returns-in-26 c = rw c.in-26.is (c.sub-in-26.ensures ∙ opposite_is _ _ (size_kept c.requires (agreed c.requires 26 c.in-26.is)))

pub returns-in-27 : goal.returns-in-27
unfolding lookup integer_results sizes_agree agree sizes_of row_of opcodes
returns-in-27 c = rw c.in-27.is (negate_is _ _ _ (size_kept c.requires (agreed c.requires 27 c.in-27.is)) c.largest.ensures)

pub returns-in-28 : goal.returns-in-28
unfolding lookup integer_results sizes_agree agree sizes_of row_of opcodes
returns-in-28 c =
    let h = all_equal c.requires (agreed c.requires 28 c.in-28.is) in
    rw c.in-28.is (xor_is _ _ _ h.0 h.1)

pub returns-in-29 : goal.returns-in-29
unfolding lookup integer_results sizes_agree agree sizes_of row_of opcodes
returns-in-29 c =
    let h = all_equal c.requires (agreed c.requires 29 c.in-29.is) in
    rw c.in-29.is (and_is _ _ _ h.0 h.1)

pub returns-in-30 : goal.returns-in-30
unfolding lookup integer_results sizes_agree agree sizes_of row_of opcodes
returns-in-30 c =
    let h = all_equal c.requires (agreed c.requires 30 c.in-30.is) in
    rw c.in-30.is (or_is _ _ _ h.0 h.1)

pub returns-in-35 : goal.returns-in-35
unfolding lookup integer_results int_div
returns-in-35 c = rw c.in-35.is

pub returns-in-36 : goal.returns-in-36
unfolding lookup integer_results int_rem
returns-in-36 c = rw c.in-36.is

pub returns-in-39 : goal.returns-in-39
unfolding lookup integer_results bool_negate truth
returns-in-39 c = rw c.in-39.is (c.from-in-39.ensures ∙ flag_is _ ∙ ap flag (sym (not-not _)))

pub returns-in_default : goal.returns-in_default
unfolding integer_results member tabulate
returns-in_default c = sym (lookup_none _ (tabulate (suc last_integer - first_integer) (λ k. last_integer - k)) c.in_default.in_default-own.rest _ refl)
