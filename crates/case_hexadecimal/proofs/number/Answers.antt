use Rattle.std.proofs.Common.{arith, refl, ap, ◌%◌, ◌∙◌}
use Rattle.case_hexadecimal.specs.Digits.{digit_of, number_at}
use Rattle.case_hexadecimal.proofs.Laws.{digit_counts, counts_low, turn, number_more, number_room}
use Rattle.case_hexadecimal.proofs.number.Goals as goal

pub loop-c-init : goal.loop-c-init
unfolding number_at
loop-c-init c = refl

pub overflow_mul-n : goal.overflow_mul-n
overflow_mul-n c =
    let a = c.args in
    let l = c.loop-c in
    let t = turn a.s.now a.at a.k l.c-index c.loop-c-test.true in
    record { fits = omega (arith, number_room a.s.now a.at l.c-index (omega (arith, t.0))) }

pub overflow_add-n : goal.overflow_add-n
overflow_add-n c =
    let a = c.args in
    let l = c.loop-c in
    let t = turn a.s.now a.at a.k l.c-index c.loop-c-test.true in
    record { fits = omega (arith, number_room a.s.now a.at l.c-index (omega (arith, t.0)), counts_low _ _ c.digit.ensures) }

pub loop-c-preserved : goal.loop-c-preserved
loop-c-preserved c =
    let a = c.args in
    let t = turn a.s.now a.at a.k c.loop-c.c-index c.loop-c-test.true in
    number_more _ _ _ c.loop-c.invariant
    (c.from.ensures ∙ c.unwrap_or.ensures ∙ digit_counts _ _ c.digit.ensures ∙ ap (λ n. digit_of n % 16) t.1)
