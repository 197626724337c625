use Rattle.std.proofs.Common.{◌<◌, ◌%◌, ◌/◌, ◌^◌, ◌*◌, ◌-◌, arith, rules}
use Rattle.case_printing.specs.Text.{hex_text}
use Rattle.case_printing.proofs.Appending.{grown, then_one}
use Rattle.case_printing.proofs.Digits.{digit_listed, hex_next}
use Rattle.case_printing.proofs.Lengths.{length_hex}
use Rattle.case_printing.proofs.text.put_hex.Goals as goal

pub loop-k-init : goal.loop-k-init
unfolding hex_text
loop-k-init g c = search rules

pub push-requires : goal.push-requires
push-requires g c = (search rules, omega (arith, rw length_hex at (grown c.loop-k.invariant)))

pub loop-k-preserved : goal.loop-k-preserved
loop-k-preserved g c =
    let a = c.args in
    let k = c.loop-k.k in
    let below : a.n / 2 ^ (4 * (k - 1)) % 16 < 16 = omega arith in
    rw (← (hex_next a.digits k a.n (omega arith) (omega arith)), ← (digit_listed (a.n / 2 ^ (4 * (k - 1)) % 16) below))
    (then_one c.loop-k.invariant _ c.push.ensures.items)

pub returns-clause-upper_bound : goal.returns-clause-upper_bound
returns-clause-upper_bound g c = omega (arith, rw length_hex at (grown c.loop-k.invariant))
