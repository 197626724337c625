use Rattle.std.proofs.Common.{◌≡◌, ◌+◌, length, arith, ◌∙◌}
use Rattle.word.proofs.Sums.{tabulate-length}
use Rattle.word.proofs.Stores.{storing_none, storing_more, storing_all, storing_length, filled}
use Rattle.case_hexadecimal.specs.Digits.{byte_digits}
use Rattle.case_hexadecimal.proofs.Laws.{number_fits}
use Rattle.case_frame.specs.Frames.{bytes_length, bytes_on}
use Rattle.case_frame.proofs.store_bytes.Goals as goal

pub loop-i-init : goal.loop-i-init
loop-i-init c = storing_none _ _ _ _

pub overflow_cast-byte : goal.overflow_cast-byte
overflow_cast-byte c =
    record { fits = omega (arith, c.number.ensures, number_fits c.args.s.now (bytes_length c.loop-i.i) byte_digits) }

pub loop-i-preserved : goal.loop-i-preserved
loop-i-preserved c =
    let l = c.loop-i in
    let e : 0 + l.i ≡ l.i = omega arith in
    rw e at (storing_more l.invariant (omega (arith, c.loop-i-test.true, storing_length l.invariant)) c.number.ensures)

pub returns : goal.returns
unfolding bytes_on
returns c =
    let to = c.args.to.now in
    storing_all c.loop-i.invariant (omega (arith, c.loop-i-test.false, storing_length c.loop-i.invariant)) ∙ filled to _ (tabulate-length (length to) _)
