use Rattle.std.proofs.Common.{◌≡◌, length, get_or, arith, rules}
use Rattle.case_hexadecimal.specs.Digits.{byte_digits}
use Rattle.case_printing.specs.Text.{hex_text, bytes_text}
use Rattle.case_printing.proofs.Appending.{grown, concatenated_none, concatenated_then}
use Rattle.case_printing.proofs.Lengths.{length_hex, length_bytes, concatenated_most}
use Rattle.case_printing.proofs.text.put_bytes.Goals as goal

pub loop-byte-init : goal.loop-byte-init
loop-byte-init g c = concatenated_none _ _

pub put_hex-requires : goal.put_hex-requires
put_hex-requires g c =
    let bytes = c.args.bytes.now in
    let l = c.loop-byte in
    let so_far = concatenated_most byte_digits l.byte-index (λ i. hex_text byte_digits (get_or bytes i 0)) (λ i. omega (arith, length_hex byte_digits (get_or bytes i 0))) in
    (search rules, (omega arith, omega (arith, grown l.invariant, so_far)))

pub loop-byte-preserved : goal.loop-byte-preserved
loop-byte-preserved g c = concatenated_then _ _ c.loop-byte.invariant (rw (← c.from.ensures) c.put_hex.ensures.appended)

pub returns : goal.returns
unfolding bytes_text
returns g c =
    let e : c.loop-byte.byte-index ≡ length c.args.bytes.now = omega arith in
    let put = rw e at c.loop-byte.invariant in
    record {
      appended = put;
      upper_bound = omega (arith, grown put, length_bytes c.args.bytes.now);
    }
