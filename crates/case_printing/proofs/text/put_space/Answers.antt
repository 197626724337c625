use Rattle.std.proofs.Common.{◌≡◌, ap, ◌∙◌, ◌*◌, length, length-drop, arith, rules}
use Rattle.case_printing.specs.Text.{dump_length, bytes_per_line, line_count, space_lines}
use Rattle.case_printing.proofs.Appending.{grown, concatenated_none, concatenated_then}
use Rattle.case_printing.proofs.Lengths.{concatenated_most, length_line_most, length_space}
use Rattle.case_printing.proofs.Lines.{next_line}
use Rattle.case_printing.proofs.text.put_space.Goals as goal

pub loop-k-init : goal.loop-k-init
loop-k-init g c =
    let count : c.into_iter-k-iterator.result.count ≡ 0 = cc in
    record {
      size = cc;
      left = rw count (cc);
      within = omega (arith, count);
      put = rw count (concatenated_none _ _);
    }

pub put_line-requires : goal.put_line-requires
put_line-requires g c =
    let a = c.args in
    let bytes = a.bytes.now in
    let l = c.loop-k in
    let so_far = concatenated_most (dump_length bytes_per_line) l.k-iterator.count _ (length_line_most a.kind a.space bytes) in
    let left = ap length l.invariant.left ∙ length-drop (bytes_per_line * l.k-iterator.count) bytes in
    let steps = c.in-Some.ensures.steps in
    (search rules, omega (arith, grown l.invariant.put, so_far, left, steps))

pub loop-k-preserved : goal.loop-k-preserved
loop-k-preserved g c =
    let a = c.args in
    let bytes = a.bytes.now in
    let l = c.loop-k in
    let count = l.k-iterator.count in
    let steps = c.in-Some.ensures.steps in
    let left = ap length l.invariant.left ∙ length-drop (bytes_per_line * l.k-iterator.count) bytes in
    let line = next_line bytes count l.k-iterator.iter.rest.now c.in-Some.part.now c.next.new.self.iter.rest.now
    l.invariant.left steps.0.1.0 (rw l.invariant.size at steps.0.1.1) in
    record {
      size = steps.0.0 ∙ l.invariant.size;
      left = rw steps.2 line.1;
      within = omega (arith, left, steps);
      put = rw steps.2 (concatenated_then _ _ l.invariant.put (rw (← line.0, ← steps.1) c.put_line.ensures));
    }

pub returns : goal.returns
unfolding space_lines
returns g c =
    let a = c.args in
    let bytes = a.bytes.now in
    let l = c.loop-k in
    let left = ap length l.invariant.left ∙ length-drop (bytes_per_line * l.k-iterator.count) bytes in
    let steps = c.in-None.ensures.steps in
    let all : l.k-iterator.count ≡ line_count (length bytes) = omega (arith, left, steps) in
    let put = rw all at l.invariant.put in
    record {
      appended = put;
      upper_bound = omega (arith, grown put, length_space a.kind a.space bytes);
    }
