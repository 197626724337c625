-- `case_printing::text::put_space` meets its contract. The loop's invariant: the lines passed are put, and the bytes behind them are left.
use Rattle.std.proofs.Common.{◌≡◌, ◌+◌, ◌*◌, ◌<◌, length, drop}
use Rattle.case_printing.specs.Appended.{Appended}
use Rattle.case_printing.specs.Text.{concatenated, dump_line, bytes_per_line, line_bytes}
use Rattle.case_printing.proofs.text.put_space.Given as goal

abbrev pub invariant-loop-k : goal.invariant-loop-k
invariant-loop-k g l =
    let k = l.k-iterator.count in
    record {
      size : l.k-iterator.iter.size ≡ bytes_per_line;
      left : l.k-iterator.iter.rest.now ≡ drop (bytes_per_line * k) l.bytes;
      within : bytes_per_line * k < length l.bytes + bytes_per_line;
      put : Appended l.initial.out.items (concatenated k (λ i. dump_line l.kind l.space (bytes_per_line * i) (line_bytes l.bytes i))) l.out.items;
    }
