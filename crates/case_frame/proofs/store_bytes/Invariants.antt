-- `case_frame::store_bytes` meets its contract. The loop's invariant: the bytes passed are stored, and nothing else (`Storing`).
use Rattle.std.proofs.Common.{length}
use Rattle.word.proofs.Stores.{Storing}
use Rattle.case_hexadecimal.specs.Digits.{byte_digits, number_at}
use Rattle.case_frame.specs.Frames.{bytes_length}
use Rattle.case_frame.proofs.store_bytes.Given as goal

abbrev pub invariant-loop-i : goal.invariant-loop-i
invariant-loop-i l = Storing (λ k. number_at l.s (bytes_length k) byte_digits) (length l.initial.to) 0 l.initial.to l.to l.i
