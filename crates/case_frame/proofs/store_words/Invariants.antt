-- `case_frame::store_words` meets its contract. The loop's invariant: the words passed are stored, and nothing else (`Storing`).
use Rattle.std.proofs.Common.{◌+◌, ◌*◌}
use Rattle.word.proofs.Stores.{Storing}
use Rattle.operation.specs.Layout.{words_per_operation}
use Rattle.case_hexadecimal.specs.Digits.{word_digits, number_at}
use Rattle.case_frame.specs.Frames.{words_column}
use Rattle.case_frame.proofs.store_words.Given as goal

abbrev pub invariant-loop-k : goal.invariant-loop-k
invariant-loop-k l = Storing (λ k. number_at l.s (words_column + word_digits * k) word_digits) words_per_operation 0 l.initial.to l.to l.k
