-- `case_hexadecimal::number` meets its contract. The loop's invariant: the number of the digits passed.
use Rattle.std.proofs.Common.{◌≡◌}
use Rattle.case_hexadecimal.specs.Digits.{number_at}
use Rattle.case_hexadecimal.proofs.number.Given as goal

abbrev pub invariant-loop-c : goal.invariant-loop-c
invariant-loop-c l = l.n ≡ number_at l.s l.at l.c-index
