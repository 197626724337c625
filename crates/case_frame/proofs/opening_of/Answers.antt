use Rattle.std.proofs.Common.{arith}
use Rattle.case_frame.specs.Frames.{budget_column}
use Rattle.case_hexadecimal.specs.Digits.{number_digits}
use Rattle.case_hexadecimal.proofs.Laws.{number_fits}
use Rattle.case_frame.proofs.opening_of.Goals as goal

pub overflow_cast-budget : goal.overflow_cast-budget
overflow_cast-budget c =
    record { fits = omega (arith, c.number-budget.ensures, number_fits c.args.s.now budget_column number_digits) }
