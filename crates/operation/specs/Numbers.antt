-- What a report is made of, and the numbers of endings and refusals.
use Rattle.std.specs.Prelude.{ℕ, Result, Ok, Err, ⊤}
use Rattle.operation.specs.declared.report.Ending.{Ending}
use Rattle.operation.specs.declared.report.Ending.TheVariants.{End, Exit, Budget, Leak, Bounds, Zero as ByZero, Log, LeakAhead}
use Rattle.operation.specs.declared.report.Refusal.{Refusal}
use Rattle.operation.specs.declared.report.Refusal.TheVariants.{Setting, Length, Label, Head, Shape, Place, Range, Size, Target, Start, Zero}

-- Numbers of a report.
abbrev pub report_numbers : ℕ
report_numbers = 5

-- The number of an ending.
abbrev pub ending_number : Ending → ℕ
ending_number End = 0
ending_number Exit = 1
ending_number Budget = 2
ending_number Leak = 31
ending_number Bounds = 32
ending_number ByZero = 33
ending_number Log = 34
ending_number LeakAhead = 35

-- The number of a refusal.
abbrev pub number_of : Refusal → ℕ
number_of Setting = 10
number_of Length = 11
number_of Label = 12
number_of Head = 21
number_of Shape = 22
number_of Place = 23
number_of Range = 24
number_of Size = 25
number_of Target = 26
number_of Start = 27
number_of Zero = 33

-- What a test says of a call, by number: 0 where nothing is refused.
abbrev pub answer_of : Result ⊤ Refusal → ℕ
answer_of (Ok nothing) = 0
answer_of (Err why) = number_of why
