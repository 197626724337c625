-- What the loops need of a list, beside settings in range: the verdict on it is 0, for spaces of these lengths.
use Rattle.std.specs.Prelude.{◌≡◌, ℕ, ◌<◌, true, List}
use Rattle.operation.specs.Spaces.{Lengths}
use Rattle.operation.specs.Layout.{operation_count}
use Rattle.validation.specs.Verdict.{lengths_in_range}
use Rattle.validation.specs.WellFormed.{WellFormed}

-- Lengths in range, and every operation well-formed.
pub record Valid (lengths : Lengths) (list : List ℕ) : Type 0 where
  pub address_size : ℕ
  pub in_range : lengths_in_range lengths list ≡ true
  pub operations : (i : ℕ) → i < operation_count list → WellFormed address_size lengths list i
