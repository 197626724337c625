-- The refusals come in the order 10, 11, 12, 21 to 26, 27. Each is answered where its own condition holds and none before
-- it does, whatever would come after it.
use Rattle.std.specs.Prelude.{ℕ, ◌≤◌, ◌<◌, Bool, true, false, ◌&&◌, List, ◌≡◌}
use Rattle.operation.specs.declared.layout.Settings.{Settings}
use Rattle.operation.specs.Spaces.{Lengths}
use Rattle.operation.specs.Layout.{operation_count}
use Rattle.validation.specs.Verdict.{Malformed, settings_in_range, lengths_in_range, malformed, refusal_report}
use Rattle.machine.specs.Calls.{refusal}

-- `fitting` says that no labels and no other lent buffer call for 11, `valid` that no label calls for 12; `found` is the first malformed operation.
pub record InOrder (settings : Settings) (lengths : Lengths) (list : List ℕ) (start : ℕ) (fitting valid : Bool) (found : Malformed) : Type 0 where
  pub setting_refused : settings_in_range settings ≡ false → refusal settings lengths list start fitting valid ≡ refusal_report 10 0
  pub length_refused : settings_in_range settings ≡ true → (lengths_in_range lengths list && fitting) ≡ false
      → refusal settings lengths list start fitting valid ≡ refusal_report 11 0
  pub label_refused : settings_in_range settings ≡ true → (lengths_in_range lengths list && fitting) ≡ true → valid ≡ false
      → refusal settings lengths list start fitting valid ≡ refusal_report 12 0
  pub list_refused : settings_in_range settings ≡ true → (lengths_in_range lengths list && fitting) ≡ true → valid ≡ true → (found.rule ≡ 0 → ⊥)
      → refusal settings lengths list start fitting valid ≡ refusal_report found.rule found.index
  pub start_refused : settings_in_range settings ≡ true → (lengths_in_range lengths list && fitting) ≡ true → valid ≡ true → found.rule ≡ 0
      → operation_count list < start → refusal settings lengths list start fitting valid ≡ refusal_report 27 0
  pub nothing_refused : settings_in_range settings ≡ true → (lengths_in_range lengths list && fitting) ≡ true → valid ≡ true → found.rule ≡ 0
      → start ≤ operation_count list → refusal settings lengths list start fitting valid ≡ refusal_report 0 0

-- Of every call.
abbrev pub RefusalsInOrder : Type 0
RefusalsInOrder = (settings : Settings) (lengths : Lengths) (list : List ℕ) (start : ℕ) (fitting valid : Bool)
    → InOrder settings lengths list start fitting valid (malformed settings.address_size lengths list)
