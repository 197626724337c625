-- Text put behind what a buffer already holds.
use Rattle.std.specs.Prelude.{◌≡◌, ℕ, List, ◌++◌}

-- `after` is `before` with `text` behind it.
pub record Appended (before text after : List ℕ) : Type 0 where
  pub same : after ≡ before ++ text
