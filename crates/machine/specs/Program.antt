-- What stays fixed during a run.
use Rattle.std.specs.Prelude.{ℕ, Bool, List, eqb}
use Rattle.operation.specs.declared.layout.Settings.{Settings}

-- Settings: byte order 0 is little, 1 is big, for all spaces.
unfoldable pub big_endian : Settings → Bool
big_endian settings = eqb settings.order 1

-- The settings and the list of operations.
pub record Program : Type 0 where
  pub settings : Settings
  pub list : List ℕ

-- The program of a call.
abbrev pub program_of : Settings → List ℕ → Program
program_of settings list = record { settings = settings; list = list }
