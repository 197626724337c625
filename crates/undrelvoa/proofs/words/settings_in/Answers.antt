-- `undrelvoa::words::settings_in` meets its contract.
use mathlib.Core.Path.{refl}
use Rattle.undrelvoa.specs.Buffers.{settings_in}
use Rattle.undrelvoa.proofs.words.settings_in.Goals as goal

pub returns : goal.returns
unfolding settings_in
returns c = refl
