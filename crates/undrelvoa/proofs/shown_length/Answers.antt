-- `undrelvoa::shown_length` meets its contract.
use mathlib.Core.Path.{ap, ◌∙◌}
use lib.ListN.{length}
use Rattle.show.specs.Show.{View}
use Rattle.undrelvoa.proofs.Shown.{shown-length}
use Rattle.undrelvoa.proofs.shown_length.Goals as goal

pub returns : goal.returns
returns c = ap (λ (w : View). length w.bytes) c.show.ensures ∙ shown-length _ _ _ _ _ _
