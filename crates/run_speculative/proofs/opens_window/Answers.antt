-- `run_speculative::opens_window` meets its contract.
use mathlib.Core.Path.{refl}
use Rattle.run_speculative.proofs.Ways.{none_opened, looked}
use Rattle.run_speculative.proofs.opens_window.Goals as goal

pub returns-then-window-done : goal.returns-then-window-done
returns-then-window-done c = none_opened _ _ _ _ _ refl c.if-window-done.true

pub returns : goal.returns
returns c =
    looked _ _ _ _ _ refl c.if-window-done.false _ c.opcode_at.ensures _ c.varnode_at-destination.ensures _ _ refl refl
