-- One operation with its window: what holds of it by itself and after each window holds of it.
use Prim.Native.Nat.{ℕ, ◌+◌, ◌≤◌}
use native.Mathlib.Omega.{arith}
use mathlib.Core.Bool.{◌&&◌}
use mathlib.Core.Path.{◌≡◌, refl}
use lib.Dec.{eqb}
use lib.ListN.{length}
use Rattle.machine.specs.Program.{Program}
use Rattle.machine.specs.Memory.{Memory, lengths_of}
use Rattle.machine.specs.Effect.{operation_at}
use Rattle.machine.specs.Run.{Position, Ended, Stepped, ended, stepped}
use Rattle.machine.specs.Calls.{starting}
use Rattle.machine.proofs.Cases.{either}
use Rattle.machine.proofs.Budget.{run_repeats}
use Rattle.machine.proofs.Words.{stepped_writes, run_writes}
use Rattle.machine.proofs.Runs.{run_laws}
use Rattle.speculation.specs.Window.{Way, Window, ahead, window_of, with_words, uncounted, right_way, reached, after_window, tried, passed, speculated}

-- LOG and LEAK AHEAD.
pub data Short : ℕ → Type 0 where
  full : Short 34
  leaked : Short 35

pub not_short : {e : ℕ} → (e ≡ 34 → ⊥) → (e ≡ 35 → ⊥) → Short e → ⊥
not_short n34 n35 full = n34 refl
not_short n34 n35 leaked = n35 refl

-- The words of a window take up room that was left, and are at most W.
pub record Worded (window free : ℕ) (w : Ended) : Type 0 where
  pub room : w.position.room + length w.position.log ≡ free
  pub most : length w.position.log ≤ window

module _ (program : Program) (window : ℕ) (labels m : Memory) where
  ahead_worded : (i room : ℕ) → Worded window room (ahead program window i room labels m)
  unfolding ahead starting
  ahead_worded i room =
      let from = starting i room in
      record {
        room = ((run_laws program).kept room (lengths_of m) labels window from labels m (record { log = omega arith; memory = refl; lengths = refl; values = λ q. q })).log;
        most = omega (arith, run_writes (run_repeats program) 1 (stepped_writes program) window from labels m);
      }

  module _ (P : Stepped → Type 0) (at : Position) (right : Stepped) (alone : P right)
      (closed : (w : Ended) → Worded window (reached right).room w → P (right_way w right))
      (stopped : (w : Ended) → Worded window (reached right).room w → (e : ℕ) → Short e
      → P (Stepped.halted (ended e 0 (with_words w (uncounted at (reached right))) labels m))) where
    after_by : (w : Ended) → Worded window (reached right).room w → P (after_window at labels m right w (window_of w.ending))
    unfolding window_of after_window
    after_by w h =
        either By (eqb w.ending 31) _ _ (stopped w h 35 leaked) (either By (eqb w.ending 34) _ _ (stopped w h 34 full) (closed w h))
      where
        By : Window → Type 0
        By c = P (after_window at labels m right w c)

    tried_by : (way : Way) → P (tried program window at labels m right way)
    unfolding tried
    tried_by Way.outside = alone
    tried_by (Way.inside i) = after_by _ (ahead_worded i (reached right).room)

  pub speculated_by : (P : Stepped → Type 0) (at : Position) → (let right = stepped program at labels m in
      P right
      → ((w : Ended) → Worded window (reached right).room w → P (right_way w right))
      → ((w : Ended) → Worded window (reached right).room w → (e : ℕ) → Short e
      → P (Stepped.halted (ended e 0 (with_words w (uncounted at (reached right))) labels m)))
      → P (speculated program window at labels m))
  unfolding speculated
  speculated_by P at alone closed stopped =
      let right = stepped program at labels m in
      either P (eqb (operation_at program.list at.index).opcode 5 && passed right) _ _ (tried_by P at right alone closed stopped _) alone
