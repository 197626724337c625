-- With W = 0 the speculative run is the labelled run.
use Prim.Native.Nat.{ℕ, zero, suc}
use native.Mathlib.Omega.{arith}
use mathlib.Core.Bool.{Bool, true, false, cond, ◌&&◌}
use mathlib.Core.List.{List, append-nil}
use mathlib.Core.Path.{◌≡◌, refl}
use lib.Dec.{eqb, ltb}
use lib.ListN.{length}
use Rattle.operation.specs.declared.layout.Settings.{Settings}
use Rattle.operation.specs.declared.report.Report.{Report}
use Rattle.operation.specs.Layout.{operation_count}
use Rattle.machine.specs.Program.{Program, program_of}
use Rattle.machine.specs.Memory.{Memory, lengths_of}
use Rattle.machine.specs.Effect.{operation_at}
use Rattle.machine.specs.Run.{Position, Ended, Stepped, ended, stepped, continued, run}
use Rattle.machine.specs.Calls.{Outcome, same_lengths, labels_in_range, starting, called, labelled_run}
use Rattle.machine.proofs.Cases.{either_equal}
use Rattle.speculation.specs.Window.{Way, Window, ahead, window_of, marked, with_words, right_way, reached, after_window, tried, passed, speculated}
use Rattle.speculation.specs.Speculation.{Speculation, speculate, journal_words, journal_after, called_ahead, speculative_run}
use Rattle.speculation.proofs.Accepted.{ahead-refusal}

-- ---- a window of no operations closes and writes nothing

module _ (program : Program) (labels m : Memory) where
  no_words : (i : ℕ) (at : Position) → with_words (ahead program 0 i at.room labels m) at ≡ at
  unfolding with_words ahead run ended starting marked
  no_words i at = rw append-nil

  no_ending : (i room : ℕ) → window_of (ahead program 0 i room labels m).ending ≡ Window.closes
  unfolding window_of ahead run ended starting
  no_ending i room = by (ltb i (operation_count program.list))
    where
      by : (t : Bool) → window_of (cond t 2 0) ≡ Window.closes
      by true = refl
      by false = refl

  right_same : (i : ℕ) (s : Stepped) → right_way (ahead program 0 i (reached s).room labels m) s ≡ s
  unfolding right_way reached ended
  right_same i (Stepped.halted r) = rw (no_words i r.position) refl
  right_same i (Stepped.going at l n) = rw (no_words i at) refl

  pub tried_same : (at : Position) (s : Stepped) (way : Way) → tried program 0 at labels m s way ≡ s
  unfolding tried after_window
  tried_same at s Way.outside = refl
  tried_same at s (Way.inside i) = rw (no_ending i (reached s).room) (right_same i s)

  speculated_same : (at : Position) → speculated program 0 at labels m ≡ stepped program at labels m
  unfolding speculated
  speculated_same at =
      either_equal (eqb (operation_at program.list at.index).opcode 5 && passed (stepped program at labels m)) (tried_same at (stepped program at labels m) _) refl

-- ---- the run

continued_same : (f g : Position → Memory → Memory → Ended) → ((at : Position) (labels m : Memory) → f at labels m ≡ g at labels m)
    → (s : Stepped) → continued f s ≡ continued g s
unfolding continued
continued_same f g h (Stepped.halted r) = refl
continued_same f g h (Stepped.going at labels m) = h at labels m

pub speculate_same : (program : Program) (budget : ℕ) (at : Position) (labels m : Memory)
    → speculate program 0 budget at labels m ≡ run program budget at labels m
unfolding speculate run
speculate_same program zero at labels m = refl
speculate_same program (suc budget) at labels m =
    rw (speculated_same program labels m at) (continued_same _ _ (λ at' l m'. speculate_same program budget at' l m') (stepped program at labels m))

-- ---- the call

called_same : (settings : Settings) (list : List ℕ) (start budget : ℕ) (log journal : List ℕ) (labels m : Memory) (refused : Report)
    → called_ahead settings list start budget 0 log journal labels m refused
    ≡ record { outcome = called settings list start budget log labels m refused; journal = journal }
unfolding called_ahead called journal_after journal_words
called_same settings list start budget log journal labels m refused =
    rw (speculate_same (program_of settings list) budget (starting start (length log)) labels m) (by (eqb refused.ending 0) _ _)
  where
    leaves : Outcome → Speculation
    leaves o = record { outcome = o; journal = journal }

    by : (t : Bool) (a b : Outcome) → cond t (leaves a) (leaves b) ≡ leaves (cond t a b)
    by true a b = refl
    by false a b = refl

pub no_window : (settings : Settings) (list : List ℕ) (start budget : ℕ) (log journal : List ℕ) (labels m : Memory)
    → speculative_run settings list start budget 0 log journal labels m
    ≡ record { outcome = labelled_run settings list start budget log labels m; journal = journal }
unfolding speculative_run labelled_run journal_words
no_window settings list start budget log journal labels m =
    rw (ahead-refusal settings (lengths_of m) list start 0 (length journal) (same_lengths (lengths_of labels) (lengths_of m)) (labels_in_range labels) (omega arith) (omega arith))
    (called_same settings list start budget log journal labels m _)
