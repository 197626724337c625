-- The speculative run against the labelled run: equal, marked words aside; as far as it, for every ending; and with W = 0 the same.
use Rattle.std.specs.Prelude.{ℕ, ◌*◌, ◌≤◌, ◌<◌, cond, List, [], ◌∷◌, ◌≡◌, ltb, length, get_or}
use Rattle.operation.specs.declared.layout.Settings.{Settings}
use Rattle.machine.specs.Memory.{Memory}
use Rattle.machine.specs.Calls.{Outcome, labelled_run}
use Rattle.machine.specs.Noninterference.{logged_words}
use Rattle.speculation.specs.Window.{window_mark}
use Rattle.speculation.specs.Speculation.{speculative_run}

-- The words below 2^63.
unfoldable pub unmarked : List ℕ → List ℕ
unmarked [] = []
unmarked (w ∷ ws) = cond (ltb w window_mark) (w ∷ unmarked ws) (unmarked ws)

-- All is equal but the number of log words; the words below 2^63 are the labelled run's log.
pub record MarkedAside (speculative labelled : Outcome) : Type 0 where
  pub ending : speculative.report.ending ≡ labelled.report.ending
  pub index : speculative.report.index ≡ labelled.report.index
  pub executed : speculative.report.executed ≡ labelled.report.executed
  pub value : speculative.report.value ≡ labelled.report.value
  pub memory : speculative.memory ≡ labelled.memory
  pub labels : speculative.labels ≡ labelled.labels
  pub log : unmarked (logged_words speculative) ≡ logged_words labelled

-- One has come as far as the other.
pub record AsFar (speculative labelled : Outcome) : Type 0 where
  pub index : speculative.report.index ≡ labelled.report.index
  pub executed : speculative.report.executed ≡ labelled.report.executed
  pub memory : speculative.memory ≡ labelled.memory
  pub labels : speculative.labels ≡ labelled.labels

-- All of these.
pub record AgainstLabelled : Type 0 where
  -- With W and journal in range and an ending other than 34 LOG or 35 LEAK AHEAD; refusals included.
  pub aside : (settings : Settings) (list : List ℕ) (start budget window : ℕ) (log journal : List ℕ) (labels m : Memory)
      → window ≤ 64 → 4 * window ≤ length journal
      → ((speculative_run settings list start budget window log journal labels m).outcome.report.ending ≡ 34 → ⊥)
      → ((speculative_run settings list start budget window log journal labels m).outcome.report.ending ≡ 35 → ⊥)
      → MarkedAside (speculative_run settings list start budget window log journal labels m).outcome (labelled_run settings list start budget log labels m)
  -- With W and journal in range and any ending, 34 and 35 too: as far as the labelled run of as many operations as it counts. So at 34 and 35
  -- of a window bytes and labels are those before the CBRANCH that opened it.
  pub as_far : (settings : Settings) (list : List ℕ) (start budget window : ℕ) (log journal : List ℕ) (labels m : Memory)
      → window ≤ 64 → 4 * window ≤ length journal
      → (let o = (speculative_run settings list start budget window log journal labels m).outcome in
      AsFar o (labelled_run settings list start o.report.executed log labels m))
  -- Every word that a labelled run writes is below 2^63, so that no marked word can be taken for one.
  pub below : (settings : Settings) (list : List ℕ) (start budget : ℕ) (log : List ℕ) (labels m : Memory) (k : ℕ)
      → k < (labelled_run settings list start budget log labels m).report.logged
      → get_or (labelled_run settings list start budget log labels m).log k 0 < window_mark
  -- With W = 0 it is the labelled run, for every ending, and the journal stays as lent.
  pub no_window : (settings : Settings) (list : List ℕ) (start budget : ℕ) (log journal : List ℕ) (labels m : Memory)
      → speculative_run settings list start budget 0 log journal labels m
      ≡ record { outcome = labelled_run settings list start budget log labels m; journal = journal }
