-- Noninterference: what a labelled run shows does not depend on secret bytes, and where it does not stop with LEAK it is the plain run.
use Rattle.std.specs.Prelude.{ℕ, ◌<◌, true, List, ◌≡◌, length, get_or, take}
use Rattle.operation.specs.declared.layout.Settings.{Settings}
use Rattle.machine.specs.Memory.{Memory, lengths_of, space_of}
use Rattle.machine.specs.Calls.{Outcome, same_lengths, labels_in_range, labelled_run, plain_run}

-- Two memories of equal lengths, space by space, that agree in each byte labelled public (0).
pub record LowEquivalent (labels first second : Memory) : Type 0 where
  pub lengths : lengths_of first ≡ lengths_of second
  pub bytes : (space i : ℕ) → i < length (space_of labels space) → get_or (space_of labels space) i 0 ≡ 0
      → get_or (space_of first space) i 0 ≡ get_or (space_of second space) i 0

-- The log is the words written in the run; what the lent words held before doesn't matter.
abbrev pub logged_words : Outcome → List ℕ
logged_words o = take o.report.logged o.log

-- The same report, log and final labels, and memories that agree in the bytes labelled public at the end.
pub record Indistinguishable (first second : Outcome) : Type 0 where
  pub report : first.report ≡ second.report
  pub log : logged_words first ≡ logged_words second
  pub labels : first.labels ≡ second.labels
  pub memory : LowEquivalent first.labels first.memory second.memory

-- One label a byte, each 0 or 1.
pub record Labelled (labels memory : Memory) : Type 0 where
  pub lengths : same_lengths (lengths_of labels) (lengths_of memory) ≡ true
  pub values : labels_in_range labels ≡ true

-- The same report, log and bytes.
pub record PlainAlike (labelled plain : Outcome) : Type 0 where
  pub report : plain.report ≡ labelled.report
  pub log : logged_words plain ≡ logged_words labelled
  pub memory : plain.memory ≡ labelled.memory

-- What is shown of two memories by their labelled runs, and by the plain run of each, unless the labelled run ended with LEAK (31).
pub record NothingShown (settings : Settings) (list : List ℕ) (start budget : ℕ) (log log' : List ℕ) (labels first second : Memory) : Type 0 where
  pub runs : Indistinguishable (labelled_run settings list start budget log labels first) (labelled_run settings list start budget log' labels second)
  pub first_plain : Labelled labels first → ((labelled_run settings list start budget log labels first).report.ending ≡ 31 → ⊥)
      → (plain_log : List ℕ) → length plain_log ≡ length log
      → PlainAlike (labelled_run settings list start budget log labels first) (plain_run settings list start budget plain_log first)
  pub second_plain : Labelled labels second → ((labelled_run settings list start budget log' labels second).report.ending ≡ 31 → ⊥)
      → (plain_log : List ℕ) → length plain_log ≡ length log'
      → PlainAlike (labelled_run settings list start budget log' labels second) (plain_run settings list start budget plain_log second)

-- Of every call, whatever the list, the settings, the start, the budget, the labels, and the log buffers of equal lengths.
abbrev pub Noninterference : Type 0
Noninterference = (settings : Settings) (list : List ℕ) (start budget : ℕ) (log log' : List ℕ) → length log ≡ length log'
    → (labels first second : Memory) → LowEquivalent labels first second
    → NothingShown settings list start budget log log' labels first second
