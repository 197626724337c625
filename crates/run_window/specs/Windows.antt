-- A window in code: what it keeps in the journal, and what it answers.
use Rattle.std.specs.Prelude.{ℕ, ◌+◌, ◌-◌, List, ◌++◌, ◌≡◌, length, take, drop}
use Rattle.std.proofs.lemmas.List.Edits.{sets}
use Rattle.word.specs.Word.{part}
use Rattle.machine.specs.Memory.{Memory}
use Rattle.machine.specs.Run.{Ended}
use Rattle.machine.specs.Calls.{Outcome, log_after}
use Rattle.speculation.specs.Window.{marked}
use Rattle.speculation.specs.Speculation.{journal_words}
use Rattle.run_journal.specs.Journal.{bytes_of_entry, labels_of_entry, undone, Undoable}

-- The journal's words past the first 4W are as they were.
pub record Spared (window : ℕ) (journal journal' : List ℕ) : Type 0 where
  pub same_length : length journal' ≡ length journal
  pub further : drop (journal_words window) journal' ≡ drop (journal_words window) journal

-- The first n entries of the journal give back the bytes m₀ and the labels labels₀.
pub record Saved (window : ℕ) (journal₀ : List ℕ) (labels₀ m₀ : Memory) (n : ℕ) (journal : List ℕ) (labels m : Memory) : Type 0 where
  pub undoable : Undoable journal n labels m
  pub bytes : undone journal bytes_of_entry n m ≡ m₀
  pub marks : undone journal labels_of_entry n labels ≡ labels₀
  pub spared : Spared window journal₀ journal

-- A log whose words from one place up to another are marked.
unfoldable pub words_marked : (log : List ℕ) → (from to : ℕ) → List ℕ
words_marked log from to = sets log from (marked (part log from (to - from)))

-- What a window leaves, with the first k words of the log written before it: bytes and labels as they were, its words marked.
unfoldable pub window_outcome : (k : ℕ) → (log : List ℕ) → (labels memory : Memory) → (window : Ended) → Outcome
window_outcome k log labels m w =
    record {
      report = record {
        ending = w.ending;
        index = w.position.index;
        executed = w.position.executed;
        logged = k + length w.position.log;
        value = w.value;
      };
      memory = m;
      labels = labels;
      log = log_after (take k log ++ marked w.position.log) log;
    }
