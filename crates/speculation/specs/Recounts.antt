-- What holds of the counts of every speculative call, refused ones too, whatever the counts hold.
use Rattle.std.specs.Prelude.{ℕ, ◌+◌, ◌*◌, ◌/◌, ◌≤◌, ◌<◌, true, false, List, ◌≡◌, length}
use Rattle.operation.specs.declared.layout.Settings.{Settings}
use Rattle.validation.specs.Verdict.{settings_in_range, refusal_report}
use Rattle.machine.specs.Program.{Program}
use Rattle.machine.specs.Memory.{Memory, lengths_of, space_of}
use Rattle.machine.specs.Run.{Position, Ended, Stepped}
use Rattle.machine.specs.Noninterference.{LowEquivalent}
use Rattle.machine.specs.Resume.{unused}
use Rattle.machine.specs.Counts.{counted_on, counts_fit, counted_run}
use Rattle.machine.specs.Recounts.{WordsOf, TurnedAll, TrueAll, SameCounts}
use Rattle.speculation.specs.Window.{speculated}
use Rattle.speculation.specs.Speculation.{speculative_run}
use Rattle.speculation.specs.Noninterference.{IndistinguishableAhead}
use Rattle.speculation.specs.Resume.{SummedAhead}
use Rattle.speculation.specs.Counts.{counts_past_window, CountedSpeculation, counted_speculation, counted_speculative_run}

-- ---- one operation

pub record WindowCounts (program : Program) (window : ℕ) (at : Position) (labels m counts : Memory) : Type 0 where
  -- After a window the counts are exactly what they were before it.
  pub undone : counts_past_window program window at labels m counts ≡ counts
  -- A stop, 31 to 35, leaves those before the operation: at 34 and 35 of a window, those before the CBRANCH that opened it.
  pub stopped : (rest : Position → (labels memory counts : Memory) → Memory) (r : Ended) → speculated program window at labels m ≡ Stepped.halted r → 31 ≤ r.ending
      → counted_on rest labels (counts_past_window program window at labels m counts) (speculated program window at labels m) ≡ counts

-- Of 64-bit words that are long enough, whatever they hold.
abbrev pub CountsOfWindows : Type 0
CountsOfWindows = (program : Program) (window : ℕ) (at : Position) (labels m counts : Memory)
    → counts_fit (lengths_of labels) (lengths_of counts) ≡ true → WordsOf counts → WindowCounts program window at labels m counts

-- ---- the speculative call

pub record SpeculativeCounts (settings : Settings) (list : List ℕ) (start budget window : ℕ) (log journal : List ℕ) (labels m counts : Memory) (o : CountedSpeculation) : Type 0 where
  -- With counts long enough all else is the speculative run without them.
  pub others : counts_fit (lengths_of m) (lengths_of counts) ≡ true → o.speculation ≡ speculative_run settings list start budget window log journal labels m
  -- Counts of fewer words than ceil(L / 64) + 1 are 11, after 10 and before all else, and nothing changes.
  pub window_refused : 64 < window → o ≡ counted_speculation (refusal_report 10 0) m labels counts log journal
  pub setting : settings_in_range settings ≡ false → o ≡ counted_speculation (refusal_report 10 0) m labels counts log journal
  pub short : (space : ℕ) → 2 ≤ space → space ≤ 4 → length (space_of counts space) < (length (space_of m space) + 63) / 64 + 1
      → window ≤ 64 → settings_in_range settings ≡ true → o ≡ counted_speculation (refusal_report 11 0) m labels counts log journal
  -- What the counts are after the call.
  pub turned : TurnedAll labels o.speculation.outcome.labels counts o.counts
  pub words : WordsOf counts → WordsOf o.counts
  -- Equal to a recount before, they are so after, for every ending.
  pub kept : TrueAll labels counts → TrueAll o.speculation.outcome.labels o.counts
  -- A refusal, 10 to 27, leaves them as lent.
  pub refused : 10 ≤ o.speculation.outcome.report.ending → o.speculation.outcome.report.ending ≤ 27 → o.counts ≡ counts
  -- With W, journal and counts in range and an ending other than 34 LOG or 35 LEAK AHEAD, they are those of the labelled run.
  pub aside : WordsOf counts → counts_fit (lengths_of m) (lengths_of counts) ≡ true → window ≤ 64 → 4 * window ≤ length journal
      → (o.speculation.outcome.report.ending ≡ 34 → ⊥) → (o.speculation.outcome.report.ending ≡ 35 → ⊥)
      → o.counts ≡ (counted_run settings list start budget log labels m counts).counts

abbrev pub CountsOfSpeculativeRuns : Type 0
CountsOfSpeculativeRuns = (settings : Settings) (list : List ℕ) (start budget window : ℕ) (log journal : List ℕ) (labels m counts : Memory)
    → SpeculativeCounts settings list start budget window log journal labels m counts (counted_speculative_run settings list start budget window log journal labels m counts)

-- ---- noninterference, for counts long enough in both calls, whatever they hold

pub record IndistinguishableCounted (labels counts counts' : Memory) (journal journal' : List ℕ) (first second : CountedSpeculation) : Type 0 where
  pub runs : IndistinguishableAhead journal journal' first.speculation second.speculation
  -- Where both equal a recount at the start, they are equal at the end.
  pub same_counts : TrueAll labels counts → TrueAll labels counts' → SameCounts labels first.counts second.counts

abbrev pub CountedSpeculativeNoninterference : Type 0
CountedSpeculativeNoninterference = (settings : Settings) (list : List ℕ) (start budget window : ℕ) (log log' journal journal' : List ℕ)
    → length log ≡ length log' → length journal ≡ length journal'
    → (labels first second : Memory) → LowEquivalent labels first second
    → (counts counts' : Memory) → counts_fit (lengths_of first) (lengths_of counts) ≡ true → counts_fit (lengths_of second) (lengths_of counts') ≡ true
    → IndistinguishableCounted labels counts counts' journal journal' (counted_speculative_run settings list start budget window log journal labels first counts)
    (counted_speculative_run settings list start budget window log' journal' labels second counts')

-- ---- resuming

-- The second part goes on with the counts that the first left, and leaves those of the whole.
pub record SummedAheadCounted (first second whole : CountedSpeculation) : Type 0 where
  pub runs : SummedAhead first.speculation second.speculation whole.speculation
  pub counts : second.counts ≡ whole.counts

abbrev pub CountedSpeculativeResumes : Type 0
CountedSpeculativeResumes = (settings : Settings) (list : List ℕ) (start budget further window : ℕ) (log journal : List ℕ) (labels m counts : Memory)
    → (let first = counted_speculative_run settings list start budget window log journal labels m counts in
    first.speculation.outcome.report.ending ≡ 2
    → SummedAheadCounted first
    (counted_speculative_run settings list first.speculation.outcome.report.index further window (unused first.speculation.outcome) first.speculation.journal
    first.speculation.outcome.labels first.speculation.outcome.memory first.counts)
    (counted_speculative_run settings list start (budget + further) window log journal labels m counts))
