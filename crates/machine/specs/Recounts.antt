-- What holds of the counts of every labelled call, refused ones too, whatever the counts hold; and of filling.
use Rattle.std.specs.Prelude.{ℕ, ◌+◌, ◌/◌, ◌≤◌, ◌<◌, true, false, ◌&&◌, List, [], ◌≡◌, length, get_or, take}
use Rattle.secret_counts.specs.Recount.{count_words}
use Rattle.secret_counts.specs.Laws.{Words64, Turned, TrueCounts}
use Rattle.operation.specs.declared.layout.Settings.{Settings}
use Rattle.validation.specs.Verdict.{settings_in_range, lengths_in_range, refusal_report}
use Rattle.machine.specs.Memory.{Memory, lengths_of, space_of}
use Rattle.machine.specs.Calls.{labels_in_range, labelled_run, plain_run}
use Rattle.machine.specs.Noninterference.{LowEquivalent, Indistinguishable, Labelled, PlainAlike}
use Rattle.machine.specs.Resume.{Summed, unused}
use Rattle.machine.specs.Counts.{counts_fit, CountedOutcome, counted_outcome, counted_run, counting, count_secrets}

-- ---- of three spaces

-- 64-bit words.
abbrev pub WordsOf : (counts : Memory) → Type 0
WordsOf counts = (space : ℕ) → Words64 (space_of counts space)

-- The counts after are, modulo 2^64, those before plus the recount after less the recount before; further words stay.
abbrev pub TurnedAll : (before after counts counts' : Memory) → Type 0
TurnedAll before after counts counts' =
    (space : ℕ) → 2 ≤ space → space ≤ 4 → Turned (space_of before space) (space_of after space) (space_of counts space) (space_of counts' space)

-- Equal to a recount.
abbrev pub TrueAll : (labels counts : Memory) → Type 0
TrueAll labels counts = (space : ℕ) → 2 ≤ space → space ≤ 4 → TrueCounts (space_of labels space) (space_of counts space)

-- The first words, which count the bytes of these labels, are the same.
abbrev pub SameCounts : (labels counts counts' : Memory) → Type 0
SameCounts labels counts counts' = (space : ℕ) → 2 ≤ space → space ≤ 4
    → take (count_words (length (space_of labels space))) (space_of counts space) ≡ take (count_words (length (space_of labels space))) (space_of counts' space)

-- Counts of at least ceil(L / 64) + 1 words for each space are long enough.
abbrev pub EnoughFits : Type 0
EnoughFits = (m counts : Memory)
    → ((space : ℕ) → 2 ≤ space → space ≤ 4 → (length (space_of m space) + 63) / 64 + 1 ≤ length (space_of counts space))
    → counts_fit (lengths_of m) (lengths_of counts) ≡ true

-- ---- the labelled call

pub record LabelledCounts (settings : Settings) (list : List ℕ) (start budget : ℕ) (log : List ℕ) (labels m counts : Memory) (o : CountedOutcome) : Type 0 where
  -- With counts long enough all else is the labelled run without them.
  pub others : counts_fit (lengths_of m) (lengths_of counts) ≡ true → o.outcome ≡ labelled_run settings list start budget log labels m
  -- Counts of fewer words than ceil(L / 64) + 1 are 11, after 10 and before all else, and nothing changes.
  pub setting : settings_in_range settings ≡ false → o ≡ counted_outcome (refusal_report 10 0) m labels counts log
  pub short : (space : ℕ) → 2 ≤ space → space ≤ 4 → length (space_of counts space) < (length (space_of m space) + 63) / 64 + 1
      → settings_in_range settings ≡ true → o ≡ counted_outcome (refusal_report 11 0) m labels counts log
  -- What the counts are after the call.
  pub turned : TurnedAll labels o.outcome.labels counts o.counts
  pub words : WordsOf counts → WordsOf o.counts
  -- Equal to a recount before, they are so after, for every ending.
  pub kept : TrueAll labels counts → TrueAll o.outcome.labels o.counts
  -- A refusal, 10 to 27, leaves them as lent.
  pub refused : 10 ≤ o.outcome.report.ending → o.outcome.report.ending ≤ 27 → o.counts ≡ counts

abbrev pub CountsOfLabelledRuns : Type 0
CountsOfLabelledRuns = (settings : Settings) (list : List ℕ) (start budget : ℕ) (log : List ℕ) (labels m counts : Memory)
    → LabelledCounts settings list start budget log labels m counts (counted_run settings list start budget log labels m counts)

-- ---- noninterference, for counts long enough in both calls, whatever they hold

pub record NothingShownCounted (settings : Settings) (list : List ℕ) (start budget : ℕ) (log log' : List ℕ) (labels first second counts counts' : Memory) : Type 0 where
  pub runs : Indistinguishable (counted_run settings list start budget log labels first counts).outcome (counted_run settings list start budget log' labels second counts').outcome
  pub first_plain : Labelled labels first → ((counted_run settings list start budget log labels first counts).outcome.report.ending ≡ 31 → ⊥)
      → (plain_log : List ℕ) → length plain_log ≡ length log
      → PlainAlike (counted_run settings list start budget log labels first counts).outcome (plain_run settings list start budget plain_log first)
  pub second_plain : Labelled labels second → ((counted_run settings list start budget log' labels second counts').outcome.report.ending ≡ 31 → ⊥)
      → (plain_log : List ℕ) → length plain_log ≡ length log'
      → PlainAlike (counted_run settings list start budget log' labels second counts').outcome (plain_run settings list start budget plain_log second)
  -- Where both equal a recount at the start, they are equal at the end.
  pub same_counts : TrueAll labels counts → TrueAll labels counts'
      → SameCounts labels (counted_run settings list start budget log labels first counts).counts (counted_run settings list start budget log' labels second counts').counts

abbrev pub CountedNoninterference : Type 0
CountedNoninterference = (settings : Settings) (list : List ℕ) (start budget : ℕ) (log log' : List ℕ) → length log ≡ length log'
    → (labels first second : Memory) → LowEquivalent labels first second
    → (counts counts' : Memory) → counts_fit (lengths_of first) (lengths_of counts) ≡ true → counts_fit (lengths_of second) (lengths_of counts') ≡ true
    → NothingShownCounted settings list start budget log log' labels first second counts counts'

-- ---- resuming

-- The second part goes on with the counts that the first left, and leaves those of the whole.
pub record SummedCounted (first second whole : CountedOutcome) : Type 0 where
  pub outcomes : Summed first.outcome second.outcome whole.outcome
  pub counts : second.counts ≡ whole.counts

abbrev pub CountedResumes : Type 0
CountedResumes = (settings : Settings) (list : List ℕ) (start budget further : ℕ) (log : List ℕ) (labels m counts : Memory)
    → (let first = counted_run settings list start budget log labels m counts in
    first.outcome.report.ending ≡ 2
    → SummedCounted first
    (counted_run settings list first.outcome.report.index further (unused first.outcome) first.outcome.labels first.outcome.memory first.counts)
    (counted_run settings list start (budget + further) log labels m counts))

-- ---- filling

pub record Fills (labels counts : Memory) : Type 0 where
  -- 11 for the labels of a space over 65,536 bytes, or for counts that are too short, whatever else is wrong.
  pub too_long : (space : ℕ) → 65536 < length (space_of labels space) → count_secrets labels counts ≡ counting (refusal_report 11 0) counts
  pub too_short : (space : ℕ) → 2 ≤ space → space ≤ 4 → length (space_of counts space) < (length (space_of labels space) + 63) / 64 + 1
      → count_secrets labels counts ≡ counting (refusal_report 11 0) counts
  -- 12 for a label not 0 or 1, where no length is wrong.
  pub bad_label : lengths_in_range (lengths_of labels) [] && counts_fit (lengths_of labels) (lengths_of counts) ≡ true
      → (space i : ℕ) → 1 < get_or (space_of labels space) i 0 → count_secrets labels counts ≡ counting (refusal_report 12 0) counts
  -- Else a report of zeros, and the recount; further words stay as lent.
  pub accepted : lengths_in_range (lengths_of labels) [] && counts_fit (lengths_of labels) (lengths_of counts) ≡ true → labels_in_range labels ≡ true
      → (count_secrets labels counts).report ≡ refusal_report 0 0
  pub report : (count_secrets labels counts).report.ending ≡ 0 → (count_secrets labels counts).report ≡ refusal_report 0 0
  pub true_counts : (count_secrets labels counts).report.ending ≡ 0 → TrueAll labels (count_secrets labels counts).counts
  pub further : (space j : ℕ) → 2 ≤ space → space ≤ 4 → count_words (length (space_of labels space)) ≤ j
      → get_or (space_of (count_secrets labels counts).counts space) j 0 ≡ get_or (space_of counts space) j 0
  pub same_lengths : lengths_of (count_secrets labels counts).counts ≡ lengths_of counts

abbrev pub Filling : Type 0
Filling = (labels counts : Memory) → Fills labels counts
