-- Noninterference, the resume law and counts of the calls themselves: what several calls promise together, by their promises alone.
use Rattle.std.specs.Prelude.{ℕ, ◌+◌, ◌*◌, ◌^◌, ◌≤◌, ◌<◌, true, List, ◌≡◌, length, drop, get_or}
use Rattle.secret_counts.specs.Recount.{count_words}
use Rattle.operation.specs.declared.layout.Settings.{Settings}
use Rattle.operation.specs.declared.report.Report.{Report}
use Rattle.validation.specs.Verdict.{refusal_report}
use Rattle.machine.specs.Memory.{Memory, lengths_of, space_of}
use Rattle.machine.specs.Calls.{Outcome, plain_outcome, labelled_outcome}
use Rattle.machine.specs.Noninterference.{LowEquivalent, Labelled, Indistinguishable, PlainAlike}
use Rattle.machine.specs.Resume.{Summed}
use Rattle.machine.specs.Counts.{counts_fit, CountedOutcome, counted_outcome}
use Rattle.machine.specs.Recounts.{WordsOf, TurnedAll, TrueAll, SameCounts, SummedCounted}
use Rattle.speculation.specs.Speculation.{Speculation, speculation}
use Rattle.speculation.specs.Labelled.{MarkedAside}
use Rattle.speculation.specs.Counts.{CountedSpeculation, counted_speculation}
use Rattle.speculation.specs.Recounts.{IndistinguishableCounted, SummedAheadCounted}
use Rattle.runs.specs.Promises.{RunPromise, LabelledRunPromise, SpeculativeRunPromise, CountingPromise}

-- ---- calls, with what they promise

-- A call of `labelled_run`: the buffers lent, the same buffers when it returns, its answer, and its `ensures`.
pub record LabelledCall (settings : Settings) (list : List ℕ) (start budget : ℕ) : Type 0 where
  pub memory : Memory
  pub labels : Memory
  pub counts : Memory
  pub log : List ℕ
  pub memory' : Memory
  pub labels' : Memory
  pub counts' : Memory
  pub log' : List ℕ
  pub report : Report
  pub ensures : LabelledRunPromise settings list start budget memory labels counts log memory' labels' counts' log' report

-- A call of `run`.
pub record PlainCall (settings : Settings) (list : List ℕ) (start budget : ℕ) : Type 0 where
  pub memory : Memory
  pub log : List ℕ
  pub memory' : Memory
  pub log' : List ℕ
  pub report : Report
  pub ensures : RunPromise settings list start budget memory log memory' log' report

-- A call of `speculative_run`.
pub record SpeculativeCall (settings : Settings) (list : List ℕ) (start budget window : ℕ) : Type 0 where
  pub memory : Memory
  pub labels : Memory
  pub counts : Memory
  pub log : List ℕ
  pub journal : List ℕ
  pub memory' : Memory
  pub labels' : Memory
  pub counts' : Memory
  pub log' : List ℕ
  pub journal' : List ℕ
  pub report : Report
  pub ensures : SpeculativeRunPromise settings list start budget window memory labels counts log journal memory' labels' counts' log' journal' report

-- A call of `count_secrets`.
pub record CountingCall : Type 0 where
  pub labels : Memory
  pub counts : Memory
  pub counts' : Memory
  pub report : Report
  pub ensures : CountingPromise labels counts counts' report

-- What a call left, counts aside; and with them.
abbrev pub left : {settings : Settings} {list : List ℕ} {start budget : ℕ} → LabelledCall settings list start budget → Outcome
left c = labelled_outcome c.report c.memory' c.labels' c.log'

abbrev pub counted_left : {settings : Settings} {list : List ℕ} {start budget : ℕ} → LabelledCall settings list start budget → CountedOutcome
counted_left c = counted_outcome c.report c.memory' c.labels' c.counts' c.log'

-- What a call of `run` left.
abbrev pub plain_left : {settings : Settings} {list : List ℕ} {start budget : ℕ} → PlainCall settings list start budget → Outcome
plain_left c = plain_outcome c.report c.memory' c.log'

-- What a call of `speculative_run` left, counts aside; and with them.
abbrev pub speculative_left : {settings : Settings} {list : List ℕ} {start budget window : ℕ} → SpeculativeCall settings list start budget window → Speculation
speculative_left c = speculation c.report c.memory' c.labels' c.log' c.journal'

abbrev pub counted_speculative_left : {settings : Settings} {list : List ℕ} {start budget window : ℕ} → SpeculativeCall settings list start budget window → CountedSpeculation
counted_speculative_left c = counted_speculation c.report c.memory' c.labels' c.counts' c.log' c.journal'

-- Counts of enough words for the memory; no refusal is theirs.
abbrev pub LongEnough : (memory counts : Memory) → Type 0
LongEnough memory counts = counts_fit (lengths_of memory) (lengths_of counts) ≡ true

-- ---- noninterference

-- Two labelled calls and two plain calls.
pub record LowEquivalentCalls : Type 0 where
  pub settings : Settings
  pub list : List ℕ
  pub start : ℕ
  pub budget : ℕ
  pub first : LabelledCall settings list start budget
  pub second : LabelledCall settings list start budget
  pub first_plain : PlainCall settings list start budget
  pub second_plain : PlainCall settings list start budget
  -- the same labels, memories that agree in each byte labelled public, logs of equal lengths
  pub labels : first.labels ≡ second.labels
  pub memories : LowEquivalent first.labels first.memory second.memory
  pub logs : length first.log ≡ length second.log
  -- counts that are long enough, whatever they hold
  pub first_counts : LongEnough first.memory first.counts
  pub second_counts : LongEnough second.memory second.counts
  -- the plain calls are lent the memories of the labelled calls, and logs of their lengths
  pub first_memory : first_plain.memory ≡ first.memory
  pub first_log : length first_plain.log ≡ length first.log
  pub second_memory : second_plain.memory ≡ second.memory
  pub second_log : length second_plain.log ≡ length second.log

-- The labelled calls show the same; where the ending isn't LEAK (31), each plain call leaves what the labelled call left.
pub record NoninterferentCalls (c : LowEquivalentCalls) : Type 0 where
  pub runs : Indistinguishable (left c.first) (left c.second)
  pub first_plain : Labelled c.first.labels c.first.memory → (c.first.report.ending ≡ 31 → ⊥) → PlainAlike (left c.first) (plain_left c.first_plain)
  pub second_plain : Labelled c.second.labels c.second.memory → (c.second.report.ending ≡ 31 → ⊥) → PlainAlike (left c.second) (plain_left c.second_plain)
  -- Where both counts equal a recount at the start, they are equal at the end.
  pub same_counts : TrueAll c.first.labels c.first.counts → TrueAll c.second.labels c.second.counts
      → SameCounts c.first.labels c.first.counts' c.second.counts'

-- Of every four such calls.
abbrev pub CallsNoninterfere : Type 0
CallsNoninterfere = (c : LowEquivalentCalls) → NoninterferentCalls c

-- Two calls of `speculative_run`, with logs and journals of equal lengths and counts that are long enough.
abbrev pub SpeculativeCallsNoninterfere : Type 0
SpeculativeCallsNoninterfere = (settings : Settings) (list : List ℕ) (start budget window : ℕ) (first second : SpeculativeCall settings list start budget window)
    → first.labels ≡ second.labels → LowEquivalent first.labels first.memory second.memory
    → length first.log ≡ length second.log → length first.journal ≡ length second.journal
    → LongEnough first.memory first.counts → LongEnough second.memory second.counts
    → IndistinguishableCounted first.labels first.counts second.counts first.journal second.journal (counted_speculative_left first) (counted_speculative_left second)

-- ---- resuming

-- A call that ended with BUDGET (2), a call that resumes it, and one call with the two budgets added.
abbrev pub LabelledCallsResume : Type 0
LabelledCallsResume = (settings : Settings) (list : List ℕ) (start budget further : ℕ) (first : LabelledCall settings list start budget)
    (second : LabelledCall settings list first.report.index further) (whole : LabelledCall settings list start (budget + further))
    → first.report.ending ≡ 2 → second.memory ≡ first.memory' → second.labels ≡ first.labels' → second.counts ≡ first.counts'
    → second.log ≡ drop first.report.logged first.log'
    → whole.memory ≡ first.memory → whole.labels ≡ first.labels → whole.counts ≡ first.counts → whole.log ≡ first.log
    → SummedCounted (counted_left first) (counted_left second) (counted_left whole)

-- The resume law, of every three such calls of `run`.
abbrev pub PlainCallsResume : Type 0
PlainCallsResume = (settings : Settings) (list : List ℕ) (start budget further : ℕ) (first : PlainCall settings list start budget)
    (second : PlainCall settings list first.report.index further) (whole : PlainCall settings list start (budget + further))
    → first.report.ending ≡ 2 → second.memory ≡ first.memory' → second.log ≡ drop first.report.logged first.log'
    → whole.memory ≡ first.memory → whole.log ≡ first.log
    → Summed (plain_left first) (plain_left second) (plain_left whole)

-- The resume law, of every three such calls of `speculative_run`.
abbrev pub SpeculativeCallsResume : Type 0
SpeculativeCallsResume = (settings : Settings) (list : List ℕ) (start budget further window : ℕ) (first : SpeculativeCall settings list start budget window)
    (second : SpeculativeCall settings list first.report.index further window) (whole : SpeculativeCall settings list start (budget + further) window)
    → first.report.ending ≡ 2 → second.memory ≡ first.memory' → second.labels ≡ first.labels' → second.counts ≡ first.counts'
    → second.log ≡ drop first.report.logged first.log' → second.journal ≡ first.journal'
    → whole.memory ≡ first.memory → whole.labels ≡ first.labels → whole.counts ≡ first.counts → whole.log ≡ first.log → whole.journal ≡ first.journal
    → SummedAheadCounted (counted_speculative_left first) (counted_speculative_left second) (counted_speculative_left whole)

-- ---- the speculative call against the labelled call

-- The two calls are lent the same.
pub record LentAlike {settings : Settings} {list : List ℕ} {start budget window : ℕ} (s : SpeculativeCall settings list start budget window)
    (l : LabelledCall settings list start budget) : Type 0 where
  pub memory : s.memory ≡ l.memory
  pub labels : s.labels ≡ l.labels
  pub counts : s.counts ≡ l.counts
  pub log : s.log ≡ l.log

-- All of these, of counts that are long enough.
pub record SpeculativeCallsAgainstLabelled : Type 0 where
  -- With W and journal in range and an ending other than 34 LOG or 35 LEAK AHEAD: equal, marked words aside.
  pub aside : {settings : Settings} {list : List ℕ} {start budget window : ℕ} (s : SpeculativeCall settings list start budget window)
      (l : LabelledCall settings list start budget) → LentAlike s l → LongEnough l.memory l.counts → window ≤ 64 → 4 * window ≤ length s.journal
      → (s.report.ending ≡ 34 → ⊥) → (s.report.ending ≡ 35 → ⊥) → MarkedAside (speculative_left s).outcome (left l)
  -- So are the counts, which are 64-bit words.
  pub counts : {settings : Settings} {list : List ℕ} {start budget window : ℕ} (s : SpeculativeCall settings list start budget window)
      (l : LabelledCall settings list start budget) → LentAlike s l → LongEnough l.memory l.counts → WordsOf l.counts
      → window ≤ 64 → 4 * window ≤ length s.journal
      → (s.report.ending ≡ 34 → ⊥) → (s.report.ending ≡ 35 → ⊥) → s.counts' ≡ l.counts'
  -- Every word that a labelled call writes is below 2^63, whatever counts it is lent.
  pub below : {settings : Settings} {list : List ℕ} {start budget : ℕ} (l : LabelledCall settings list start budget) (k : ℕ)
      → k < l.report.logged → get_or l.log' k 0 < 2 ^ 63
  -- With W = 0, for every ending: the same, and the journal as lent; and the same counts.
  pub no_window : {settings : Settings} {list : List ℕ} {start budget : ℕ} (s : SpeculativeCall settings list start budget 0)
      (l : LabelledCall settings list start budget) → LentAlike s l → LongEnough l.memory l.counts
      → speculative_left s ≡ record { outcome = left l; journal = s.journal }
  pub no_window_counts : {settings : Settings} {list : List ℕ} {start budget : ℕ} (s : SpeculativeCall settings list start budget 0)
      (l : LabelledCall settings list start budget) → LentAlike s l → LongEnough l.memory l.counts → WordsOf l.counts → s.counts' ≡ l.counts'

-- ---- counts of secret bytes

-- What a run leaves of the labels and counts lent to it, whatever the counts hold, for every ending.
pub record CountsKept (labels counts labels' counts' : Memory) : Type 0 where
  -- Modulo 2^64 they move by as much as the recount does.
  pub turned : TurnedAll labels labels' counts counts'
  -- Equal to a recount when lent, they are so when the call returns.
  pub kept : TrueAll labels counts → TrueAll labels' counts'

-- Of every call.
pub record CallsCount : Type 0 where
  pub labelled : {settings : Settings} {list : List ℕ} {start budget : ℕ} (c : LabelledCall settings list start budget)
      → CountsKept c.labels c.counts c.labels' c.counts'
  pub speculative : {settings : Settings} {list : List ℕ} {start budget window : ℕ} (c : SpeculativeCall settings list start budget window)
      → CountsKept c.labels c.counts c.labels' c.counts'
  -- Filled counts equal a recount, with a report of zeros; a refusal leaves them as lent.
  pub filled : (c : CountingCall) → c.report.ending ≡ 0 → TrueAll c.labels c.counts'
  pub zeros : (c : CountingCall) → c.report.ending ≡ 0 → c.report ≡ refusal_report 0 0
  pub refused : (c : CountingCall) → (c.report.ending ≡ 0 → ⊥) → c.counts' ≡ c.counts
  -- Further words stay as lent.
  pub further : (c : CountingCall) (space j : ℕ) → 2 ≤ space → space ≤ 4 → count_words (length (space_of c.labels space)) ≤ j
      → get_or (space_of c.counts' space) j 0 ≡ get_or (space_of c.counts space) j 0
