-- The C calls that run, and the interpreter's calls: what holds of these holds of the C calls by one law.
use Rattle.std.specs.Prelude.{ℕ, ◌+◌, ◌*◌, ◌^◌, ◌≤◌, ◌<◌, cond, List, ◌≡◌, eqb, length, drop, get_or}
use Rattle.secret_counts.specs.Recount.{count_words}
use Rattle.operation.specs.Numbers.{report_numbers}
use Rattle.operation.specs.declared.report.Report.{Report}
use Rattle.validation.specs.Verdict.{refusal_report}
use Rattle.machine.specs.Memory.{Memory, space_of}
use Rattle.machine.specs.Calls.{Outcome, plain_outcome, labelled_outcome, plain_run}
use Rattle.machine.specs.Noninterference.{LowEquivalent, Labelled, Indistinguishable, PlainAlike}
use Rattle.machine.specs.Resume.{Summed}
use Rattle.machine.specs.Counts.{CountedOutcome, counted_outcome, counted_run, count_secrets}
use Rattle.machine.specs.Recounts.{WordsOf, TrueAll, SameCounts, SummedCounted}
use Rattle.speculation.specs.Speculation.{Speculation, speculation}
use Rattle.speculation.specs.Labelled.{MarkedAside}
use Rattle.speculation.specs.Counts.{CountedSpeculation, counted_speculation, counted_speculative_run}
use Rattle.speculation.specs.Recounts.{IndistinguishableCounted, SummedAheadCounted}
use Rattle.runs.specs.Promises.{RunPromise, LabelledRunPromise, SpeculativeRunPromise, CountingPromise}
use Rattle.interpreter.specs.Composition.{LongEnough, CountsKept}
use Rattle.undrelvoa_faults.specs.Faults.{length_fault, report_fault}
use Rattle.undrelvoa.specs.Buffers.{settings_in, plain_buffers, after, labelled_buffers, after_labelled, speculative_buffers, after_speculation, counting_buffers, after_counting}

-- ---- what the C calls promise

-- The answer: 11 where the settings have another number of words, or the report does not fit.
abbrev pub AnswerPromise : (settings report : List ℕ) (answer : ℕ) → Type 0
AnswerPromise settings report answer = answer ≡ length_fault (length settings) (length report)

-- The buffers of a plain run when the call returns: what the run leaves, or all as lent.
abbrev pub BuffersPromise : (settings list : List ℕ) (start budget : ℕ) (memory : Memory) (log report : List ℕ)
    (memory' : Memory) (log' report' : List ℕ) (answer : ℕ) → Type 0
BuffersPromise settings list start budget m log report m' log' report' answer =
    plain_buffers m' log' report'
    ≡ cond (eqb answer 0) (after report (plain_run (settings_in settings) list start budget log m)) (plain_buffers m log report)

-- Those of a labelled run.
abbrev pub LabelledBuffersPromise : (settings list : List ℕ) (start budget : ℕ) (memory labels counts : Memory) (log report : List ℕ)
    (memory' labels' counts' : Memory) (log' report' : List ℕ) (answer : ℕ) → Type 0
LabelledBuffersPromise settings list start budget m labels counts log report m' labels' counts' log' report' answer =
    labelled_buffers m' labels' counts' log' report'
    ≡ cond (eqb answer 0) (after_labelled report (counted_run (settings_in settings) list start budget log labels m counts))
    (labelled_buffers m labels counts log report)

-- Those of a speculative run, its journal among them.
abbrev pub SpeculativeBuffersPromise : (settings list : List ℕ) (start budget window : ℕ) (memory labels counts : Memory) (log journal report : List ℕ)
    (memory' labels' counts' : Memory) (log' journal' report' : List ℕ) (answer : ℕ) → Type 0
SpeculativeBuffersPromise settings list start budget window m labels counts log journal report m' labels' counts' log' journal' report' answer =
    speculative_buffers m' labels' counts' log' journal' report'
    ≡ cond (eqb answer 0) (after_speculation report (counted_speculative_run (settings_in settings) list start budget window log journal labels m counts))
    (speculative_buffers m labels counts log journal report)

-- The answer of filling, which takes no settings: 11 where the report does not fit.
abbrev pub ReportAnswerPromise : (report : List ℕ) (answer : ℕ) → Type 0
ReportAnswerPromise report answer = answer ≡ report_fault (length report)

-- Its buffers.
abbrev pub CountingBuffersPromise : (labels counts : Memory) (report : List ℕ) (counts' : Memory) (report' : List ℕ) (answer : ℕ) → Type 0
CountingBuffersPromise labels counts report counts' report' answer =
    counting_buffers counts' report' ≡ cond (eqb answer 0) (after_counting report (count_secrets labels counts)) (counting_buffers counts report)

-- A C call of the plain run that answers 0: the buffers lent, the same when it returns, its answer, and its promise. A step is such a call
-- with budget 1.
pub record PlainCallC (settings list : List ℕ) (start budget : ℕ) : Type 0 where
  pub memory : Memory
  pub log : List ℕ
  pub report : List ℕ
  pub memory' : Memory
  pub log' : List ℕ
  pub report' : List ℕ
  pub answer : ℕ
  pub answers : AnswerPromise settings report answer
  pub accepted : answer ≡ 0
  pub leaves : BuffersPromise settings list start budget memory log report memory' log' report' answer

-- A C call of the labelled run that answers 0.
pub record LabelledCallC (settings list : List ℕ) (start budget : ℕ) : Type 0 where
  pub memory : Memory
  pub labels : Memory
  pub counts : Memory
  pub log : List ℕ
  pub report : List ℕ
  pub memory' : Memory
  pub labels' : Memory
  pub counts' : Memory
  pub log' : List ℕ
  pub report' : List ℕ
  pub answer : ℕ
  pub answers : AnswerPromise settings report answer
  pub accepted : answer ≡ 0
  pub leaves : LabelledBuffersPromise settings list start budget memory labels counts log report memory' labels' counts' log' report' answer

-- A C call of the speculative run that answers 0.
pub record SpeculativeCallC (settings list : List ℕ) (start budget window : ℕ) : Type 0 where
  pub memory : Memory
  pub labels : Memory
  pub counts : Memory
  pub log : List ℕ
  pub journal : List ℕ
  pub report : List ℕ
  pub memory' : Memory
  pub labels' : Memory
  pub counts' : Memory
  pub log' : List ℕ
  pub journal' : List ℕ
  pub report' : List ℕ
  pub answer : ℕ
  pub answers : AnswerPromise settings report answer
  pub accepted : answer ≡ 0
  pub leaves : SpeculativeBuffersPromise settings list start budget window memory labels counts log journal report memory' labels' counts' log' journal' report' answer

-- A C call of filling that answers 0.
pub record CountingCallC : Type 0 where
  pub labels : Memory
  pub counts : Memory
  pub report : List ℕ
  pub counts' : Memory
  pub report' : List ℕ
  pub answer : ℕ
  pub answers : ReportAnswerPromise report answer
  pub accepted : answer ≡ 0
  pub leaves : CountingBuffersPromise labels counts report counts' report' answer

-- ---- the law

-- The report in the words of a buffer.
abbrev pub report_in : List ℕ → Report
report_in ws = record { ending = get_or ws 0 0; index = get_or ws 1 0; executed = get_or ws 2 0; logged = get_or ws 3 0; value = get_or ws 4 0 }

-- A C call that answers 0 keeps the promise of the interpreter's call, with the report in the buffer's words; the words behind
-- the report are as lent.
pub record ThroughInterpreter : Type 0 where
  pub plain : {settings list : List ℕ} {start budget : ℕ} (c : PlainCallC settings list start budget)
      → RunPromise (settings_in settings) list start budget c.memory c.log c.memory' c.log' (report_in c.report')
  pub labelled : {settings list : List ℕ} {start budget : ℕ} (c : LabelledCallC settings list start budget)
      → LabelledRunPromise (settings_in settings) list start budget c.memory c.labels c.counts c.log
      c.memory' c.labels' c.counts' c.log' (report_in c.report')
  pub speculative : {settings list : List ℕ} {start budget window : ℕ} (c : SpeculativeCallC settings list start budget window)
      → SpeculativeRunPromise (settings_in settings) list start budget window c.memory c.labels c.counts c.log c.journal
      c.memory' c.labels' c.counts' c.log' c.journal' (report_in c.report')
  pub counting : (c : CountingCallC) → CountingPromise c.labels c.counts c.counts' (report_in c.report')
  pub plain_lent : {settings list : List ℕ} {start budget : ℕ} (c : PlainCallC settings list start budget)
      → drop report_numbers c.report' ≡ drop report_numbers c.report
  pub labelled_lent : {settings list : List ℕ} {start budget : ℕ} (c : LabelledCallC settings list start budget)
      → drop report_numbers c.report' ≡ drop report_numbers c.report
  pub speculative_lent : {settings list : List ℕ} {start budget window : ℕ} (c : SpeculativeCallC settings list start budget window)
      → drop report_numbers c.report' ≡ drop report_numbers c.report
  pub counting_lent : (c : CountingCallC) → drop report_numbers c.report' ≡ drop report_numbers c.report

-- ---- what follows

-- What a C call left, counts aside; and with them.
abbrev pub left_c : {settings list : List ℕ} {start budget : ℕ} → LabelledCallC settings list start budget → Outcome
left_c c = labelled_outcome (report_in c.report') c.memory' c.labels' c.log'

abbrev pub counted_left_c : {settings list : List ℕ} {start budget : ℕ} → LabelledCallC settings list start budget → CountedOutcome
counted_left_c c = counted_outcome (report_in c.report') c.memory' c.labels' c.counts' c.log'

-- What a C call of the plain run left.
abbrev pub plain_left_c : {settings list : List ℕ} {start budget : ℕ} → PlainCallC settings list start budget → Outcome
plain_left_c c = plain_outcome (report_in c.report') c.memory' c.log'

-- Noninterference of C calls, with counts long enough: the labelled calls show the same; where the ending isn't LEAK (31), a plain call that
-- is lent the same leaves what the labelled call left; counts that equal a recount at the start are the same at the end.
abbrev pub NoninterferenceC : Type 0
NoninterferenceC = (settings list : List ℕ) (start budget : ℕ) (first second : LabelledCallC settings list start budget)
    (first_plain second_plain : PlainCallC settings list start budget)
    → first.labels ≡ second.labels → LowEquivalent first.labels first.memory second.memory → length first.log ≡ length second.log
    → first_plain.memory ≡ first.memory → length first_plain.log ≡ length first.log
    → second_plain.memory ≡ second.memory → length second_plain.log ≡ length second.log
    → LongEnough first.memory first.counts → LongEnough second.memory second.counts
    → Indistinguishable (left_c first) (left_c second)
    × (Labelled first.labels first.memory → ((left_c first).report.ending ≡ 31 → ⊥) → PlainAlike (left_c first) (plain_left_c first_plain))
    × (Labelled second.labels second.memory → ((left_c second).report.ending ≡ 31 → ⊥) → PlainAlike (left_c second) (plain_left_c second_plain))
    × (TrueAll first.labels first.counts → TrueAll second.labels second.counts → SameCounts first.labels first.counts' second.counts')

-- Resuming by C calls: one that ended with BUDGET (2), one that resumes it, and one with the two budgets added.
abbrev pub LabelledResumesC : Type 0
LabelledResumesC = (settings list : List ℕ) (start budget further : ℕ) (first : LabelledCallC settings list start budget)
    (second : LabelledCallC settings list (left_c first).report.index further) (whole : LabelledCallC settings list start (budget + further))
    → (left_c first).report.ending ≡ 2 → second.memory ≡ first.memory' → second.labels ≡ first.labels' → second.counts ≡ first.counts'
    → second.log ≡ drop (left_c first).report.logged first.log'
    → whole.memory ≡ first.memory → whole.labels ≡ first.labels → whole.counts ≡ first.counts → whole.log ≡ first.log
    → SummedCounted (counted_left_c first) (counted_left_c second) (counted_left_c whole)

-- The same of the plain run.
abbrev pub PlainResumesC : Type 0
PlainResumesC = (settings list : List ℕ) (start budget further : ℕ) (first : PlainCallC settings list start budget)
    (second : PlainCallC settings list (plain_left_c first).report.index further) (whole : PlainCallC settings list start (budget + further))
    → (plain_left_c first).report.ending ≡ 2 → second.memory ≡ first.memory' → second.log ≡ drop (plain_left_c first).report.logged first.log'
    → whole.memory ≡ first.memory → whole.log ≡ first.log
    → Summed (plain_left_c first) (plain_left_c second) (plain_left_c whole)

-- What a C call of the speculative run left, counts aside; and with them.
abbrev pub speculative_left_c : {settings list : List ℕ} {start budget window : ℕ} → SpeculativeCallC settings list start budget window → Speculation
speculative_left_c c = speculation (report_in c.report') c.memory' c.labels' c.log' c.journal'

abbrev pub counted_speculative_left_c : {settings list : List ℕ} {start budget window : ℕ} → SpeculativeCallC settings list start budget window → CountedSpeculation
counted_speculative_left_c c = counted_speculation (report_in c.report') c.memory' c.labels' c.counts' c.log' c.journal'

-- Noninterference of two C calls of the speculative run, with logs and journals of equal lengths and counts that are long enough.
abbrev pub SpeculativeNoninterferenceC : Type 0
SpeculativeNoninterferenceC = (settings list : List ℕ) (start budget window : ℕ) (first second : SpeculativeCallC settings list start budget window)
    → first.labels ≡ second.labels → LowEquivalent first.labels first.memory second.memory
    → length first.log ≡ length second.log → length first.journal ≡ length second.journal
    → LongEnough first.memory first.counts → LongEnough second.memory second.counts
    → IndistinguishableCounted first.labels first.counts second.counts first.journal second.journal (counted_speculative_left_c first) (counted_speculative_left_c second)

-- Resuming by C calls of the speculative run.
abbrev pub SpeculativeResumesC : Type 0
SpeculativeResumesC = (settings list : List ℕ) (start budget further window : ℕ) (first : SpeculativeCallC settings list start budget window)
    (second : SpeculativeCallC settings list (speculative_left_c first).outcome.report.index further window)
    (whole : SpeculativeCallC settings list start (budget + further) window)
    → (speculative_left_c first).outcome.report.ending ≡ 2 → second.memory ≡ first.memory' → second.labels ≡ first.labels' → second.counts ≡ first.counts'
    → second.log ≡ drop (speculative_left_c first).outcome.report.logged first.log' → second.journal ≡ first.journal'
    → whole.memory ≡ first.memory → whole.labels ≡ first.labels → whole.counts ≡ first.counts → whole.log ≡ first.log → whole.journal ≡ first.journal
    → SummedAheadCounted (counted_speculative_left_c first) (counted_speculative_left_c second) (counted_speculative_left_c whole)

-- The two C calls are lent the same.
pub record LentAlikeC {settings list : List ℕ} {start budget window : ℕ} (s : SpeculativeCallC settings list start budget window)
    (l : LabelledCallC settings list start budget) : Type 0 where
  pub memory : s.memory ≡ l.memory
  pub labels : s.labels ≡ l.labels
  pub counts : s.counts ≡ l.counts
  pub log : s.log ≡ l.log

-- A C call of the speculative run against one of the labelled run, of counts that are long enough: equal, marked words aside, and with the same
-- counts where they are 64-bit words, as C's are; every word of the labelled run is below 2^63; with W = 0 the same, and the journal as lent.
pub record SpeculativeAgainstLabelledC : Type 0 where
  pub aside : {settings list : List ℕ} {start budget window : ℕ} (s : SpeculativeCallC settings list start budget window) (l : LabelledCallC settings list start budget)
      → LentAlikeC s l → LongEnough l.memory l.counts → window ≤ 64 → 4 * window ≤ length s.journal
      → ((speculative_left_c s).outcome.report.ending ≡ 34 → ⊥) → ((speculative_left_c s).outcome.report.ending ≡ 35 → ⊥)
      → MarkedAside (speculative_left_c s).outcome (left_c l)
  pub counts : {settings list : List ℕ} {start budget window : ℕ} (s : SpeculativeCallC settings list start budget window) (l : LabelledCallC settings list start budget)
      → LentAlikeC s l → LongEnough l.memory l.counts → WordsOf l.counts → window ≤ 64 → 4 * window ≤ length s.journal
      → ((speculative_left_c s).outcome.report.ending ≡ 34 → ⊥) → ((speculative_left_c s).outcome.report.ending ≡ 35 → ⊥)
      → s.counts' ≡ l.counts'
  pub below : {settings list : List ℕ} {start budget : ℕ} (l : LabelledCallC settings list start budget) (k : ℕ)
      → k < (left_c l).report.logged → get_or l.log' k 0 < 2 ^ 63
  pub no_window : {settings list : List ℕ} {start budget : ℕ} (s : SpeculativeCallC settings list start budget 0) (l : LabelledCallC settings list start budget)
      → LentAlikeC s l → LongEnough l.memory l.counts → speculative_left_c s ≡ record { outcome = left_c l; journal = s.journal }
  pub no_window_counts : {settings list : List ℕ} {start budget : ℕ} (s : SpeculativeCallC settings list start budget 0) (l : LabelledCallC settings list start budget)
      → LentAlikeC s l → LongEnough l.memory l.counts → WordsOf l.counts → s.counts' ≡ l.counts'

-- Counts of C calls: a run moves them by as much as the recount does, and so keeps those that equal a recount; filled counts equal one, with a
-- report of zeros; a refusal to fill leaves them as lent.
pub record CallsCountC : Type 0 where
  pub labelled : {settings list : List ℕ} {start budget : ℕ} (c : LabelledCallC settings list start budget)
      → CountsKept c.labels c.counts c.labels' c.counts'
  pub speculative : {settings list : List ℕ} {start budget window : ℕ} (c : SpeculativeCallC settings list start budget window)
      → CountsKept c.labels c.counts c.labels' c.counts'
  pub filled : (c : CountingCallC) → (report_in c.report').ending ≡ 0 → TrueAll c.labels c.counts'
  pub zeros : (c : CountingCallC) → (report_in c.report').ending ≡ 0 → report_in c.report' ≡ refusal_report 0 0
  pub refused : (c : CountingCallC) → ((report_in c.report').ending ≡ 0 → ⊥) → c.counts' ≡ c.counts
  pub further : (c : CountingCallC) (space j : ℕ) → 2 ≤ space → space ≤ 4 → count_words (length (space_of c.labels space)) ≤ j
      → get_or (space_of c.counts' space) j 0 ≡ get_or (space_of c.counts space) j 0
