-- Noninterference, the resume law and the laws of counts hold of the calls.
use Prim.Native.Nat.{ℕ, ◌+◌, ◌≤◌, ◌<◌}
use native.Mathlib.Omega.{arith}
use mathlib.Core.Bool.{Bool, true, false, cond, ◌&&◌, true≢false}
use mathlib.Core.List.{List}
use mathlib.Core.Path.{◌≡◌, refl, sym, ap, subst, ◌∙◌}
use borrow.Author.Tests.{ne_eqb}
use lib.Dec.{eqb}
use lib.ListN.{length, drop, get_or}
use Rattle.integer.proofs.Booleans.{and-false}
use Rattle.secret_counts.proofs.Recounting.{count_laws}
use Rattle.operation.specs.declared.layout.Settings.{Settings}
use Rattle.operation.specs.declared.report.Report.{Report}
use Rattle.machine.specs.Program.{program_of}
use Rattle.machine.specs.Memory.{Memory, lengths_of, space_of}
use Rattle.machine.specs.Run.{run}
use Rattle.machine.specs.Calls.{Outcome, labelled_outcome, same_lengths, labels_in_range, outcome_of, starting, called, labelled_run, plain_run}
use Rattle.machine.specs.Noninterference.{Labelled, PlainAlike}
use Rattle.machine.specs.Resume.{Summed, unused}
use Rattle.machine.specs.Counts.{counts_fit, CountedOutcome, counted_refusal, counted_run, Counting, count_secrets}
use Rattle.machine.specs.Recounts.{WordsOf, TurnedAll, SummedCounted}
use Rattle.machine.proofs.Refusals.{refusal_refuses, refusal_report_lem, accepted}
use Rattle.machine.proofs.Noninterference.{noninterference}
use Rattle.machine.proofs.Resume.{plain_resumes}
use Rattle.machine.proofs.Recounts.{counts_of_labelled_runs, counted_noninterference, counted_resumes, filling}
use Rattle.speculation.specs.Window.{window_mark}
use Rattle.speculation.specs.Speculation.{Speculation, speculative_run}
use Rattle.speculation.specs.Labelled.{MarkedAside}
use Rattle.speculation.specs.Counts.{CountedSpeculation, counted_speculative_run}
use Rattle.speculation.specs.Recounts.{SummedAheadCounted}
use Rattle.speculation.proofs.Labelled.{against_labelled}
use Rattle.speculation.proofs.Recounts.{counts_of_speculative_runs, counted_speculative_noninterference, counted_speculative_resumes}
use Rattle.interpreter.specs.Composition.{LabelledCall, PlainCall, SpeculativeCall, left, plain_left, counted_left, speculative_left, counted_speculative_left, LongEnough}
use Rattle.interpreter.specs.Composition.{CallsNoninterfere, LabelledCallsResume, PlainCallsResume, SpeculativeCallsNoninterfere, SpeculativeCallsResume}
use Rattle.interpreter.specs.Composition.{LentAlike, SpeculativeCallsAgainstLabelled, CountsKept, CallsCount}

-- ---- what a labelled call left

module _ {settings : Settings} {list : List ℕ} {start budget : ℕ} (c : LabelledCall settings list start budget) where
  -- with counts long enough, the labelled run without them
  left-run : LongEnough c.memory c.counts → left c ≡ labelled_run settings list start budget c.log c.labels c.memory
  left-run t =
      ap (λ (o : CountedOutcome). o.outcome) c.ensures
      ∙ (counts_of_labelled_runs settings list start budget c.log c.labels c.memory c.counts).others t

  left_counts : CountsKept c.labels c.counts c.labels' c.counts'
  left_counts =
      let k = counts_of_labelled_runs settings list start budget c.log c.labels c.memory c.counts in
      subst (λ (o : CountedOutcome). CountsKept c.labels c.counts o.outcome.labels o.counts) (sym c.ensures) (record { turned = k.turned; kept = k.kept })

  left-words : WordsOf c.counts → WordsOf c.counts'
  left-words w =
      subst (λ (o : CountedOutcome). WordsOf o.counts) (sym c.ensures)
      ((counts_of_labelled_runs settings list start budget c.log c.labels c.memory c.counts).words w)

  -- where the ending is not LEAK, what the plain call left that is lent the same
  alike : LongEnough c.memory c.counts → (p : PlainCall settings list start budget) → p.memory ≡ c.memory → length p.log ≡ length c.log
      → Labelled c.labels c.memory → (c.report.ending ≡ 31 → ⊥) → PlainAlike (left c) (plain_left p)
  alike t p em el l e =
      let n = noninterference settings list start budget c.log c.log refl c.labels c.memory c.memory (record { lengths = refl; bytes = λ s i h z. refl }) in
      rw (left-run t, p.ensures, em) (n.first_plain l (λ z. e (ap (λ (o : Outcome). o.report.ending) (left-run t) ∙ z)) p.log el)

pub calls_noninterfere : CallsNoninterfere
calls_noninterfere c =
    let a = c.first in
    let b = c.second in
    let n = counted_noninterference c.settings c.list c.start c.budget a.log b.log c.logs a.labels a.memory b.memory c.memories
    a.counts b.counts c.first_counts c.second_counts in
    let ea = a.ensures in
    let eb = rw (← c.labels) at b.ensures in
    record {
      runs = rw (ap (λ (o : CountedOutcome). o.outcome) ea, ap (λ (o : CountedOutcome). o.outcome) eb) n.runs;
      first_plain = alike a c.first_counts c.first_plain c.first_memory c.first_log;
      second_plain = alike b c.second_counts c.second_plain c.second_memory c.second_log;
      same_counts = λ t s. rw (ap (λ (o : CountedOutcome). o.counts) ea, ap (λ (o : CountedOutcome). o.counts) eb) (n.same_counts t (rw (← c.labels) at s));
    }

pub labelled_calls_resume : LabelledCallsResume
labelled_calls_resume settings list start budget further first second whole e em el ec eg wm wl wc wg =
    let all : CountedOutcome = counted_run settings list start (budget + further) first.log first.labels first.memory first.counts in
    let s = counted_resumes settings list start budget further first.log first.labels first.memory first.counts
    (ap (λ (o : CountedOutcome). o.outcome.report.ending) (sym first.ensures) ∙ e) in
    let t : SummedCounted (counted_left first)
    (counted_run settings list first.report.index further (drop first.report.logged first.log') first.labels' first.memory' first.counts') all =
    subst
    (λ (o : CountedOutcome). SummedCounted o
    (counted_run settings list o.outcome.report.index further (unused o.outcome) o.outcome.labels o.outcome.memory o.counts) all)
    (sym first.ensures) s in
    rw (second.ensures, whole.ensures, em, el, ec, eg, wm, wl, wc, wg) t

pub plain_calls_resume : PlainCallsResume
plain_calls_resume settings list start budget further first second whole e em eg wm wg =
    let s = plain_resumes settings list start budget further first.log first.memory (ap (λ (o : Outcome). o.report.ending) (sym first.ensures) ∙ e) in
    let t : Summed (plain_left first) (plain_run settings list first.report.index further (drop first.report.logged first.log') first.memory')
    (plain_run settings list start (budget + further) first.log first.memory) =
    subst
    (λ (o : Outcome). Summed o (plain_run settings list o.report.index further (unused o) o.memory) (plain_run settings list start (budget + further) first.log first.memory))
    (sym first.ensures) s in
    rw (second.ensures, whole.ensures, em, eg, wm, wg) t

-- ---- the speculative run

pub speculative_calls_noninterfere : SpeculativeCallsNoninterfere
speculative_calls_noninterfere settings list start budget window first second el em eg ej t t' =
    rw (first.ensures, second.ensures, ← el)
    (counted_speculative_noninterference settings list start budget window first.log second.log first.journal second.journal eg ej
    first.labels first.memory second.memory em first.counts second.counts t t')

pub speculative_calls_resume : SpeculativeCallsResume
speculative_calls_resume settings list start budget further window first second whole e em el ec eg ej wm wl wc wg wj =
    let all : CountedSpeculation = counted_speculative_run settings list start (budget + further) window first.log first.journal first.labels first.memory first.counts in
    let s = counted_speculative_resumes settings list start budget further window first.log first.journal first.labels first.memory first.counts
    (ap (λ (o : CountedSpeculation). o.speculation.outcome.report.ending) (sym first.ensures) ∙ e) in
    let t : SummedAheadCounted (counted_speculative_left first)
    (counted_speculative_run settings list first.report.index further window (drop first.report.logged first.log') first.journal' first.labels' first.memory' first.counts') all =
    subst
    (λ (o : CountedSpeculation). SummedAheadCounted o
    (counted_speculative_run settings list o.speculation.outcome.report.index further window (unused o.speculation.outcome) o.speculation.journal
    o.speculation.outcome.labels o.speculation.outcome.memory o.counts) all)
    (sym first.ensures) s in
    rw (second.ensures, whole.ensures, em, el, ec, eg, ej, wm, wl, wc, wg, wj) t

module _ {settings : Settings} {list : List ℕ} {start budget window : ℕ} (s : SpeculativeCall settings list start budget window) where
  speculative_counts : CountsKept s.labels s.counts s.labels' s.counts'
  speculative_counts =
      let k = counts_of_speculative_runs settings list start budget window s.log s.journal s.labels s.memory s.counts in
      subst (λ (o : CountedSpeculation). CountsKept s.labels s.counts o.speculation.outcome.labels o.counts) (sym s.ensures)
      (record { turned = k.turned; kept = k.kept })

  speculative_words : WordsOf s.counts → WordsOf s.counts'
  speculative_words w =
      subst (λ (o : CountedSpeculation). WordsOf o.counts) (sym s.ensures)
      ((counts_of_speculative_runs settings list start budget window s.log s.journal s.labels s.memory s.counts).words w)

module _ {settings : Settings} {list : List ℕ} {start budget window : ℕ} (s : SpeculativeCall settings list start budget window) (l : LabelledCall settings list start budget)
    (a : LentAlike s l) where
  -- what the speculative call left, told of what the labelled call was lent
  counted_left_of : counted_speculative_left s ≡ counted_speculative_run settings list start budget window l.log s.journal l.labels l.memory l.counts
  counted_left_of = s.ensures ∙ rw (a.memory, a.labels, a.counts, a.log) refl

  left_of : LongEnough l.memory l.counts → speculative_left s ≡ speculative_run settings list start budget window l.log s.journal l.labels l.memory
  left_of t =
      ap (λ (o : CountedSpeculation). o.speculation) counted_left_of
      ∙ (counts_of_speculative_runs settings list start budget window l.log s.journal l.labels l.memory l.counts).others t

-- counts that turned with the same labels, of 64-bit words
told : (labels labels' counts : Memory) {first second : Memory} → WordsOf first → WordsOf second → TurnedAll labels labels' counts first
    → TurnedAll labels labels' counts second → first ≡ second
unfolding space_of
told labels labels' counts {first} {second} v w p q = rw (one 2 (omega arith) (omega arith), one 3 (omega arith) (omega arith), one 4 (omega arith) (omega arith)) refl
  where
    one : (space : ℕ) → 2 ≤ space → space ≤ 4 → space_of first space ≡ space_of second space
    one space low high = count_laws.told (space_of labels space) (space_of labels' space) (space_of counts space) _ _ (v space) (w space) (p space low high) (q space low high)

-- counts that are too short: refused, and no word written
none_written : (settings : Settings) (list : List ℕ) (start budget : ℕ) (log : List ℕ) (labels m counts : Memory) → counts_fit (lengths_of m) (lengths_of counts) ≡ false
    → (counted_run settings list start budget log labels m counts).outcome.report.logged ≡ 0
unfolding counted_run counted_refusal called
none_written settings list start budget log labels m counts short = by (eqb refused.ending 0) refl
  where
    fitting : Bool
    fitting = same_lengths (lengths_of labels) (lengths_of m) && counts_fit (lengths_of m) (lengths_of counts)

    refused : Report
    refused = counted_refusal settings list start labels m counts

    unfit : fitting ≡ false
    unfit = rw short (and-false (same_lengths (lengths_of labels) (lengths_of m)))

    by : (t : Bool) → eqb refused.ending 0 ≡ t
        → (cond t (outcome_of log (run (program_of settings list) budget (starting start (length log)) labels m)) (labelled_outcome refused m labels log)).report.logged ≡ 0
    by true t = absurd (true≢false (sym (accepted settings (lengths_of m) list start fitting (labels_in_range labels) t).labels_fit ∙ unfit))
    by false t = (refusal_report_lem (refusal_refuses settings (lengths_of m) list start fitting (labels_in_range labels))).1

left_below : {settings : Settings} {list : List ℕ} {start budget : ℕ} (l : LabelledCall settings list start budget) (k : ℕ) → k < l.report.logged → get_or l.log' k 0 < window_mark
left_below {settings} {list} {start} {budget} l k h = by (counts_fit (lengths_of l.memory) (lengths_of l.counts)) refl
  where
    by : (t : Bool) → counts_fit (lengths_of l.memory) (lengths_of l.counts) ≡ t → get_or l.log' k 0 < window_mark
    by true t =
        subst (λ (o : Outcome). k < o.report.logged → get_or o.log k 0 < window_mark) (sym (left-run l t))
        (against_labelled.below settings list start budget l.log l.labels l.memory k) h
    by false t =
        let z : l.report.logged ≡ 0 =
        ap (λ (o : CountedOutcome). o.outcome.report.logged) l.ensures ∙ none_written settings list start budget l.log l.labels l.memory l.counts t in
        absurd (omega (arith, h, z))

-- with W = 0
same_left : {settings : Settings} {list : List ℕ} {start budget : ℕ} (s : SpeculativeCall settings list start budget 0) (l : LabelledCall settings list start budget)
    → LentAlike s l → LongEnough l.memory l.counts → speculative_left s ≡ record { outcome = left l; journal = s.journal }
same_left s l a t = left_of s l a t ∙ rw (left-run l t) (against_labelled.no_window _ _ _ _ l.log s.journal l.labels l.memory)

pub speculative_calls_against_labelled : SpeculativeCallsAgainstLabelled
unfolding window_mark
speculative_calls_against_labelled = record {
  aside = λ s l a t w j x y.
      let e = left_of s l a t in
      let ending : Speculation → ℕ = λ o. o.outcome.report.ending in
      subst (λ (o : Speculation). MarkedAside o.outcome (left l)) (sym e)
      (subst (MarkedAside _) (sym (left-run l t))
      (against_labelled.aside _ _ _ _ _ l.log s.journal l.labels l.memory w j (λ z. x (ap ending e ∙ z)) (λ z. y (ap ending e ∙ z))));
  counts = λ {settings} {list} {start} {budget} {window} s l a t v w j x y.
      let e = counted_left_of s l a in
      let ending : CountedSpeculation → ℕ = λ o. o.speculation.outcome.report.ending in
      ap (λ (o : CountedSpeculation). o.counts) e
      ∙ (counts_of_speculative_runs settings list start budget window l.log s.journal l.labels l.memory l.counts).aside v t w j
      (λ z. x (ap ending e ∙ z)) (λ z. y (ap ending e ∙ z))
      ∙ sym (ap (λ (o : CountedOutcome). o.counts) l.ensures);
  below = left_below;
  no_window = same_left;
  no_window_counts = λ s l a t v.
      let same : s.labels' ≡ l.labels' = ap (λ (o : Speculation). o.outcome.labels) (same_left s l a t) in
      told l.labels l.labels' l.counts (speculative_words s (rw a.counts v)) (left-words l v) (rw (a.labels, a.counts, same) at (speculative_counts s).turned) (left_counts l).turned;
}

-- ---- counts of secret bytes

pub calls_count : CallsCount
unfolding count_secrets
calls_count = record {
  labelled = left_counts;
  speculative = speculative_counts;
  filled = λ c z. rw (ap (λ (o : Counting). o.counts) c.ensures) ((filling c.labels c.counts).true_counts (ap (λ (o : Counting). o.report.ending) (sym c.ensures) ∙ z));
  zeros = λ c z.
      ap (λ (o : Counting). o.report) c.ensures ∙ (filling c.labels c.counts).report (ap (λ (o : Counting). o.report.ending) (sym c.ensures) ∙ z);
  refused = λ c n.
      let ending = ap (λ (o : Counting). o.report.ending) c.ensures in
      ap (λ (o : Counting). o.counts) c.ensures ∙ rw (ne_eqb _ 0 (λ z. n (ending ∙ z))) refl;
  further = λ c space j l h k. rw (ap (λ (o : Counting). o.counts) c.ensures) ((filling c.labels c.counts).further space j l h k);
}
