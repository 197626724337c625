-- A C call that answers 0 is the interpreter's call; noninterference, resuming and the laws of counts follow.
use Prim.Native.Nat.{ℕ, ◌≤◌}
use mathlib.Core.List.{List, [], ◌∷◌}
use mathlib.Core.Path.{◌≡◌, refl, ap, sym, ◌∙◌}
use native.Mathlib.Omega.{arith}
use borrow.Author.Tests.{eq-eqb}
use lib.ListN.{length, drop}
use lib.Seq.{sets}
use Rattle.operation.specs.Numbers.{report_numbers}
use Rattle.operation.specs.declared.report.Report.{Report}
use Rattle.machine.specs.Calls.{Outcome, labelled_outcome, plain_run}
use Rattle.machine.specs.Counts.{CountedOutcome, counted_run, Counting, counting, count_secrets}
use Rattle.speculation.specs.Counts.{CountedSpeculation, counted_speculative_run}
use Rattle.interpreter.specs.Composition.{LabelledCall, PlainCall, SpeculativeCall, CountingCall, LentAlike}
use Rattle.interpreter.proofs.Composition.{calls_noninterfere, labelled_calls_resume, plain_calls_resume}
use Rattle.interpreter.proofs.Composition.{speculative_calls_noninterfere, speculative_calls_resume, speculative_calls_against_labelled, calls_count}
use Rattle.undrelvoa_faults.proofs.Passed.{lengths_passed, report_passed}
use Rattle.undrelvoa.specs.Buffers.{report_words, settings_in, Buffers, plain_buffers, after, LabelledBuffers, labelled_buffers, after_labelled}
use Rattle.undrelvoa.specs.Buffers.{SpeculativeBuffers, speculative_buffers, after_speculation, CountingBuffers, counting_buffers, after_counting}
use Rattle.undrelvoa.specs.Calls.{PlainCallC, LabelledCallC, SpeculativeCallC, CountingCallC, report_in, ThroughInterpreter, NoninterferenceC, LabelledResumesC, PlainResumesC}
use Rattle.undrelvoa.specs.Calls.{SpeculativeNoninterferenceC, SpeculativeResumesC, LentAlikeC, SpeculativeAgainstLabelledC, CallsCountC}

-- a report read from the words it was written to
read_back : (ws : List ℕ) (r : Report) → report_numbers ≤ length ws → report_in (sets ws 0 (report_words r)) ≡ r
unfolding report_words
read_back [] r h = absurd (omega arith)
read_back (a ∷ []) r h = absurd (omega arith)
read_back (a ∷ b ∷ []) r h = absurd (omega arith)
read_back (a ∷ b ∷ c ∷ []) r h = absurd (omega arith)
read_back (a ∷ b ∷ c ∷ d ∷ []) r h = absurd (omega arith)
read_back (a ∷ b ∷ c ∷ d ∷ e ∷ ws) r h = refl

-- the words behind it
behind : (ws : List ℕ) (r : Report) → report_numbers ≤ length ws → drop report_numbers (sets ws 0 (report_words r)) ≡ drop report_numbers ws
unfolding report_words
behind [] r h = absurd (omega arith)
behind (a ∷ []) r h = absurd (omega arith)
behind (a ∷ b ∷ []) r h = absurd (omega arith)
behind (a ∷ b ∷ c ∷ []) r h = absurd (omega arith)
behind (a ∷ b ∷ c ∷ d ∷ []) r h = absurd (omega arith)
behind (a ∷ b ∷ c ∷ d ∷ e ∷ ws) r h = refl

module _ {settings list : List ℕ} {start budget : ℕ} where
  -- what a call leaves
  plain_leaves : (c : PlainCallC settings list start budget)
      → plain_buffers c.memory' c.log' c.report' ≡ after c.report (plain_run (settings_in settings) list start budget c.log c.memory)
  plain_leaves c = c.leaves ∙ rw (eq-eqb c.answer 0 c.accepted) refl

  labelled_leaves : (c : LabelledCallC settings list start budget)
      → labelled_buffers c.memory' c.labels' c.counts' c.log' c.report'
      ≡ after_labelled c.report (counted_run (settings_in settings) list start budget c.log c.labels c.memory c.counts)
  labelled_leaves c = c.leaves ∙ rw (eq-eqb c.answer 0 c.accepted) refl

  -- its report fits
  plain_fits : (c : PlainCallC settings list start budget) → report_numbers ≤ length c.report
  plain_fits c = (lengths_passed (length settings) (length c.report) (sym c.answers ∙ c.accepted)).1

  labelled_fits : (c : LabelledCallC settings list start budget) → report_numbers ≤ length c.report
  labelled_fits c = (lengths_passed (length settings) (length c.report) (sym c.answers ∙ c.accepted)).1

module _ {settings list : List ℕ} {start budget window : ℕ} where
  speculative_leaves : (c : SpeculativeCallC settings list start budget window)
      → speculative_buffers c.memory' c.labels' c.counts' c.log' c.journal' c.report'
      ≡ after_speculation c.report (counted_speculative_run (settings_in settings) list start budget window c.log c.journal c.labels c.memory c.counts)
  speculative_leaves c = c.leaves ∙ rw (eq-eqb c.answer 0 c.accepted) refl

  speculative_fits : (c : SpeculativeCallC settings list start budget window) → report_numbers ≤ length c.report
  speculative_fits c = (lengths_passed (length settings) (length c.report) (sym c.answers ∙ c.accepted)).1

counting_leaves : (c : CountingCallC) → counting_buffers c.counts' c.report' ≡ after_counting c.report (count_secrets c.labels c.counts)
counting_leaves c = c.leaves ∙ rw (eq-eqb c.answer 0 c.accepted) refl

counting_fits : (c : CountingCallC) → report_numbers ≤ length c.report
counting_fits c = report_passed (length c.report) (sym c.answers ∙ c.accepted)

-- the outcome that the buffers hold
outcome_in : Buffers → Outcome
outcome_in b = record { report = report_in b.report; memory = b.memory; labels = b.labels; log = b.log }

held : (report : List ℕ) (o : Outcome) → report_numbers ≤ length report → outcome_in (after report o) ≡ o
unfolding after outcome_in
held report o h = ap (λ (r : Report). labelled_outcome r o.memory o.labels o.log) (read_back report o.report h)

labelled_in : LabelledBuffers → CountedOutcome
labelled_in b = record { outcome = outcome_in b.buffers; counts = b.counts }

held_labelled : (report : List ℕ) (o : CountedOutcome) → report_numbers ≤ length report → labelled_in (after_labelled report o) ≡ o
unfolding after_labelled labelled_in
held_labelled report o h = ap (λ (x : Outcome). record { outcome = x; counts = o.counts }) (held report o.outcome h)

speculation_in : SpeculativeBuffers → CountedSpeculation
speculation_in b = record { speculation = record { outcome = outcome_in b.buffers.buffers; journal = b.journal }; counts = b.buffers.counts }

held_speculation : (report : List ℕ) (s : CountedSpeculation) → report_numbers ≤ length report → speculation_in (after_speculation report s) ≡ s
unfolding after_speculation speculation_in
held_speculation report s h =
    ap (λ (x : Outcome). record { speculation = record { outcome = x; journal = s.speculation.journal }; counts = s.counts }) (held report s.speculation.outcome h)

counting_in : CountingBuffers → Counting
counting_in b = counting (report_in b.report) b.counts

held_counting : (report : List ℕ) (o : Counting) → report_numbers ≤ length report → counting_in (after_counting report o) ≡ o
unfolding after_counting counting_in
held_counting report o h = ap (λ (r : Report). counting r o.counts) (read_back report o.report h)

pub through_interpreter : ThroughInterpreter
unfolding after outcome_in after_labelled labelled_in after_speculation speculation_in after_counting counting_in
through_interpreter = record {
  plain = λ c. ap outcome_in (plain_leaves c) ∙ held c.report _ (plain_fits c);
  labelled = λ c. ap labelled_in (labelled_leaves c) ∙ held_labelled c.report _ (labelled_fits c);
  speculative = λ c. ap speculation_in (speculative_leaves c) ∙ held_speculation c.report _ (speculative_fits c);
  counting = λ c. ap counting_in (counting_leaves c) ∙ held_counting c.report _ (counting_fits c);
  plain_lent = λ c. ap (λ (b : Buffers). drop report_numbers b.report) (plain_leaves c) ∙ behind c.report _ (plain_fits c);
  labelled_lent = λ c. ap (λ (b : LabelledBuffers). drop report_numbers b.buffers.report) (labelled_leaves c) ∙ behind c.report _ (labelled_fits c);
  speculative_lent = λ c.
      ap (λ (b : SpeculativeBuffers). drop report_numbers b.buffers.buffers.report) (speculative_leaves c) ∙ behind c.report _ (speculative_fits c);
  counting_lent = λ c. ap (λ (b : CountingBuffers). drop report_numbers b.report) (counting_leaves c) ∙ behind c.report _ (counting_fits c);
}

-- the interpreter's call
module _ {settings list : List ℕ} {start budget : ℕ} where
  plain : PlainCallC settings list start budget → PlainCall (settings_in settings) list start budget
  plain c = record { memory = c.memory; log = c.log; memory' = c.memory'; log' = c.log'; report = report_in c.report'; ensures = through_interpreter.plain c }

  labelled : LabelledCallC settings list start budget → LabelledCall (settings_in settings) list start budget
  labelled c = record {
    memory = c.memory;
    labels = c.labels;
    counts = c.counts;
    log = c.log;
    memory' = c.memory';
    labels' = c.labels';
    counts' = c.counts';
    log' = c.log';
    report = report_in c.report';
    ensures = through_interpreter.labelled c;
  }

speculative : {settings list : List ℕ} {start budget window : ℕ} → SpeculativeCallC settings list start budget window
    → SpeculativeCall (settings_in settings) list start budget window
speculative c = record {
  memory = c.memory;
  labels = c.labels;
  counts = c.counts;
  log = c.log;
  journal = c.journal;
  memory' = c.memory';
  labels' = c.labels';
  counts' = c.counts';
  log' = c.log';
  journal' = c.journal';
  report = report_in c.report';
  ensures = through_interpreter.speculative c;
}

counts : CountingCallC → CountingCall
counts c = record { labels = c.labels; counts = c.counts; counts' = c.counts'; report = report_in c.report'; ensures = through_interpreter.counting c }

lent_alike : {settings list : List ℕ} {start budget window : ℕ} {s : SpeculativeCallC settings list start budget window} {l : LabelledCallC settings list start budget}
    → LentAlikeC s l → LentAlike (speculative s) (labelled l)
unfolding speculative labelled
lent_alike a = record { memory = a.memory; labels = a.labels; counts = a.counts; log = a.log }

pub noninterference_c : NoninterferenceC
unfolding plain labelled
noninterference_c settings list start budget first second first_plain second_plain el em eg fm fg sm sg fc sc =
    let n = calls_noninterfere (record {
      settings = _;
      list = _;
      start = _;
      budget = _;
      first = labelled first;
      second = labelled second;
      first_plain = plain first_plain;
      second_plain = plain second_plain;
      labels = el;
      memories = em;
      logs = eg;
      first_counts = fc;
      second_counts = sc;
      first_memory = fm;
      first_log = fg;
      second_memory = sm;
      second_log = sg;
    }) in
    (n.runs, n.first_plain, n.second_plain, n.same_counts)

pub labelled_resumes_c : LabelledResumesC
unfolding labelled
labelled_resumes_c settings list start budget further first second whole = labelled_calls_resume _ _ _ _ _ (labelled first) (labelled second) (labelled whole)

pub plain_resumes_c : PlainResumesC
unfolding plain
plain_resumes_c settings list start budget further first second whole = plain_calls_resume _ _ _ _ _ (plain first) (plain second) (plain whole)

pub speculative_noninterference_c : SpeculativeNoninterferenceC
unfolding speculative
speculative_noninterference_c settings list start budget window first second =
    speculative_calls_noninterfere _ _ _ _ _ (speculative first) (speculative second)

pub speculative_resumes_c : SpeculativeResumesC
unfolding speculative
speculative_resumes_c settings list start budget further window first second whole =
    speculative_calls_resume _ _ _ _ _ _ (speculative first) (speculative second) (speculative whole)

pub speculative_against_labelled_c : SpeculativeAgainstLabelledC
unfolding speculative labelled
speculative_against_labelled_c = record {
  aside = λ s l a. speculative_calls_against_labelled.aside (speculative s) (labelled l) (lent_alike a);
  counts = λ s l a. speculative_calls_against_labelled.counts (speculative s) (labelled l) (lent_alike a);
  below = λ l. speculative_calls_against_labelled.below (labelled l);
  no_window = λ s l a. speculative_calls_against_labelled.no_window (speculative s) (labelled l) (lent_alike a);
  no_window_counts = λ s l a. speculative_calls_against_labelled.no_window_counts (speculative s) (labelled l) (lent_alike a);
}

pub calls_count_c : CallsCountC
unfolding labelled speculative counts
calls_count_c = record {
  labelled = λ c. calls_count.labelled (labelled c);
  speculative = λ c. calls_count.speculative (speculative c);
  filled = λ c. calls_count.filled (counts c);
  zeros = λ c. calls_count.zeros (counts c);
  refused = λ c. calls_count.refused (counts c);
  further = λ c. calls_count.further (counts c);
}
