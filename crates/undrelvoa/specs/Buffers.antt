-- Reports and buffers of the C interface.
use Rattle.std.specs.Prelude.{ℕ, List, [], ◌∷◌, get_or}
use Rattle.std.proofs.lemmas.List.Edits.{sets}
use Rattle.operation.specs.declared.layout.Settings.{Settings}
use Rattle.operation.specs.declared.report.Report.{Report}
use Rattle.machine.specs.Memory.{Memory}
use Rattle.machine.specs.Calls.{Outcome, unlabelled}
use Rattle.machine.specs.Counts.{CountedOutcome, Counting}
use Rattle.speculation.specs.Counts.{CountedSpeculation}

-- A report in its words: ending, index, operations executed, log words written, value.
unfoldable pub report_words : Report → List ℕ
report_words r = r.ending ∷ r.index ∷ r.executed ∷ r.logged ∷ r.value ∷ []

-- The settings in the words of a call.
unfoldable pub settings_in : List ℕ → Settings
settings_in ws =
    record {
      order = get_or ws 0 0;
      address_size = get_or ws 1 0;
      wordsizes = record { unique = get_or ws 2 0; register = get_or ws 3 0; ram = get_or ws 4 0 };
    }

-- The buffers lent to a run, counts aside.
pub record Buffers : Type 0 where
  pub memory : Memory
  pub labels : Memory
  pub log : List ℕ
  pub report : List ℕ

-- Of a run without labels.
abbrev pub plain_buffers : Memory → (log report : List ℕ) → Buffers
plain_buffers m log report = record { memory = m; labels = unlabelled; log = log; report = report }

-- What a run leaves in them, with the words of its report at the start of the report's buffer.
unfoldable pub after : (report : List ℕ) → Outcome → Buffers
after report outcome =
    record {
      memory = outcome.memory;
      labels = outcome.labels;
      log = outcome.log;
      report = sets report 0 (report_words outcome.report);
    }

-- The buffers lent to a labelled run.
pub record LabelledBuffers : Type 0 where
  pub buffers : Buffers
  pub counts : Memory

abbrev pub labelled_buffers : (memory labels counts : Memory) → (log report : List ℕ) → LabelledBuffers
labelled_buffers m labels counts log report = record { buffers = record { memory = m; labels = labels; log = log; report = report }; counts = counts }

-- What a labelled run leaves in them.
unfoldable pub after_labelled : (report : List ℕ) → CountedOutcome → LabelledBuffers
after_labelled report o = record { buffers = after report o.outcome; counts = o.counts }

-- The buffers lent to a speculative run.
pub record SpeculativeBuffers : Type 0 where
  pub buffers : LabelledBuffers
  pub journal : List ℕ

abbrev pub speculative_buffers : (memory labels counts : Memory) → (log journal report : List ℕ) → SpeculativeBuffers
speculative_buffers m labels counts log journal report = record { buffers = labelled_buffers m labels counts log report; journal = journal }

-- What a speculative run leaves in them.
unfoldable pub after_speculation : (report : List ℕ) → CountedSpeculation → SpeculativeBuffers
after_speculation report s = record { buffers = record { buffers = after report s.speculation.outcome; counts = s.counts }; journal = s.speculation.journal }

-- The buffers lent to be filled.
pub record CountingBuffers : Type 0 where
  pub counts : Memory
  pub report : List ℕ

abbrev pub counting_buffers : (counts : Memory) → (report : List ℕ) → CountingBuffers
counting_buffers counts report = record { counts = counts; report = report }

-- What filling leaves in them.
unfoldable pub after_counting : (report : List ℕ) → Counting → CountingBuffers
after_counting report c = counting_buffers c.counts (sets report 0 (report_words c.report))
