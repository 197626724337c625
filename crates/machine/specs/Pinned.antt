-- What a call answers, field by field: an accepted call what its run did, a refused one its refusal.
use Rattle.std.specs.Prelude.{ℕ, ◌≤◌, ◌<◌, Bool, true, List, [], ◌∷◌, ◌≡◌, length, get_or}
use Rattle.arithmetic.specs.Opcodes.{member}
use Rattle.operation.specs.declared.layout.Settings.{Settings}
use Rattle.operation.specs.Spaces.{Lengths}
use Rattle.operation.specs.declared.report.Report.{Report}
use Rattle.machine.specs.Program.{program_of}
use Rattle.machine.specs.Memory.{Memory, lengths_of}
use Rattle.machine.specs.Run.{Ended, run}
use Rattle.machine.specs.Calls.{Outcome, unlabelled, plain_outcome, labelled_outcome, same_lengths, labels_in_range, refusal, starting, labelled_run, plain_run}

-- The refusal of a labelled run, told here again: so the labels that a run looks at are part of what is stated.
abbrev pub labelled_refusal_of : Settings → (list : List ℕ) → (start : ℕ) → (labels memory : Memory) → Report
labelled_refusal_of settings list start labels m =
    refusal settings (lengths_of m) list start (same_lengths (lengths_of labels) (lengths_of m)) (labels_in_range labels)

-- The refusal of a plain run.
abbrev pub plain_refusal_of : Settings → (list : List ℕ) → (start : ℕ) → (memory : Memory) → Report
plain_refusal_of settings list start m = refusal settings (lengths_of m) list start true true

-- What an accepted call leaves of its run: each number of the report, the buffers, and the log word by word.
pub record Answers (log : List ℕ) (r : Ended) (o : Outcome) : Type 0 where
  pub ending : o.report.ending ≡ r.ending
  pub index : o.report.index ≡ r.position.index
  pub executed : o.report.executed ≡ r.position.executed
  pub logged : o.report.logged ≡ length r.position.log
  pub value : o.report.value ≡ r.value
  pub memory : o.memory ≡ r.memory
  pub labels : o.labels ≡ r.labels
  pub words : (k : ℕ) → k < length r.position.log → get_or o.log k 0 ≡ get_or r.position.log k 0
  pub lent : (k : ℕ) → length r.position.log ≤ k → get_or o.log k 0 ≡ get_or log k 0

-- All of these, of both runs.
pub record Pinned : Type 0 where
  pub labelled_accepted : (settings : Settings) (list : List ℕ) (start budget : ℕ) (log : List ℕ) (labels m : Memory)
      → (labelled_refusal_of settings list start labels m).ending ≡ 0
      → Answers log (run (program_of settings list) budget (starting start (length log)) labels m) (labelled_run settings list start budget log labels m)
  pub plain_accepted : (settings : Settings) (list : List ℕ) (start budget : ℕ) (log : List ℕ) (m : Memory)
      → (plain_refusal_of settings list start m).ending ≡ 0
      → Answers log (run (program_of settings list) budget (starting start (length log)) unlabelled m) (plain_run settings list start budget log m)
  -- A refused call answers its refusal and leaves all as lent.
  pub labelled_refused : (settings : Settings) (list : List ℕ) (start budget : ℕ) (log : List ℕ) (labels m : Memory)
      → ((labelled_refusal_of settings list start labels m).ending ≡ 0 → ⊥)
      → labelled_run settings list start budget log labels m ≡ labelled_outcome (labelled_refusal_of settings list start labels m) m labels log
  pub plain_refused : (settings : Settings) (list : List ℕ) (start budget : ℕ) (log : List ℕ) (m : Memory)
      → ((plain_refusal_of settings list start m).ending ≡ 0 → ⊥)
      → plain_run settings list start budget log m ≡ plain_outcome (plain_refusal_of settings list start m) m log
  -- The index is 0 with 10, 11, 12 and 27.
  pub no_index : (settings : Settings) (lengths : Lengths) (list : List ℕ) (start : ℕ) (fitting valid : Bool)
      → member (refusal settings lengths list start fitting valid).ending (10 ∷ 11 ∷ 12 ∷ 27 ∷ []) ≡ true
      → (refusal settings lengths list start fitting valid).index ≡ 0
  -- A plain run never ends with 31 LEAK or 12 LABEL.
  pub never_leaks : (settings : Settings) (list : List ℕ) (start budget : ℕ) (log : List ℕ) (m : Memory)
      → ((plain_run settings list start budget log m).report.ending ≡ 31 → ⊥) × ((plain_run settings list start budget log m).report.ending ≡ 12 → ⊥)
