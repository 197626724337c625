-- The turns of a run, and what the code relies on in them.
use Rattle.std.specs.Prelude.{ℕ, ◌%◌, ◌^◌, ◌<◌, Bool, true, false, cond, not, ◌&&◌, List, ◌≡◌, eqb, ltb, length, get_or}
use Rattle.operation.specs.Layout.{operation_count, opcode_at}
use Rattle.operation.specs.Rules.{accesses}
use Rattle.machine.specs.Memory.{Memory, lengths_of}
use Rattle.machine.specs.Effect.{Operation, operation_at}
use Rattle.machine.specs.Calls.{unlabelled}
use Rattle.machine.specs.Counts.{counts_fit}
use Rattle.machine.specs.Conditions.{destination_bytes}
use Rattle.run_memory.specs.Placed.{Placed}
use Rattle.run_plan.specs.Valid.{Valid}
use Rattle.run_taint.specs.Taint.{Readable}

-- A labelled run has a label for each byte, a plain run none.
pub record Fitting (labelled : Bool) (labels m : Memory) : Type 0 where
  pub lengths : labelled ≡ true → lengths_of labels ≡ lengths_of m
  pub none : labelled ≡ false → labels ≡ unlabelled

-- A labelled run has counts that are long enough.
abbrev pub Countable : (labelled : Bool) (labels counts : Memory) → Type 0
Countable labelled labels counts = labelled ≡ true → counts_fit (lengths_of labels) (lengths_of counts) ≡ true

-- The budget of a turn: one operation of a labelled run, all of a plain one.
unfoldable pub turn_of : (labelled : Bool) → (budget : ℕ) → ℕ
turn_of labelled budget = cond (labelled && ltb 0 budget) 1 budget

-- A labelled operation was executed and did not exit.
unfoldable pub completes : (labelled : Bool) → (executed ending : ℕ) → Bool
completes labelled executed ending = labelled && (not (eqb executed 0) && not (eqb ending 1))

-- The byte offset of LOAD and STORE, by the log word at k; 0 for all others.
unfoldable pub offset_logged : Operation → (log : List ℕ) → (k : ℕ) → ℕ
offset_logged op log k = cond (accesses op.opcode) (get_or log k 0 % 2 ^ 32) 0

-- An operation that went on, and wrote its log word, if one was due, at k. Labels are read only where something is written to.
pub record Markable (labels : Memory) (list log : List ℕ) (i k : ℕ) : Type 0 where
  pub valid : Valid (lengths_of labels) list
  pub index : i < operation_count list
  pub logged : accesses (opcode_at list i) ≡ true → k < length log
  pub placed : Placed labels (destination_bytes (operation_at list i) (offset_logged (operation_at list i) log k))
  pub readable : ((destination_bytes (operation_at list i) (offset_logged (operation_at list i) log k)).space ≡ 0 → ⊥)
      → Readable labels list i (offset_logged (operation_at list i) log k)
