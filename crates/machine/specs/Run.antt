-- One operation, with its log word and its ending, and the run of a list with a budget.
use Rattle.std.specs.Prelude.{ℕ, zero, suc, ◌+◌, ◌*◌, ◌-◌, ◌^◌, Bool, cond, List, [], ◌∷◌, ◌++◌, eqb, ltb, leb, ℤ, pos, negsuc, length}
use Rattle.operation.specs.declared.layout.Varnode.{Varnode}
use Rattle.operation.specs.Layout.{operation_count}
use Rattle.operation.specs.Rules.{relative_target}
use Rattle.machine.specs.Program.{Program}
use Rattle.machine.specs.Memory.{Memory, space_of, value_at, written}
use Rattle.machine.specs.Effect.{Operation, operation_at, Kind, kind_of, sinks, tested, resolved, sources, target, bytes_written, secret, labels_written}

-- ---- what is decided before anything is written

-- Why an operation stops the run before it is executed.
pub data Stop : Type 0 where
  leak bounds zero_divisor log_full : Stop

-- The ending that the report gives for it.
unfoldable pub ending_of : Stop → ℕ
ending_of leak = 31
ending_of bounds = 32
ending_of zero_divisor = 33
ending_of log_full = 34

-- A stop; or the operation is executed, with the log words that it writes, and the run goes on at an index or exits with a destination.
pub data Decision : Type 0 where
  stop : Stop → Decision
  next : (words : List ℕ) (index : ℕ) → Decision
  exit : (words : List ℕ) (destination : ℕ) → Decision

-- A log word: index × 2^32 plus a number.
unfoldable pub log_word : (i low : ℕ) → ℕ
log_word i low = i * 2 ^ 32 + low

-- LOG: a word is due and no room is left.
unfoldable pub logging : (room word : ℕ) → (List ℕ → Decision) → Decision
logging room word d = cond (eqb room 0) (stop log_full) (d (word ∷ []))

-- A number of the integers that is an index; a number below 0 is none.
unfoldable pub index_of : ℤ → ℕ
index_of (pos n) = n
index_of (negsuc n) = 0

-- A branch from index i to a destination: a constant is relative to i, any other exits with its offset.
unfoldable pub go_to : (i : ℕ) → Varnode → List ℕ → Decision
go_to i v words = cond (eqb v.space 1) (next words (index_of (relative_target i v.offset))) (exit words v.offset)

-- LOAD or STORE of `size` bytes at a byte offset of a space of `extent` bytes. BOUNDS: offset + size beyond the space, summed without
-- wrapping.
unfoldable pub access : (i extent room offset size : ℕ) → Decision
access i extent room offset size =
    cond (leb (offset + size) extent) (logging room (log_word i offset) (λ words. next words (suc i))) (stop bounds)

-- BOUNDS, then ZERO divisor, then LOG, for an operation at index i; `value` is what the varnode tested stands for.
unfoldable pub checked : Kind → Operation → (i extent room value : ℕ) → Decision
checked Kind.copy op i extent room value = next [] (suc i)
checked Kind.load op i extent room value = access i extent room value op.output.size
checked Kind.store op i extent room value = access i extent room value op.input2.size
checked Kind.branch op i extent room value = go_to i op.input0 []
checked Kind.cbranch op i extent room value =
    cond (eqb value 0) (logging room (log_word i 0) (λ words. next words (suc i))) (logging room (log_word i 1) (go_to i op.input0))
checked Kind.jump op i extent room value = exit [] value
checked Kind.piece op i extent room value = next [] (suc i)
checked Kind.subpiece op i extent room value = next [] (suc i)
checked Kind.divide op i extent room value = cond (eqb value 0) (stop zero_divisor) (next [] (suc i))
checked Kind.compute op i extent room value = next [] (suc i)

-- LEAK comes before all that depends on the value tested.
unfoldable pub decided : (leaks : Bool) → Kind → Operation → (i extent room value : ℕ) → Decision
decided leaks k op i extent room value = cond leaks (stop leak) (checked k op i extent room value)

-- ---- one operation

-- Where a run stands: the next operation, the log words free, the operations executed, the log words written.
pub record Position : Type 0 where
  pub index : ℕ
  pub room : ℕ
  pub executed : ℕ
  pub log : List ℕ

-- How a run ended.
pub record Ended : Type 0 where
  pub ending : ℕ
  pub value : ℕ
  pub position : Position
  pub labels : Memory
  pub memory : Memory

-- After one operation a run has ended, or goes on.
pub data Stepped : Type 0 where
  halted : Ended → Stepped
  going : Position → (labels memory : Memory) → Stepped

-- An operation executed: it is counted, and its log words are written.
unfoldable pub advanced : Position → (index : ℕ) → (words : List ℕ) → Position
advanced at i words =
    record { index = i; room = at.room - length words; executed = suc at.executed; log = at.log ++ words }

-- An ending with its value.
unfoldable pub ended : (ending value : ℕ) → Position → (labels memory : Memory) → Ended
ended e v at labels m = record { ending = e; value = v; position = at; labels = labels; memory = m }

-- What the varnode tested stands for; 0 where nothing is tested.
unfoldable pub resolved_value : Program → Kind → Operation → Memory → ℕ
resolved_value program k op m = resolved program.settings k op (value_at program.settings m (tested k op))

-- A stopped operation writes nothing and isn't counted; an exiting operation is counted. All is read from the memory and the labels
-- before the operation. `value` is what the varnode tested stands for.
unfoldable pub apply_decision : Program → Kind → Operation → Position → (labels memory : Memory) → (value : ℕ) → Decision → Stepped
apply_decision program k op at labels m value (stop e) = halted (ended (ending_of e) 0 at labels m)
apply_decision program k op at labels m value (exit words d) = halted (ended 1 d (advanced at at.index words) labels m)
apply_decision program k op at labels m value (next words i) =
    going (advanced at i words)
    (written labels (target k op value) (labels_written program.settings op (target k op value).size (sources k op value) labels))
    (written m (target k op value) (bytes_written program.settings op (target k op value).size (sources k op value) m))

-- One operation of a kind: what must be public is looked at first.
unfoldable pub execute_as : Program → Kind → Operation → Position → (labels memory : Memory) → Stepped
execute_as program k op at labels m =
    apply_decision program k op at labels m (resolved_value program k op m)
    (decided (secret labels (sinks k op)) k op at.index (length (space_of m op.input0.offset)) at.room (resolved_value program k op m))

-- One operation.
unfoldable pub execute : Program → Operation → Position → (labels memory : Memory) → Stepped
execute program op at labels m = execute_as program (kind_of op.opcode) op at labels m

-- ---- the run

-- At n, END; else the operation.
unfoldable pub stepped : Program → Position → (labels memory : Memory) → Stepped
stepped program at labels m =
    cond (ltb at.index (operation_count program.list))
    (execute program (operation_at program.list at.index) at labels m)
    (halted (ended 0 0 at labels m))

-- What a run does after one operation.
unfoldable pub continued : (Position → Memory → Memory → Ended) → Stepped → Ended
continued f (halted r) = r
continued f (going at labels m) = f at labels m

-- A run with a budget, from a position: at n, END; count equals budget, BUDGET.
unfoldable pub run : Program → (budget : ℕ) → Position → (labels memory : Memory) → Ended
run program zero at labels m = ended (cond (ltb at.index (operation_count program.list)) 2 0) 0 at labels m
run program (suc budget) at labels m = continued (run program budget) (stepped program at labels m)
