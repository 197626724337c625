-- What the code plans for an operation before anything is written, in the words of the machine's exact conditions; a is the value of
-- input0 and b the number that input1 stands for.
use Rattle.std.specs.Prelude.{◌≡◌, ℕ, ◌<◌, ◌≤◌, true, false, cond, not, length, Option, Some, None, ◌==◌, ◌≢◌, nat_eq}
use Rattle.arithmetic.specs.Operands.{divides, Operands}
use Rattle.operation.specs.declared.layout.Settings.{Settings}
use Rattle.operation.specs.declared.report.Ending.{Ending}
use Rattle.operation.specs.declared.report.Ending.TheVariants.{Exit, Bounds, Zero}
use Rattle.operation.specs.Rules.{accesses, branches, jumps}
use Rattle.validation.specs.Verdict.{most_bytes}
use Rattle.machine.specs.Program.{Program}
use Rattle.machine.specs.Memory.{Memory, space_of}
use Rattle.operation.specs.Layout.{wordsize_of, absent}
use Rattle.machine.specs.Effect.{Operation}
use Rattle.machine.specs.Conditions.{out_of_bounds, divides_by_zero, writes_log, low_part, exits, destination, next_index, destination_bytes, value_computed, value_moved, value_written}
use Rattle.run_memory.specs.Placed.{Placed}
use Rattle.run_plan.specs.declared.Plan.{Plan}
use Rattle.run_plan.specs.declared.Class.{Class}
use Rattle.run_plan.specs.declared.Class.TheVariants.{Access, Branch, Data}

-- What ends the run before the operation counts; EXIT ends it after.
abbrev pub failure : Option Ending → Option Ending
failure None = None
failure (Some Exit) = None
failure (Some why) = Some why

-- A plan that writes nothing.
unfoldable pub control : (stop : Option Ending) → (next : ℕ) → (log : Option ℕ) → (value : ℕ) → Plan
control stop next log value = record { stop = stop; next = next; log = log; target = absent; value = value }

-- A stop by BOUNDS or ZERO.
abbrev pub stop_plan : Ending → (i : ℕ) → Plan
stop_plan ending i = control (Some ending) i None 0

-- The low part of the log word that is due.
unfoldable pub log_due : Operation → (b : ℕ) → Option ℕ
log_due op b = cond (writes_log op) (Some (low_part op b)) None

-- EXIT.
unfoldable pub exit_plan : Operation → (i a b : ℕ) → Plan
exit_plan op i a b = control (Some Exit) i (log_due op b) (destination op a)

-- Going on, after this value is written.
unfoldable pub next_plan : Operation → (i b value : ℕ) → Plan
next_plan op i b value =
    record { stop = None; next = next_index op i b; log = log_due op b; target = destination_bytes op b; value = value }

-- BOUNDS; ZERO; EXIT; or going on. LEAK comes before the plan, and LOG after it.
unfoldable pub planned : Program → Memory → Operation → (i a b : ℕ) → Plan
planned program m op i a b =
    cond (out_of_bounds m op b) (stop_plan Bounds i)
    (cond (divides_by_zero op b) (stop_plan Zero i)
    (cond (exits op b) (exit_plan op i a b) (next_plan op i b (value_written program m op a b))))

-- ---- the same by opcode: LOAD and STORE; BRANCH, CBRANCH and CALL; all others

-- Which of the three.
abbrev pub class_of : (opcode : ℕ) → Class
class_of opcode = cond (accesses opcode) Access (cond (branches opcode) Branch Data)

-- LOAD and STORE.
unfoldable pub move_plan : Program → Memory → Operation → (i b : ℕ) → Plan
move_plan program m op i b = cond (out_of_bounds m op b) (stop_plan Bounds i) (next_plan op i b (value_moved program m op b))

-- BRANCH, CBRANCH and CALL.
unfoldable pub branch_plan : Operation → (i b : ℕ) → Plan
branch_plan op i b = cond (exits op b) (exit_plan op i 0 b) (next_plan op i b 0)

-- All others.
unfoldable pub data_plan : Operation → (i a b : ℕ) → Plan
data_plan op i a b =
    cond (divides_by_zero op b) (stop_plan Zero i) (cond (exits op b) (exit_plan op i a b) (next_plan op i b (value_computed op a b)))

-- ---- what the code relies on, by the rules of well-formed operations

-- LOAD and STORE name a space with bytes, move at most 8 bytes, and may read what is stored.
pub record Movable (m : Memory) (op : Operation) : Type 0 where
  pub opcode : accesses op.opcode ≡ true
  pub space : (2 ≤ op.input0.offset) × (op.input0.offset ≤ 4)
  pub loaded : op.output.size ≤ 8
  pub stored : Placed m op.input2

-- The space that LOAD and STORE name has a wordsize of 1 to 8 and at most 65,536 bytes, so that its length can be multiplied; they move at
-- least one byte, so that nothing is moved at its end.
pub record Addressable (settings : Settings) (m : Memory) (op : Operation) : Type 0 where
  pub wordsize : (1 ≤ wordsize_of settings.wordsizes op.input0.offset) × (wordsize_of settings.wordsizes op.input0.offset ≤ 8)
  pub extent : length (space_of m op.input0.offset) ≤ most_bytes
  pub some : 1 ≤ (cond (op.opcode == 2) op.output op.input2).size

-- A branch goes to space 1 or 4, and has no output.
pub record Branching (op : Operation) : Type 0 where
  pub opcode : branches op.opcode ≡ true
  pub relative : nat_eq op.input0.space 1 ≡ not (op.input0.space == 4)
  pub no_output : op.output ≡ absent

-- An opcode that is no access and no branch. The arithmetic may be asked for the value of an operation other than COPY and the exits,
-- with a divisor that is not 0.
pub record Computable (op : Operation) (a b : ℕ) : Type 0 where
  pub known : 1 ≤ op.opcode
  pub no_access : accesses op.opcode ≡ false
  pub no_branch : branches op.opcode ≡ false
  pub operands : jumps op.opcode ≡ false → (op.opcode ≢ 1) → (divides op.opcode ≡ true → 0 < b)
      → Operands op.opcode op.output.size op.input0.size op.input1.size a b
