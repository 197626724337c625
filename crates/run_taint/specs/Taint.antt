-- What the code relies on where it looks at the labels of an operation, and what it makes of them.
use Rattle.std.specs.Prelude.{ℕ, ◌^◌, ◌≤◌, ◌<◌, List, ◌≡◌, Bool, true, false, cond, eqb}
use Rattle.word.specs.Sum.{digit}
use Rattle.word.specs.Word.{bytes_of}
use Rattle.arithmetic.specs.Opcodes.{first_integer, member}
use Rattle.operation.specs.declared.layout.Varnode.{Varnode}
use Rattle.operation.specs.Layout.{operation_count, opcode_at, varnode_at}
use Rattle.operation.specs.Rules.{branches}
use Rattle.machine.specs.Memory.{Memory, lengths_of}
use Rattle.machine.specs.Effect.{Operation, operation_at, pointee}
use Rattle.machine.specs.Conditions.{destination_bytes, label_of, moving, label_moved, exact_labels}
use Rattle.run_memory.specs.Placed.{Placed}
use Rattle.run_plan.specs.Valid.{Valid}

-- An operation of a well-formed list that reads its inputs. A LOAD's bytes at its byte offset `offset` are within its space. No other
-- operation looks at `offset`.
pub record Readable (labels : Memory) (list : List ℕ) (i offset : ℕ) : Type 0 where
  pub valid : Valid (lengths_of labels) list
  pub index : i < operation_count list
  pub no_branch : branches (opcode_at list i) ≡ false
  pub loaded : eqb (opcode_at list i) 2 ≡ true → Placed labels (pointee (operation_at list i) offset (varnode_at list i 0).size)

-- A label word of what an operation writes to: in little order its bytes are the labels, as they lie in memory. What it has above them is
-- free: no more is stored.
abbrev pub LabelWord : (big : Bool) (labels : Memory) (op : Operation) (offset word : ℕ) → Type 0
LabelWord big labels op offset word =
    bytes_of false (destination_bytes op offset).size word ≡ exact_labels big labels op offset (destination_bytes op offset).size

-- What COPY, LOAD and STORE read.
unfoldable pub source_of : Operation → (offset : ℕ) → Varnode
source_of op offset = cond (eqb op.opcode 2) (pointee op offset op.output.size) (cond (eqb op.opcode 3) op.input2 op.input0)

-- An integer operation of a well-formed list that moves bytes: PIECE, SUBPIECE, INT_ZEXT or INT_SEXT.
pub record MovesBytes (labels : Memory) (list : List ℕ) (i : ℕ) : Type 0 where
  pub valid : Valid (lengths_of labels) list
  pub index : i < operation_count list
  pub integer : first_integer ≤ opcode_at list i
  pub moves : member (opcode_at list i) moving ≡ true

-- A number whose bytes, from the least significant on, are the labels of a varnode by significance; it has no more.
pub record WordOf (big : Bool) (labels : Memory) (v : Varnode) (word : ℕ) : Type 0 where
  pub bytes : (k : ℕ) → k < v.size → digit 256 word k ≡ label_of big labels v k
  pub below : word < 256 ^ v.size

-- A number whose bytes, from the least significant on, are the labels that PIECE, SUBPIECE, INT_ZEXT or INT_SEXT writes by significance; what it
-- has above them is free. None of the four looks at b.
abbrev pub MovedWord : (big : Bool) (labels : Memory) (op : Operation) (word : ℕ) → Type 0
MovedWord big labels op word = (b k : ℕ) → k < op.output.size → digit 256 word k ≡ label_moved big labels op b k
