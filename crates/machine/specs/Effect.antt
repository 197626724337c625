-- What each operation reads, writes and must find public.
use Rattle.std.specs.Prelude.{ℕ, ◌+◌, ◌*◌, ◌-◌, Bool, false, cond, ◌||◌, not, List, [], ◌∷◌, ◌++◌, eqb, ltb, length, get_or, replicate}
use Rattle.word.specs.Sum.{tabulate}
use Rattle.word.specs.Word.{significance, bytes_of}
use Rattle.integer.specs.Operations.{flag}
use Rattle.arithmetic.specs.Opcodes.{member}
use Rattle.arithmetic.specs.Operands.{divides}
use Rattle.arithmetic.specs.Result.{result_of}
use Rattle.operation.specs.declared.layout.Settings.{Settings}
use Rattle.operation.specs.declared.layout.Varnode.{Varnode}
use Rattle.operation.specs.Layout.{wordsize_of, opcode_at, absent, varnode_at}
use Rattle.operation.specs.Rules.{branches, jumps}
use Rattle.machine.specs.Program.{big_endian}
use Rattle.machine.specs.Memory.{Memory, bytes_at, value_at, ordered, digits_at}

-- ---- operations

-- An opcode, an output and three inputs, each of which may be absent.
pub record Operation : Type 0 where
  pub opcode : ℕ
  pub output : Varnode
  pub input0 : Varnode
  pub input1 : Varnode
  pub input2 : Varnode

-- Operation i of a list.
unfoldable pub operation_at : List ℕ → (i : ℕ) → Operation
operation_at list i =
    record {
      opcode = opcode_at list i;
      output = varnode_at list i 0;
      input0 = varnode_at list i 1;
      input1 = varnode_at list i 2;
      input2 = varnode_at list i 3;
    }

-- Operations by what they do. `copy` is COPY, INT_ZEXT and INT_SEXT, `branch` BRANCH and CALL, `jump` BRANCHIND, CALLIND and RETURN,
-- `divide` the divisions and remainders, `compute` all others.
pub data Kind : Type 0 where
  copy load store branch cbranch jump piece subpiece divide compute : Kind

-- The kind of an opcode.
unfoldable pub kind_of : (opcode : ℕ) → Kind
kind_of opcode =
    cond (eqb opcode 1) copy
    (cond (eqb opcode 2) load
    (cond (eqb opcode 3) store
    (cond (eqb opcode 5) cbranch
    (cond (branches opcode) branch
    (cond (jumps opcode) jump
    (cond (eqb opcode 10) piece
    (cond (eqb opcode 11) subpiece
    (cond (eqb opcode 19) copy
    (cond (eqb opcode 20) copy
    (cond (divides opcode) divide compute))))))))))

-- ---- what must be public, since a secret byte there is LEAK

-- The varnodes that must be public.
unfoldable pub sinks : Kind → Operation → List Varnode
-- the pointer of LOAD or STORE,
sinks load op = op.input1 ∷ []
sinks store op = op.input1 ∷ []
-- the condition,
sinks cbranch op = op.input1 ∷ []
-- input0 of BRANCHIND, CALLIND or RETURN,
sinks jump op = op.input0 ∷ []
-- or input1 of INT_DIV, INT_REM, INT_SDIV, INT_SREM; and their input0, since a division takes time by both.
sinks divide op = op.input1 ∷ op.input0 ∷ []
sinks copy op = []
sinks branch op = []
sinks piece op = []
sinks subpiece op = []
sinks compute op = []

-- The varnode whose value decides what happens: the pointer, the condition, the destination or the divisor. It is among those that must be
-- public; where nothing is decided it is absent.
unfoldable pub tested : Kind → Operation → Varnode
tested load op = op.input1
tested store op = op.input1
tested cbranch op = op.input1
tested jump op = op.input0
tested divide op = op.input1
tested copy op = absent
tested branch op = absent
tested piece op = absent
tested subpiece op = absent
tested compute op = absent

-- ---- pointers

-- LOAD and STORE multiply the pointer by the wordsize of the space that input0 names, as a whole number: this is its byte offset.
unfoldable pub byte_offset : Settings → Operation → (pointer : ℕ) → ℕ
byte_offset settings op pointer = pointer * wordsize_of settings.wordsizes op.input0.offset

-- The number that the value of the varnode tested stands for: the byte offset of a pointer, else the value.
unfoldable pub resolved : Settings → Kind → Operation → (value : ℕ) → ℕ
resolved settings load op value = byte_offset settings op value
resolved settings store op value = byte_offset settings op value
resolved settings copy op value = value
resolved settings branch op value = value
resolved settings cbranch op value = value
resolved settings jump op value = value
resolved settings piece op value = value
resolved settings subpiece op value = value
resolved settings divide op value = value
resolved settings compute op value = value

-- ---- what is read for the value written, and where that value goes; `offset` is the byte offset of LOAD's or STORE's pointer

-- The bytes at a byte offset, which LOAD loads or STORE stores to, in the space that input0 names.
unfoldable pub pointee : Operation → (offset size : ℕ) → Varnode
pointee op offset size = record { space = op.input0.offset; offset = offset; size = size }

-- Least significant first: input0 of PIECE is its most significant part.
unfoldable pub sources : Kind → Operation → (offset : ℕ) → List Varnode
sources copy op offset = op.input0 ∷ []
sources load op offset = pointee op offset op.output.size ∷ []
sources store op offset = op.input2 ∷ []
sources branch op offset = []
sources cbranch op offset = []
sources jump op offset = []
sources piece op offset = op.input1 ∷ op.input0 ∷ []
sources subpiece op offset = op.input0 ∷ []
sources divide op offset = op.input0 ∷ op.input1 ∷ []
sources compute op offset = op.input0 ∷ op.input1 ∷ []

-- Where the value goes: the output, or the bytes that STORE stores to; branches write nothing.
unfoldable pub target : Kind → Operation → (offset : ℕ) → Varnode
target copy op offset = op.output
target load op offset = op.output
target store op offset = pointee op offset op.input2.size
target branch op offset = absent
target cbranch op offset = absent
target jump op offset = absent
target piece op offset = op.output
target subpiece op offset = op.output
target divide op offset = op.output
target compute op offset = op.output

-- ---- where each byte written comes from

-- COPY, LOAD, STORE, PIECE, SUBPIECE, INT_ZEXT, INT_SEXT: the bytes written are bytes read, moved by significance, or fill above them; all
-- others write the bytes of a number.
unfoldable pub moves : Operation → Bool
moves op = member op.opcode (1 ∷ 2 ∷ 3 ∷ 10 ∷ 11 ∷ 19 ∷ 20 ∷ [])

-- 11 SUBPIECE drops input1 low bytes.
unfoldable pub dropped : Operation → ℕ
dropped op = cond (eqb op.opcode 11) op.input1.offset 0

-- Where a byte comes from: it is a byte read, or zero fill, or filled by a byte read. Bytes read are counted from the least significant on.
pub data Origin : Type 0 where
  read : (k : ℕ) → Origin
  zeros : Origin
  filled : (k : ℕ) → Origin

-- Where a move that reads `count` bytes has byte k of its target from, counted from the least significant on. What is missing above is
-- zeros; 20 INT_SEXT fills it by the top byte.
unfoldable pub origin : Operation → (count k : ℕ) → Origin
origin op count k =
    cond (ltb (dropped op + k) count) (read (dropped op + k)) (cond (eqb op.opcode 20) (filled (count - 1)) zeros)

-- What comes from an origin, of some entries: bytes, or labels, of which 0 is public. `fill` is what one of them fills with.
unfoldable pub entry_from : (fill : ℕ → ℕ) → (entries : List ℕ) → Origin → ℕ
entry_from fill entries (read k) = get_or entries k 0
entry_from fill entries zeros = 0
entry_from fill entries (filled k) = fill (get_or entries k 0)

-- What a move writes to `size` bytes, in memory order, of the entries read.
unfoldable pub moved : (big : Bool) → Operation → (size : ℕ) → (fill : ℕ → ℕ) → (entries : List ℕ) → List ℕ
moved big op size fill entries = tabulate size (λ i. entry_from fill entries (origin op (length entries) (significance big size i)))

-- ---- the bytes written

-- The bytes of some varnodes, the least significant first, one varnode after the other.
unfoldable pub digits_of : Settings → Memory → List Varnode → List ℕ
digits_of settings m [] = []
digits_of settings m (v ∷ vs) = digits_at settings m v ++ digits_of settings m vs

-- A byte fills with its sign: with the bit that counts 128.
unfoldable pub sign_fill : (byte : ℕ) → ℕ
sign_fill byte = cond (ltb byte 128) 0 255

-- The values of some varnodes.
unfoldable pub values_of : Settings → Memory → List Varnode → List ℕ
values_of settings m [] = []
values_of settings m (v ∷ vs) = value_at settings m v ∷ values_of settings m vs

-- The number that an operation computes from the values of its inputs.
unfoldable pub computed : Operation → (values : List ℕ) → ℕ
computed op values =
    result_of op.opcode op.output.size op.input0.size op.input1.size (get_or values 0 0) (get_or values 1 0)

-- The bytes that an operation writes to its target of `size` bytes, in memory order.
unfoldable pub bytes_written : Settings → Operation → (size : ℕ) → List Varnode → Memory → List ℕ
bytes_written settings op size vs m =
    cond (moves op)
    (moved (big_endian settings) op size sign_fill (digits_of settings m vs))
    (bytes_of (big_endian settings) size (computed op (values_of settings m vs)))

-- ---- the labels written

-- A byte with another label than 0 is secret.
unfoldable pub any_secret : List ℕ → Bool
any_secret [] = false
any_secret (l ∷ ls) = not (eqb l 0) || any_secret ls

-- Any byte of some varnodes is secret. Constants are public: they have no bytes in a space.
unfoldable pub secret : (labels : Memory) → List Varnode → Bool
secret labels [] = false
secret labels (v ∷ vs) = any_secret (bytes_at labels v) || secret labels vs

-- The labels of some varnodes' bytes, as `digits_of` has the bytes; a constant has as many as bytes, and all are 0.
unfoldable pub labels_of : Settings → (labels : Memory) → List Varnode → List ℕ
labels_of settings labels [] = []
labels_of settings labels (v ∷ vs) = ordered (big_endian settings) (bytes_at labels v) ++ labels_of settings labels vs

-- A label fills with itself.
unfoldable pub label_fill : (label : ℕ) → ℕ
label_fill label = label

-- The labels that an operation writes to its target of `size` bytes. A move takes each byte's label along; zero fill is public, and INT_SEXT's
-- fill has the label of the top byte. Of all others the whole output becomes secret if any byte of any varnode read is secret; else public.
unfoldable pub labels_written : Settings → Operation → (size : ℕ) → List Varnode → (labels : Memory) → List ℕ
labels_written settings op size vs labels =
    cond (moves op)
    (moved (big_endian settings) op size label_fill (labels_of settings labels vs))
    (replicate size (flag (secret labels vs)))
