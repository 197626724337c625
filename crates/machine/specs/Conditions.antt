-- The exact conditions: one operation of a well-formed list told a second time, over opcode numbers, varnodes, labels and values, a
-- sentence for each definition. The definitions of Effect and Run must meet it; a wrong entry in one of their tables does not. Both
-- tellings share memory, arithmetic, the wordsize of a space and the bytes at a byte offset (`pointee`). The code is held to these: what
-- it plans, looks at and marks is told in their words.
use Rattle.std.specs.Prelude.{ℕ, suc, ◌+◌, ◌*◌, ◌-◌, ◌%◌, ◌^◌, ◌<◌, Bool, false, cond, not, ◌&&◌, ◌||◌, List, [], ◌∷◌, ◌≡◌, eqb, leb, ltb, length, get_or}
use Rattle.word.specs.Sum.{tabulate}
use Rattle.word.specs.Word.{significance, bytes_of}
use Rattle.integer.specs.Operations.{flag}
use Rattle.arithmetic.specs.Opcodes.{member}
use Rattle.arithmetic.specs.Result.{result_of}
use Rattle.operation.specs.declared.layout.Varnode.{Varnode}
use Rattle.operation.specs.Layout.{wordsize_of, operation_count}
use Rattle.validation.specs.Verdict.{verdict}
use Rattle.machine.specs.Program.{Program, big_endian}
use Rattle.machine.specs.Memory.{Memory, OfBytes, lengths_of, space_of, bytes_at, written, value_at}
use Rattle.machine.specs.Effect.{Operation, operation_at, pointee, any_secret}
use Rattle.machine.specs.Run.{Position, Stepped, advanced, ended, continued, run}

-- A byte of a varnode is secret. Constants are public.
unfoldable pub has_secret : (labels : Memory) → Varnode → Bool
has_secret labels v = cond (eqb v.space 1) false (any_secret (bytes_at labels v))

-- LEAK: a secret byte in the pointer of LOAD or STORE, the condition, input0 of BRANCHIND, CALLIND or RETURN, or input1 of INT_DIV,
-- INT_REM, INT_SDIV, INT_SREM. It also covers input0 of these four.
unfoldable pub leaks : (labels : Memory) → Operation → Bool
leaks labels op =
    (member op.opcode (2 ∷ 3 ∷ []) && has_secret labels op.input1)
    || (eqb op.opcode 5 && has_secret labels op.input1)
    || (member op.opcode (6 ∷ 8 ∷ 9 ∷ []) && has_secret labels op.input0)
    || (member op.opcode (35 ∷ 36 ∷ 37 ∷ 38 ∷ []) && has_secret labels op.input1)
    || (member op.opcode (35 ∷ 36 ∷ 37 ∷ 38 ∷ []) && has_secret labels op.input0)

-- ---- by the number b that input1 stands for: the byte offset of LOAD 2 and STORE 3, else its value

-- LOAD and STORE: the pointer times the wordsize of the space that input0 names, as a whole number; any other: the value of input1.
unfoldable pub operand1 : Program → Memory → Operation → ℕ
operand1 program m op =
    let value : ℕ = value_at program.settings m op.input1 in
    cond (member op.opcode (2 ∷ 3 ∷ [])) (value * wordsize_of program.settings.wordsizes op.input0.offset) value

-- offset + size beyond the space
unfoldable pub exceeds_space : Memory → Varnode → Bool
exceeds_space m v = not (leb (v.offset + v.size) (length (space_of m v.space)))

-- BOUNDS, after multiplying: byte offset + size beyond the space, summed without wrapping.
unfoldable pub out_of_bounds : Memory → Operation → (b : ℕ) → Bool
out_of_bounds m op b =
    (eqb op.opcode 2 && exceeds_space m (pointee op b op.output.size))
    || (eqb op.opcode 3 && exceeds_space m (pointee op b op.input2.size))

-- ZERO divisor.
unfoldable pub divides_by_zero : Operation → (b : ℕ) → Bool
divides_by_zero op b = member op.opcode (35 ∷ 36 ∷ 37 ∷ 38 ∷ []) && eqb b 0

-- Each LOAD, STORE and CBRANCH executed writes one 64-bit log word:
unfoldable pub writes_log : Operation → Bool
writes_log op = member op.opcode (2 ∷ 3 ∷ 5 ∷ [])

-- In CBRANCH any non-zero byte is true.
unfoldable pub taken : Operation → (b : ℕ) → Bool
taken op b = eqb op.opcode 5 && not (eqb b 0)

-- the byte offset, or 1 if taken and 0 if not
unfoldable pub low_part : Operation → (b : ℕ) → ℕ
low_part op b = cond (eqb op.opcode 5) (flag (taken op b)) b

-- index × 2^32 plus the byte offset, or plus 1 if taken and 0 if not.
unfoldable pub log_word_of : Operation → (i b : ℕ) → ℕ
log_word_of op i b = i * 2 ^ 32 + low_part op b

-- BRANCH, CBRANCH taken or CALL:
unfoldable pub branch_taken : Operation → (b : ℕ) → Bool
branch_taken op b = member op.opcode (4 ∷ 7 ∷ []) || taken op b

-- to space 4 ends the run with that offset. BRANCHIND, CALLIND and RETURN end it with the value of input0.
unfoldable pub exits : Operation → (b : ℕ) → Bool
exits op b = (branch_taken op b && eqb op.input0.space 4) || member op.opcode (6 ∷ 8 ∷ 9 ∷ [])

-- The value of EXIT: that offset, or the value a of input0.
unfoldable pub destination : Operation → (a : ℕ) → ℕ
destination op a = cond (member op.opcode (6 ∷ 8 ∷ 9 ∷ [])) a op.input0.offset

-- To space 1 it goes on at the index plus the signed offset, which is their sum modulo 2^64; any other operation goes on at the next.
unfoldable pub next_index : Operation → (i b : ℕ) → ℕ
next_index op i b = cond (branch_taken op b && eqb op.input0.space 1) ((i + op.input0.offset) % 2 ^ 64) (suc i)

-- What is written to: the target bytes of STORE, else the output; branches have none.
unfoldable pub destination_bytes : Operation → (b : ℕ) → Varnode
destination_bytes op b = cond (eqb op.opcode 3) (pointee op b op.input2.size) op.output

-- ---- the labels written, byte by byte, by the number b that input1 stands for

-- The label of byte k of a varnode, counted from the least significant on. Constants are public, and so is zero fill above the top byte.
unfoldable pub label_of : (big : Bool) → (labels : Memory) → Varnode → (k : ℕ) → ℕ
label_of big labels v k =
    cond (eqb v.space 1) 0 (cond (ltb k v.size) (get_or (bytes_at labels v) (significance big v.size k) 0) 0)

-- 10 PIECE: input1 is the low part, input0 the high part.
unfoldable pub label_joined : (big : Bool) → (labels : Memory) → Operation → (k : ℕ) → ℕ
label_joined big labels op k =
    cond (ltb k op.input1.size) (label_of big labels op.input1 k) (label_of big labels op.input0 (k - op.input1.size))

-- 20 INT_SEXT: its fill takes the label of input0's top byte.
unfoldable pub label_extended : (big : Bool) → (labels : Memory) → Operation → (k : ℕ) → ℕ
label_extended big labels op k = label_of big labels op.input0 (cond (ltb k op.input0.size) k (op.input0.size - 1))

-- The operations that move bytes: COPY, LOAD, STORE, PIECE, SUBPIECE, INT_ZEXT, INT_SEXT.
abbrev pub moving : List ℕ
moving = 1 ∷ 2 ∷ 3 ∷ 10 ∷ 11 ∷ 19 ∷ 20 ∷ []

-- For COPY, LOAD and STORE the label goes with each byte. For PIECE, SUBPIECE, INT_ZEXT and INT_SEXT it goes with the byte by
-- significance: byte k of SUBPIECE 11 is byte k of input0 without its input1 low bytes; that of COPY 1 and INT_ZEXT 19 is byte k of input0.
unfoldable pub label_moved : (big : Bool) → (labels : Memory) → Operation → (b k : ℕ) → ℕ
label_moved big labels op b k =
    cond (eqb op.opcode 2) (label_of big labels (pointee op b op.output.size) k)
    (cond (eqb op.opcode 3) (label_of big labels op.input2 k)
    (cond (eqb op.opcode 10) (label_joined big labels op k)
    (cond (eqb op.opcode 11) (label_of big labels op.input0 (op.input1.offset + k))
    (cond (eqb op.opcode 20) (label_extended big labels op k)
    (label_of big labels op.input0 k)))))

-- The base's rule, which all else keeps: all bytes of an output become secret if any byte of any varnode read, or any byte loaded, is
-- secret; else public. STORE makes all its target bytes secret if any byte of input2 is secret, else public. What it says of LOAD and STORE is
-- for `FinerLabels`, which compares with it.
unfoldable pub becomes_secret : (labels : Memory) → Operation → (b : ℕ) → Bool
becomes_secret labels op b =
    cond (eqb op.opcode 3) (has_secret labels op.input2)
    (has_secret labels op.input0 || has_secret labels op.input1
    || (eqb op.opcode 2 && has_secret labels (pointee op b op.output.size)))

-- The label of byte k of what is written to.
unfoldable pub label_written : (big : Bool) → (labels : Memory) → Operation → (b k : ℕ) → ℕ
label_written big labels op b k =
    cond (member op.opcode moving) (label_moved big labels op b k) (flag (becomes_secret labels op b))

-- The labels of `size` bytes that are written to, in memory order.
unfoldable pub exact_labels : (big : Bool) → (labels : Memory) → Operation → (b size : ℕ) → List ℕ
exact_labels big labels op b size = tabulate size (λ i. label_written big labels op b (significance big size i))

-- ---- the value written, by the value a of input0 and the number b that input1 stands for

-- COPY's input0, or the arithmetic's number.
unfoldable pub value_computed : Operation → (a b : ℕ) → ℕ
value_computed op a b = cond (eqb op.opcode 1) a (result_of op.opcode op.output.size op.input0.size op.input1.size a b)

-- The bytes loaded, or STORE's input2.
unfoldable pub value_moved : Program → Memory → Operation → (b : ℕ) → ℕ
value_moved program m op b =
    value_at program.settings m (cond (eqb op.opcode 2) (pointee op b op.output.size) op.input2)

-- The value written: moved by LOAD and STORE, else computed.
unfoldable pub value_written : Program → Memory → Operation → (a b : ℕ) → ℕ
value_written program m op a b = cond (member op.opcode (2 ∷ 3 ∷ [])) (value_moved program m op b) (value_computed op a b)

-- An operation executed: one more counted, its log word written.
unfoldable pub position_after : Operation → (b : ℕ) → Position → (index : ℕ) → Position
position_after op b at i = advanced at i (cond (writes_log op) (log_word_of op at.index b ∷ []) [])

-- After LEAK, in order, with the value a of input0 and the number b that input1 stands for: BOUNDS; ZERO; LOG; then it is executed, and exits
-- or goes on. `marked` is the labels if it goes on.
unfoldable pub exact_step_with : Program → Operation → (a b : ℕ) → Position → (labels marked memory : Memory) → Stepped
exact_step_with program op a b at labels marked m =
    cond (out_of_bounds m op b) (Stepped.halted (ended 32 0 at labels m))
    (cond (divides_by_zero op b) (Stepped.halted (ended 33 0 at labels m))
    (cond (writes_log op && eqb at.room 0) (Stepped.halted (ended 34 0 at labels m))
    (cond (exits op b) (Stepped.halted (ended 1 (destination op a) (position_after op b at at.index) labels m))
    (Stepped.going (position_after op b at (next_index op at.index b)) marked
    (written m (destination_bytes op b) (bytes_of (big_endian program.settings) (destination_bytes op b).size (value_written program m op a b)))))))

-- The labels after an operation that goes on.
unfoldable pub labels_after : (big : Bool) → (labels : Memory) → Operation → (b : ℕ) → Memory
labels_after big labels op b = written labels (destination_bytes op b) (exact_labels big labels op b (destination_bytes op b).size)

-- At each operation, in order: LEAK; and the rest.
unfoldable pub exact_step : Program → Operation → Position → (labels memory : Memory) → Stepped
exact_step program op at labels m =
    let a : ℕ = value_at program.settings m op.input0 in
    let b : ℕ = operand1 program m op in
    cond (leaks labels op) (Stepped.halted (ended 31 0 at labels m))
    (exact_step_with program op a b at labels (labels_after (big_endian program.settings) labels op b) m)

-- At n, END; count equals budget, BUDGET; `budget` is what is left of it.
unfoldable pub exact_step_within : Program → (budget : ℕ) → Position → (labels memory : Memory) → Stepped
exact_step_within program budget at labels m =
    cond (leb (operation_count program.list) at.index) (Stepped.halted (ended 0 0 at labels m))
    (cond (eqb budget 0) (Stepped.halted (ended 2 0 at labels m))
    (exact_step program (operation_at program.list at.index) at labels m))

-- Every entry is a 64-bit word.
abbrev pub Words : List ℕ → Type 0
Words list = (k : ℕ) → get_or list k 0 < 2 ^ 64

-- A run over a list whose verdict is 0 meets exactly these conditions at each operation, and goes on with the rest of its budget.
abbrev pub ExactConditions : Type 0
ExactConditions = (program : Program) (budget : ℕ) (at : Position) (labels m : Memory)
    → Words program.list → OfBytes m → (verdict program.settings (lengths_of m) program.list).ending ≡ 0
    → run program budget at labels m ≡ continued (run program (budget - 1)) (exact_step_within program budget at labels m)
