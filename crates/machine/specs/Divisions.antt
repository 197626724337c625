-- Division takes time by both operands: what a run divides does not depend on secret bytes.
use Rattle.std.specs.Prelude.{ℕ, zero, suc, ◌<◌, true, cond, List, [], ◌∷◌, ◌++◌, ◌≡◌}
use Rattle.arithmetic.specs.Operands.{divides}
use Rattle.operation.specs.Layout.{operation_count}
use Rattle.machine.specs.Program.{Program, program_of}
use Rattle.machine.specs.Memory.{Memory, spaces, lengths_of}
use Rattle.machine.specs.Effect.{Operation, operation_at, kind_of, sources, values_of, secret}
use Rattle.machine.specs.Run.{Position, Stepped, ended, stepped, run}
use Rattle.machine.specs.Calls.{starting, same_lengths, unlabelled}
use Rattle.machine.specs.Noninterference.{LowEquivalent}
use Rattle.machine.specs.Marked.{words, settings}

-- Operation i, if it is INT_DIV, INT_REM, INT_SDIV or INT_SREM: its index, and the values of dividend and divisor. The index tells opcode
-- and sizes.
unfoldable pub division_at : Program → (i : ℕ) → Memory → List ℕ
division_at program i m =
    let op : Operation = operation_at program.list i in
    cond (divides op.opcode) (i ∷ values_of program.settings m (op.input0 ∷ op.input1 ∷ [])) []

-- What an operation that goes on divides, and then what the rest of the run does. One that halts divides nothing: it is stopped, or it is
-- no division.
unfoldable pub divided_after : List ℕ → (Position → Memory → Memory → List ℕ) → Stepped → List ℕ
divided_after division f (Stepped.halted r) = []
divided_after division f (Stepped.going at labels m) = division ++ f at labels m

-- The divisions that a run executes, in order.
unfoldable pub divided : Program → (budget : ℕ) → Position → (labels memory : Memory) → List ℕ
divided program zero at labels m = []
divided program (suc budget) at labels m = divided_after (division_at program at.index m) (divided program budget) (stepped program at labels m)

-- Two divisions of 1 byte in the register space: byte 2 = byte 0 by byte 1, INT_DIV; byte 3 = byte 2 by byte 1, INT_REM.
abbrev pub two_divisions : Program
two_divisions = program_of (settings 0) (words 0x31313123 2 0 1 ++ words 0x31313124 3 2 1)

-- All of these.
pub record PublicDivisions : Type 0 where
  -- The values told are those that the operation reads. `offset` is the byte offset of LOAD and STORE, which a division does not look at.
  pub reads : (program : Program) (i offset : ℕ) (m : Memory)
      → (let op = operation_at program.list i in
      divides op.opcode ≡ true → division_at program i m ≡ i ∷ values_of program.settings m (sources (kind_of op.opcode) op offset))
  -- Each division is told, in order: at 0 f9 by 02, and at 1 what that gave, 7c, by 02.
  pub in_order : divided two_divisions 2 (starting 0 0) unlabelled (spaces [] (0xf9 ∷ 0x02 ∷ 0xaa ∷ 0xaa ∷ []) [])
      ≡ 0 ∷ 0xf9 ∷ 0x02 ∷ 1 ∷ 0x7c ∷ 0x02 ∷ []
  -- LEAK stops a division of which a byte of an operand is secret, whatever the operands are: a divisor of 0 too.
  pub stops : (program : Program) (budget : ℕ) (at : Position) (labels m : Memory) → at.index < operation_count program.list
      → (let op = operation_at program.list at.index in
      divides op.opcode ≡ true → secret labels (op.input0 ∷ op.input1 ∷ []) ≡ true
      → run program (suc budget) at labels m ≡ ended 31 0 at labels m)
  -- Two memories that agree in each byte labelled public divide the same numbers, by the same operations.
  pub labelled : (program : Program) (budget : ℕ) (at : Position) (labels first second : Memory)
      → same_lengths (lengths_of labels) (lengths_of first) ≡ true → LowEquivalent labels first second
      → divided program budget at labels first ≡ divided program budget at labels second
  -- Where the labelled run does not end with LEAK, the plain run divides these numbers too.
  pub plain : (program : Program) (budget : ℕ) (at : Position) (labels m : Memory) → ((run program budget at labels m).ending ≡ 31 → ⊥)
      → divided program budget at unlabelled m ≡ divided program budget at labels m
