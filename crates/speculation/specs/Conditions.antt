-- The exact conditions of a window: one operation of a well-formed list told a second time, in the request's words, over opcode numbers,
-- varnodes, labels and values. The definitions of Window must meet it.
use Rattle.std.specs.Prelude.{ℕ, suc, ◌+◌, ◌*◌, ◌-◌, ◌%◌, ◌^◌, cond, ◌&&◌, [], ◌∷◌, ◌++◌, map, ◌≡◌, eqb, leb}
use Rattle.operation.specs.Layout.{operation_count}
use Rattle.validation.specs.Verdict.{verdict}
use Rattle.machine.specs.Program.{Program}
use Rattle.machine.specs.Memory.{Memory, OfBytes, lengths_of, value_at}
use Rattle.machine.specs.Effect.{Operation, operation_at}
use Rattle.machine.specs.Run.{Position, Ended, Stepped, ended, continued, run}
use Rattle.machine.specs.Conditions.{has_secret, exact_step, Words}
use Rattle.speculation.specs.Speculation.{speculate}

-- A CBRANCH with condition b that has written its word and, by its window, further ones.
unfoldable pub exact_position : Position → (index executed : ℕ) → (b : ℕ) → (window : Ended) → Position
exact_position at index executed b w =
    record {
      index = index;
      room = w.position.room;
      executed = executed;
      log = at.log ++ ((at.index * 2 ^ 32 + cond (eqb b 0) 0 1) ∷ map (λ (word : ℕ). 2 ^ 63 + word) w.position.log);
    }

-- The right way of a CBRANCH: not taken it goes on at i + 1; taken it goes on at i plus the signed offset, or exits with a ram offset.
-- Bytes and labels stay.
unfoldable pub exact_right_way : Operation → Position → (labels memory : Memory) → (b : ℕ) → (window : Ended) → Stepped
exact_right_way op at labels m b w =
    cond (eqb b 0) (Stepped.going (exact_position at (suc at.index) (suc at.executed) b w) labels m)
    (cond (eqb op.input0.space 4) (Stepped.halted (ended 1 op.input0.offset (exact_position at at.index (suc at.executed) b w) labels m))
    (Stepped.going (exact_position at ((at.index + op.input0.offset) % 2 ^ 64) (suc at.executed) b w) labels m))

-- LEAK inside ends the run as 35, a full log inside as 34: at the CBRANCH, not counted. Any other ending closes the window.
unfoldable pub exact_after : Operation → Position → (labels memory : Memory) → (b : ℕ) → (window : Ended) → Stepped
exact_after op at labels m b w =
    cond (eqb w.ending 31) (Stepped.halted (ended 35 0 (exact_position at at.index at.executed b w) labels m))
    (cond (eqb w.ending 34) (Stepped.halted (ended 34 0 (exact_position at at.index at.executed b w) labels m))
    (exact_right_way op at labels m b w))

-- The window: the labelled run of W operations from the other way, with one log word less. Not taken, the other way is i plus the signed
-- offset; taken, it is i + 1. Where the other way is a ram address there is nothing to run: no operation is done.
unfoldable pub exact_window : Program → (window : ℕ) → Operation → Position → (labels memory : Memory) → (b : ℕ) → Ended
exact_window program window op at labels m b =
    let other : ℕ = cond (eqb b 0) ((at.index + op.input0.offset) % 2 ^ 64) (suc at.index) in
    let operations : ℕ = cond (eqb b 0 && eqb op.input0.space 4) 0 window in
    run program operations (record { index = other; room = at.room - 1; executed = 0; log = [] }) labels m

-- A CBRANCH: LEAK, then LOG, then its word and its window.
unfoldable pub exact_branch : Program → (window : ℕ) → Operation → Position → (labels memory : Memory) → Stepped
exact_branch program window op at labels m =
    let b : ℕ = value_at program.settings m op.input1 in
    cond (has_secret labels op.input1) (Stepped.halted (ended 31 0 at labels m))
    (cond (eqb at.room 0) (Stepped.halted (ended 34 0 at labels m))
    (exact_after op at labels m b (exact_window program window op at labels m b)))

-- At n, END; count equals budget, BUDGET; a CBRANCH with its window; any other operation as in the labelled run.
unfoldable pub exact_speculated : Program → (window budget : ℕ) → Position → (labels memory : Memory) → Stepped
exact_speculated program window budget at labels m =
    let op : Operation = operation_at program.list at.index in
    cond (leb (operation_count program.list) at.index) (Stepped.halted (ended 0 0 at labels m))
    (cond (eqb budget 0) (Stepped.halted (ended 2 0 at labels m))
    (cond (eqb op.opcode 5) (exact_branch program window op at labels m) (exact_step program op at labels m)))

-- A speculative run over a list whose verdict is 0 meets exactly these conditions at each operation, and goes on with the rest of its
-- budget.
abbrev pub ExactWindows : Type 0
ExactWindows = (program : Program) (window budget : ℕ) (at : Position) (labels m : Memory)
    → Words program.list → OfBytes m → (verdict program.settings (lengths_of m) program.list).ending ≡ 0
    → speculate program window budget at labels m ≡ continued (speculate program window (budget - 1)) (exact_speculated program window budget at labels m)
