-- One operation of the speculative run in code, by the report of it alone.
use Rattle.std.specs.Prelude.{ℕ, suc, ◌+◌, ◌%◌, ◌^◌, Bool, false, cond, not, ◌&&◌, ◌||◌, List, ◌==◌}
use Rattle.operation.specs.declared.report.Report.{Report}
use Rattle.operation.specs.Layout.{opcode_at, varnode_at}

-- A window is opened by a CBRANCH that was executed, unless its other way leaves the list: if it goes on at i + 1, the other way is its
-- destination, which must be relative.
unfoldable pub opens_window : (list : List ℕ) → (i window : ℕ) → (done : Report) → Bool
opens_window list i window done =
    cond (window == 0 || done.executed == 0) false
    (opcode_at list i == 5 && not (done.index == suc i && not ((varnode_at list i 1).space == 1)))

-- The index of the other way, by the index where the right way goes on or, to exit, stays.
unfoldable pub other_index : (list : List ℕ) → (i next : ℕ) → ℕ
other_index list i next = cond (next == suc i) ((i + (varnode_at list i 1).offset) % 2 ^ 64) (suc i)

-- 35 for LEAK inside, 34 for LOG inside; 0 where the window closed.
unfoldable pub ending_ahead : (ending : ℕ) → ℕ
ending_ahead ending = cond (ending == 31) 35 (cond (ending == 34) 34 0)

-- What a CBRANCH at i answers after its window: the right way's report, or the end of the run at it, not counted. The words of the window
-- are counted in both.
unfoldable pub answer_after : (i : ℕ) → (done window : Report) → Report
answer_after i done w =
    cond (ending_ahead w.ending == 0)
    (record { ending = done.ending; index = done.index; executed = done.executed; logged = w.logged; value = done.value })
    (record { ending = ending_ahead w.ending; index = i; executed = 0; logged = w.logged; value = 0 })
