-- One operation of the speculative run: a CBRANCH tries the way not taken first, for at most W operations, and that is undone.
use Rattle.std.specs.Prelude.{ℕ, suc, ◌+◌, ◌^◌, Bool, true, cond, ◌&&◌, List, [], ◌∷◌, ◌++◌, eqb}
use Rattle.machine.specs.Program.{Program}
use Rattle.machine.specs.Memory.{Memory, value_at}
use Rattle.machine.specs.Effect.{Operation, operation_at}
use Rattle.machine.specs.Run.{Decision, Position, Ended, Stepped, go_to, ended, stepped, run}
use Rattle.machine.specs.Calls.{starting}

-- ---- the other way of a CBRANCH

-- Where a way goes on: at an index, or outside the list.
pub data Way : Type 0 where
  inside : (index : ℕ) → Way
  outside : Way

-- The way of a branch.
unfoldable pub way_of : Decision → Way
way_of (Decision.stop e) = outside
way_of (Decision.next words i) = inside i
way_of (Decision.exit words d) = outside

-- A condition of 0 goes on at i + 1, so the other way is the destination; any other takes the destination, so the other way is i + 1.
unfoldable pub other_way : Operation → (i condition : ℕ) → Way
other_way op i condition = cond (eqb condition 0) (way_of (go_to i op.input0 [])) (inside (suc i))

-- ---- the window

-- The other way from index i: a labelled run of W operations, over the bytes and labels at the CBRANCH and the log's free words. So
-- CBRANCHes inside follow their condition and open no window, and W operations done and the end of the list come before any check.
unfoldable pub ahead : Program → (window i room : ℕ) → (labels memory : Memory) → Ended
ahead program window i room labels m = run program window (starting i room) labels m

-- How a window ends: it closes, or it ends the run.
pub data Window : Type 0 where
  closes : Window
  ends : (ending : ℕ) → Window

-- Inside, 31 LEAK ends the run as 35 LEAK AHEAD, and a full log ends it as 34 LOG. END, EXIT, BOUNDS or ZERO closes the window, and so
-- does 2, W operations done.
unfoldable pub window_of : (ending : ℕ) → Window
window_of ending = cond (eqb ending 31) (ends 35) (cond (eqb ending 34) (ends 34) closes)

-- Window log words have 2^63 added.
unfoldable pub window_mark : ℕ
window_mark = 2 ^ 63

unfoldable pub marked : List ℕ → List ℕ
marked [] = []
marked (w ∷ ws) = (window_mark + w) ∷ marked ws

-- A position after a window: its words, marked, are behind those written before it.
unfoldable pub with_words : (window : Ended) → Position → Position
with_words w at =
    record { index = at.index; room = w.position.room; executed = at.executed; log = at.log ++ marked w.position.log }

-- A CBRANCH at `at` not counted, with its log word written: `after` is the position after it.
unfoldable pub uncounted : (at after : Position) → Position
uncounted at after = record { index = at.index; room = after.room; executed = at.executed; log = after.log }

-- ---- one operation

-- The right way goes on after a window, with the bytes and labels that it has without one.
unfoldable pub right_way : (window : Ended) → Stepped → Stepped
right_way w (Stepped.halted r) = Stepped.halted (ended r.ending r.value (with_words w r.position) r.labels r.memory)
right_way w (Stepped.going at labels m) = Stepped.going (with_words w at) labels m

-- The position after an operation.
unfoldable pub reached : Stepped → Position
reached (Stepped.halted r) = r.position
reached (Stepped.going at labels m) = at

-- After a window: the right way; or the run ends at the CBRANCH, which is not counted, with the bytes and labels before it.
unfoldable pub after_window : Position → (labels memory : Memory) → (right : Stepped) → (window : Ended) → Window → Stepped
after_window at labels m right w closes = right_way w right
after_window at labels m right w (ends e) = Stepped.halted (ended e 0 (with_words w (uncounted at (reached right))) labels m)

-- The window of a way; outside the list there is none.
unfoldable pub tried : Program → (window : ℕ) → Position → (labels memory : Memory) → (right : Stepped) → Way → Stepped
tried program window at labels m right outside = right
tried program window at labels m right (inside i) =
    let w : Ended = ahead program window i (reached right).room labels m in
    after_window at labels m right w (window_of w.ending)

-- An operation has passed its checks, and its log word is written: it goes on, or exits.
unfoldable pub passed : Stepped → Bool
passed (Stepped.halted r) = eqb r.ending 1
passed (Stepped.going at labels m) = true

-- A CBRANCH opens a window, after its checks and log word; `right` is what the operation does by itself.
abbrev pub opens_window : Program → Position → (right : Stepped) → Bool
opens_window program at right = eqb (operation_at program.list at.index).opcode 5 && passed right

-- The other way of the CBRANCH at a position.
abbrev pub other_way_at : Program → Position → (memory : Memory) → Way
other_way_at program at m =
    let op : Operation = operation_at program.list at.index in
    other_way op at.index (value_at program.settings m op.input1)

-- One operation: a CBRANCH tries the other way.
unfoldable pub speculated : Program → (window : ℕ) → Position → (labels memory : Memory) → Stepped
speculated program window at labels m =
    let right : Stepped = stepped program at labels m in
    cond (opens_window program at right) (tried program window at labels m right (other_way_at program at m)) right
