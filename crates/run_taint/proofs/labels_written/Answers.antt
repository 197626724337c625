-- `run_taint::labels_written` meets its contract.
use native.Mathlib.Omega.{arith}
use Rattle.arithmetic.specs.Opcodes.{member}
use Rattle.integer.specs.Operations.{flag}
use Rattle.machine.specs.Effect.{operation_at}
use Rattle.machine.specs.Conditions.{moving}
use Rattle.run_plan.proofs.Opcodes.{of_opcode}
use Rattle.run_plan.proofs.Places.{in_words}
use Rattle.run_taint.proofs.LabelWords.{place_source, word_early, moves_bytes, some_output, place_moved, word_moved, place_input, flag_small, whole_most, word_whole}
use Rattle.run_taint.proofs.labels_written.Goals as goal

pub opcode_at-opcode-requires : goal.opcode_at-opcode-requires
opcode_at-opcode-requires c =
    let pre = c.requires in
    let h = in_words _ _ pre.valid _ pre.index in
    omega arith

-- ---- COPY, LOAD, STORE
pub source_at-source-requires : goal.source_at-source-requires
source_at-source-requires c =
    let pre = c.requires in
    in_words _ _ pre.valid _ pre.index

pub labels_at-requires : goal.labels_at-requires
labels_at-requires c =
    place_source _ _ _ _ c.requires _ c.source_at-source.ensures

pub returns-then-opcode-lt-FIRST_INTEGER : goal.returns-then-opcode-lt-FIRST_INTEGER
returns-then-opcode-lt-FIRST_INTEGER c =
    let bytes = c.are_bytes.ensures in
    word_early _ _ _ _ c.requires _ bytes (rw c.opcode_at-opcode.ensures at c.if-opcode-lt-FIRST_INTEGER.true) _ c.source_at-source.ensures _ c.labels_at.ensures

-- ---- PIECE, SUBPIECE, INT_ZEXT, INT_SEXT
pub varnode_at-output-requires : goal.varnode_at-output-requires
varnode_at-output-requires c =
    let pre = c.requires in
    (in_words _ _ pre.valid _ pre.index, omega arith)

pub ordered-requires : goal.ordered-requires
ordered-requires c =
    let move = moves_bytes _ _ _ _ c.requires (rw c.opcode_at-opcode.ensures at c.if-opcode-lt-FIRST_INTEGER.false)
    (of_opcode (λ n. member n moving) c.opcode_at-opcode.ensures c.moves.ensures c.if-moves.true) in
    rw c.varnode_at-output.ensures (some_output _ _ _ move, (place_moved _ _ _ move 0 (omega arith)).size)

pub returns-then-moves : goal.returns-then-moves
unfolding operation_at
returns-then-moves c =
    word_moved _ _ _ _ (of_opcode (λ n. member n moving) c.opcode_at-opcode.ensures c.moves.ensures c.if-moves.true)
    (rw c.opcode_at-opcode.ensures at c.if-opcode-lt-FIRST_INTEGER.false) _ c.moved_word-word.ensures _ (rw c.varnode_at-output.ensures at c.ordered.ensures.bytes)

-- ---- all others
pub varnode_at-requires : goal.varnode_at-requires
varnode_at-requires c =
    let pre = c.requires in
    (in_words _ _ pre.valid _ pre.index, omega arith)

pub has_secret-first-requires : goal.has_secret-first-requires
has_secret-first-requires c =
    rw c.varnode_at.ensures (place_input _ _ _ _ c.requires 1 (omega arith))

pub varnode_at-requires-2 : goal.varnode_at-requires-2
varnode_at-requires-2 c =
    let pre = c.requires in
    (in_words _ _ pre.valid _ pre.index, omega arith)

pub has_secret-second-requires : goal.has_secret-second-requires
has_secret-second-requires c =
    rw c.varnode_at-2.ensures (place_input _ _ _ _ c.requires 2 (omega arith))

pub each_label-requires : goal.each_label-requires
unfolding flag
each_label-requires c = rw c.from.ensures (flag_small _)

pub returns : goal.returns
unfolding operation_at flag
returns c =
    let pre = c.requires in
    let none = of_opcode (λ n. member n moving) c.opcode_at-opcode.ensures c.moves.ensures c.if-moves.false in
    word_whole _ _ _ _ none (whole_most _ _ _ _ pre none)
    _ _ (rw c.varnode_at.ensures at c.has_secret-first.ensures) (rw c.varnode_at-2.ensures at c.has_secret-second.ensures)
    _ (rw c.from.ensures at c.each_label.ensures)
