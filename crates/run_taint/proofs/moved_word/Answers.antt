-- `run_taint::moved_word` meets its contract.
use native.Mathlib.Omega.{arith}
use mathlib.Core.Path.{sym, ◌∙◌}
use Rattle.run_plan.proofs.Places.{in_words}
use Rattle.run_taint.proofs.LabelWords.{place_moved, some_input0, some_input1, size_extended, piece_fits, moved-piece, moved-subpiece, moved_extended, moved_whole}
use Rattle.run_taint.proofs.moved_word.Goals as goal

pub opcode_at-opcode-requires : goal.opcode_at-opcode-requires
opcode_at-opcode-requires c =
    let pre = c.requires in
    let h = in_words _ _ pre.valid _ pre.index in
    omega arith

pub varnode_at-output-requires : goal.varnode_at-output-requires
varnode_at-output-requires c =
    let pre = c.requires in
    (in_words _ _ pre.valid _ pre.index, omega arith)

pub varnode_at-input0-requires : goal.varnode_at-input0-requires
varnode_at-input0-requires c =
    let pre = c.requires in
    (in_words _ _ pre.valid _ pre.index, omega arith)

pub varnode_at-input1-requires : goal.varnode_at-input1-requires
varnode_at-input1-requires c =
    let pre = c.requires in
    (in_words _ _ pre.valid _ pre.index, omega arith)

pub labels_of-a-requires : goal.labels_of-a-requires
labels_of-a-requires c =
    let pre = c.requires in
    rw c.varnode_at-input0.ensures (place_moved _ _ _ pre 1 (omega arith), some_input0 _ _ _ pre)

-- ---- PIECE
pub labels_of-requires : goal.labels_of-requires
labels_of-requires c =
    let pre = c.requires in
    rw c.varnode_at-input1.ensures (place_moved _ _ _ pre 2 (omega arith), some_input1 _ _ _ pre (sym c.opcode_at-opcode.ensures ∙ c.in-10.is))

pub piece-requires : goal.piece-requires
piece-requires c =
    rw c.varnode_at-input1.ensures
    (piece_fits _ _ _ c.requires _ _ (rw c.varnode_at-input0.ensures at c.labels_of-a.ensures) (sym c.opcode_at-opcode.ensures ∙ c.in-10.is)
    _ (rw c.varnode_at-input1.ensures at c.labels_of.ensures))

-- ---- SUBPIECE
pub subpiece-requires : goal.subpiece-requires
subpiece-requires c =
    rw c.varnode_at-output.ensures (place_moved _ _ _ c.requires 0 (omega arith)).size

-- ---- INT_SEXT
pub extended_word-requires : goal.extended_word-requires
extended_word-requires c =
    let pre = c.requires in
    let word = rw c.varnode_at-input0.ensures at c.labels_of-a.ensures in
    rw c.varnode_at-input0.ensures (some_input0 _ _ _ pre, size_extended _ _ _ pre (sym c.opcode_at-opcode.ensures ∙ c.in-20.is), word.below)

pub returns-in-10 : goal.returns-in-10
returns-in-10 c =
    moved-piece _ _ _ c.requires _ _ (rw c.varnode_at-input0.ensures at c.labels_of-a.ensures) (sym c.opcode_at-opcode.ensures ∙ c.in-10.is)
    _ (rw c.varnode_at-input1.ensures at c.labels_of.ensures) _ (rw c.varnode_at-input1.ensures at c.piece.ensures)

pub returns-in-11 : goal.returns-in-11
returns-in-11 c =
    moved-subpiece _ _ _ c.requires _ _ (rw c.varnode_at-input0.ensures at c.labels_of-a.ensures) (sym c.opcode_at-opcode.ensures ∙ c.in-11.is)
    _ (rw (c.varnode_at-output.ensures, c.varnode_at-input1.ensures) at c.subpiece.ensures)

pub returns-in-20 : goal.returns-in-20
returns-in-20 c =
    moved_extended _ _ _ c.requires _ _ (rw c.varnode_at-input0.ensures at c.labels_of-a.ensures) (sym c.opcode_at-opcode.ensures ∙ c.in-20.is)
    _ (rw c.varnode_at-input0.ensures at c.extended_word.ensures)

-- ---- INT_ZEXT
pub returns-in_default : goal.returns-in_default
returns-in_default c =
    let r = c.in_default.in_default-own.rest in
    moved_whole _ _ _ c.requires _ _ (rw c.varnode_at-input0.ensures at c.labels_of-a.ensures)
    (λ e. r.0.0.1 (c.opcode_at-opcode.ensures ∙ e)) (λ e. r.0.1 (c.opcode_at-opcode.ensures ∙ e)) (λ e. r.1 (c.opcode_at-opcode.ensures ∙ e))
