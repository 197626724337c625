-- `run_taint::leaks_at` meets its contract.
use native.Mathlib.Omega.{arith}
use mathlib.Core.Path.{sym}
use Rattle.arithmetic.specs.Operands.{divides}
use Rattle.run_plan.proofs.Opcodes.{of_opcode}
use Rattle.run_plan.proofs.Places.{in_words}
use Rattle.run_taint.proofs.Tainting.{division_no_branch, operands_tell, late_public, place}
use Rattle.run_taint.proofs.leaks_at.Goals as goal

pub opcode_at-opcode-requires : goal.opcode_at-opcode-requires
opcode_at-opcode-requires c =
    let pre = c.requires in
    let h = in_words _ _ pre.0 _ pre.1 in
    omega arith

-- ---- below the integer operations
pub sink_at-requires : goal.sink_at-requires
sink_at-requires c =
    let pre = c.requires in
    (in_words _ _ pre.0 _ pre.1, rw c.opcode_at-opcode.ensures at c.if-opcode-lt-FIRST_INTEGER.true)

-- ---- a division
pub varnode_at-requires : goal.varnode_at-requires
varnode_at-requires c =
    let pre = c.requires in
    (in_words _ _ pre.0 _ pre.1, omega arith)

pub has_secret-secret_dividend-requires : goal.has_secret-secret_dividend-requires
has_secret-secret_dividend-requires c =
    let pre = c.requires in
    rw c.varnode_at.ensures
    (place _ _ pre.0 _ pre.1 1 (omega arith)
    (λ z. division_no_branch _ (of_opcode divides c.opcode_at-opcode.ensures c.is_division.ensures c.if-is_division.true)))

pub varnode_at-requires-then-is_division : goal.varnode_at-requires-then-is_division
varnode_at-requires-then-is_division c =
    let pre = c.requires in
    (in_words _ _ pre.0 _ pre.1, omega arith)

pub has_secret-secret_divisor-requires : goal.has_secret-secret_divisor-requires
has_secret-secret_divisor-requires c =
    let pre = c.requires in
    rw c.varnode_at-then-is_division.ensures (place _ _ pre.0 _ pre.1 2 (omega arith) (λ z. absurd (omega arith)))

pub returns-then-is_division : goal.returns-then-is_division
returns-then-is_division c =
    rw (c.has_secret-secret_dividend.ensures, c.has_secret-secret_divisor.ensures, c.varnode_at.ensures, c.varnode_at-then-is_division.ensures)
    (operands_tell _ _ _ (of_opcode divides c.opcode_at-opcode.ensures c.is_division.ensures c.if-is_division.true))

-- ---- any other
pub returns : goal.returns
returns c =
    sym (late_public _ _ _ (rw c.opcode_at-opcode.ensures at c.if-opcode-lt-FIRST_INTEGER.false) (of_opcode divides c.opcode_at-opcode.ensures c.is_division.ensures c.if-is_division.false))
