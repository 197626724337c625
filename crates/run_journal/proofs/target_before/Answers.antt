-- `run_journal::target_before` meets its contract.
use native.Mathlib.Omega.{arith}
use mathlib.Core.Path.{sym, ◌∙◌}
use borrow.Author.Tests.{eq-eqb, ne_eqb}
use Rattle.run_plan.proofs.Places.{in_words}
use Rattle.run_journal.proofs.Targets.{not_the_end, before_end, before-store, before_other}
use Rattle.run_journal.proofs.target_before.Goals as goal

pub returns-then-i-operation_count : goal.returns-then-i-operation_count
returns-then-i-operation_count c = c.absent.ensures ∙ before_end _ _ _ _ (c.if-i-operation_count.true ∙ c.operation_count.ensures)

pub opcode_at-requires : goal.opcode_at-requires
opcode_at-requires c =
    let pre = c.requires in
    let w = in_words _ _ pre.0 _ (not_the_end _ c.operation_count.ensures pre.1 c.if-i-operation_count.false) in
    omega arith

pub returns-then-opcode_at-eq-STORE : goal.returns-then-opcode_at-eq-STORE
returns-then-opcode_at-eq-STORE c =
    c.stored_at.ensures
    ∙ before-store _ _ _ _ (λ e. c.if-i-operation_count.false (e ∙ sym c.operation_count.ensures)) (eq-eqb _ 3 (sym c.opcode_at.ensures ∙ c.if-opcode_at-eq-STORE.true))

pub varnode_at-requires : goal.varnode_at-requires
varnode_at-requires c =
    let pre = c.requires in
    (in_words _ _ pre.0 _ (not_the_end _ c.operation_count.ensures pre.1 c.if-i-operation_count.false), omega arith)

pub returns : goal.returns
returns c =
    c.varnode_at.ensures
    ∙ before_other _ _ _ _ (λ e. c.if-i-operation_count.false (e ∙ sym c.operation_count.ensures))
    (ne_eqb _ 3 (λ e. c.if-opcode_at-eq-STORE.false (c.opcode_at.ensures ∙ e)))
