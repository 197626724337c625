use mathlib.Core.Path.{sym, ◌∙◌}
use Rattle.machine.specs.Program.{big_endian, program_of}
use Rattle.run_memory.proofs.Spaces.{same_none, same_still}
use Rattle.run_execution.proofs.Running.{unfailed, unstopped, planned_from, begun, at_end, at_budget, at_stop, at_full, may_log, may_push, may_write, at_exit, at_next}
use Rattle.run_execution.proofs.run_from.Goals as goal

pub loop-i-init : goal.loop-i-init
loop-i-init c = (
  c.operation_count-count.ensures,
  same_none,
  begun _ _ _ _ _ _ c.requires.3 (λ j. (c.type_inv.list j).fits) c.requires.0 c.requires.1
      c.requires.2,
)

pub returns-then-i-count-clause-outcome : goal.returns-then-i-count-clause-outcome
returns-then-i-count-clause-outcome c =
    rw c.run_report.ensures (at_end _ _ _ _ _ _ _ _ _ _ _ c.loop-i.invariant.2 (c.if-i-count.true ∙ c.loop-i.invariant.0))

pub returns-then-executed-budget-clause-outcome : goal.returns-then-executed-budget-clause-outcome
returns-then-executed-budget-clause-outcome c =
    rw c.run_report-then-executed-budget.ensures (at_budget _ _ _ _ _ _ _ _ _ _ _ c.loop-i.invariant.2 (λ e. c.if-i-count.false (e ∙ sym c.loop-i.invariant.0)) c.if-executed-budget.true)

pub returns-in-Some-clause-outcome : goal.returns-in-Some-clause-outcome
returns-in-Some-clause-outcome c =
    rw (c.run_report-in-Some.ensures, c.number.ensures) (at_stop _ _ _ _ _ _ _ _ _ _ _ c.loop-i.invariant.2 (λ e. c.if-i-count.false (e ∙ sym c.loop-i.invariant.0))
    c.if-executed-budget.false c.reading.ensures.bytes _ (planned_from (program_of c.args.settings _) _ _ c.reading.ensures.same c.plan_at-p.ensures) _ (sym c.failure.ensures ∙ c.in-Some.is))

pub returns-then-full-clause-outcome : goal.returns-then-full-clause-outcome
returns-then-full-clause-outcome c =
    rw c.run_report-then-full.ensures
    (at_full _ _ _ _ _ _ _ _ _ _ _ c.loop-i.invariant.2 (λ e. c.if-i-count.false (e ∙ sym c.loop-i.invariant.0))
    c.if-executed-budget.false c.reading.ensures.bytes _ (planned_from (program_of c.args.settings _) _ _ c.reading.ensures.same c.plan_at-p.ensures)
    (unfailed _ _ c.failure.ensures c.in_default.not-Some) _ c.is_some.ensures c.if-full.true)

pub push-k-requires : goal.push-k-requires
push-k-requires c =
    let small = may_log _ _ _ _ _ _ _ _ _ _ _ c.loop-i.invariant.2 (λ e. c.if-i-count.false (e ∙ sym c.loop-i.invariant.0)) c.if-executed-budget.false c.reading.ensures.bytes _ (planned_from (program_of c.args.settings _) _ _ c.reading.ensures.same c.plan_at-p.ensures) in (
      small.0,
      small.1,
      may_push _ _ _ _ _ _ _ _ _ _ _ c.loop-i.invariant.2 (λ e. c.if-i-count.false (e ∙ sym c.loop-i.invariant.0)) c.if-executed-budget.false c.reading.ensures.bytes _ (planned_from (program_of c.args.settings _) _ _ c.reading.ensures.same c.plan_at-p.ensures)
          (unfailed _ _ c.failure.ensures c.in_default.not-Some) _ c.is_some.ensures c.if-full.false,
    )

pub returns-then-is_some-clause-outcome : goal.returns-then-is_some-clause-outcome
returns-then-is_some-clause-outcome c =
    rw c.run_report-then-is_some.ensures
    (at_exit _ _ _ _ _ _ _ _ _ _ _ c.loop-i.invariant.2 (λ e. c.if-i-count.false (e ∙ sym c.loop-i.invariant.0))
    c.if-executed-budget.false c.reading.ensures.bytes _ (planned_from (program_of c.args.settings _) _ _ c.reading.ensures.same c.plan_at-p.ensures)
    (unfailed _ _ c.failure.ensures c.in_default.not-Some) _ c.is_some.ensures c.if-full.false _ _ c.push-k.ensures.0 c.push-k.ensures.1
    (sym c.is_some-in-loop-i.ensures ∙ c.if-is_some.true))

pub write-requires : goal.write-requires
write-requires c =
    may_write _ _ _ _ _ _ _ _ _ _ _ c.loop-i.invariant.2 (λ e. c.if-i-count.false (e ∙ sym c.loop-i.invariant.0))
    c.if-executed-budget.false c.reading.ensures.bytes _ (planned_from (program_of c.args.settings _) _ _ c.reading.ensures.same c.plan_at-p.ensures)

pub returns-then-full-2-clause-outcome : goal.returns-then-full-2-clause-outcome
returns-then-full-2-clause-outcome c =
    rw c.run_report-then-full-2.ensures
    (at_full _ _ _ _ _ _ _ _ _ _ _ c.loop-i.invariant.2 (λ e. c.if-i-count.false (e ∙ sym c.loop-i.invariant.0))
    c.if-executed-budget.false c.reading.ensures.bytes _ (planned_from (program_of c.args.settings _) _ _ c.reading.ensures.same c.plan_at-p.ensures)
    (unstopped _ c.is_some-in-loop-i.ensures c.if-is_some.false) _ c.is_some.ensures c.if-full-2.true)

pub push-k-requires-in-loop-i : goal.push-k-requires-in-loop-i
push-k-requires-in-loop-i c =
    let small = may_log _ _ _ _ _ _ _ _ _ _ _ c.loop-i.invariant.2 (λ e. c.if-i-count.false (e ∙ sym c.loop-i.invariant.0)) c.if-executed-budget.false c.reading.ensures.bytes _ (planned_from (program_of c.args.settings _) _ _ c.reading.ensures.same c.plan_at-p.ensures) in (
      small.0,
      small.1,
      may_push _ _ _ _ _ _ _ _ _ _ _ c.loop-i.invariant.2 (λ e. c.if-i-count.false (e ∙ sym c.loop-i.invariant.0)) c.if-executed-budget.false c.reading.ensures.bytes _ (planned_from (program_of c.args.settings _) _ _ c.reading.ensures.same c.plan_at-p.ensures)
          (unstopped _ c.is_some-in-loop-i.ensures c.if-is_some.false) _ c.is_some.ensures c.if-full-2.false,
    )

pub loop-i-preserved : goal.loop-i-preserved
unfolding big_endian
loop-i-preserved c = (
  c.loop-i.invariant.0,
  same_still c.loop-i.invariant.1 c.write.ensures.same,
  at_next _ _ _ _ _ _ _ _ _ _ _ c.loop-i.invariant.2 (λ e. c.if-i-count.false (e ∙ sym c.loop-i.invariant.0))
      c.if-executed-budget.false c.reading.ensures.bytes _ (planned_from (program_of c.args.settings _) _ _ c.reading.ensures.same c.plan_at-p.ensures)
      (unstopped _ c.is_some-in-loop-i.ensures c.if-is_some.false) _ c.is_some.ensures c.if-full-2.false _ _ c.push-k-in-loop-i.ensures.0 c.push-k-in-loop-i.ensures.1
      (sym c.is_some-in-loop-i.ensures ∙ c.if-is_some.false) _ c.write.ensures.written,
)
