use mathlib.Core.Path.{refl}
use Rattle.operation.specs.Rules.{accesses}
use Rattle.machine.specs.Effect.{operation_at}
use Rattle.run_plan.proofs.Opcodes.{of_opcode}
use Rattle.run_labelled.specs.Turns.{offset_logged}
use Rattle.run_labelled.proofs.logged_offset.Goals as goal

pub returns-then-accesses : goal.returns-then-accesses
unfolding offset_logged operation_at
returns-then-accesses c =
    let e = of_opcode accesses c.opcode_at.ensures c.accesses.ensures c.if-accesses.true in
    rw e refl

pub returns : goal.returns
unfolding offset_logged operation_at
returns c =
    let e = of_opcode accesses c.opcode_at.ensures c.accesses.ensures c.if-accesses.false in
    rw e refl
