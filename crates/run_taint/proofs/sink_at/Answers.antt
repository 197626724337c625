-- `run_taint::sink_at` meets its contract.
use mathlib.Core.Path.{◌≡◌, refl, sym, ◌∙◌}
use mathlib.Core.Bool.{true, false, ◌||◌}
use lib.Dec.{eqb}
use Rattle.operation.specs.Rules.{accesses}
use Rattle.run_taint.proofs.Tainting.{early_no_division, watched_tested, sink_tells}
use Rattle.run_taint.proofs.sink_at.Goals as goal

pub returns-then-accesses-opcode : goal.returns-then-accesses-opcode
returns-then-accesses-opcode c =
    let n = c.opcode_at-opcode.result in
    let e : accesses n || eqb n 5 ≡ true = rw (← c.accesses.ensures) c.if-accesses-opcode.true in
    let h = sink_tells _ _ (early_no_division _ c.requires.1) _ (c.varnode_at.ensures ∙ rw (← c.opcode_at-opcode.ensures) (sym (watched_tested n _ _ e))) in
    record { leak = h.0; place = h.1 }

pub returns-then-jumps : goal.returns-then-jumps
returns-then-jumps c =
    let h = sink_tells _ _ (early_no_division _ c.requires.1) _
    (c.varnode_at-then-jumps.ensures ∙ rw (← c.opcode_at-opcode.ensures, ← c.jumps.ensures, c.if-jumps.true) refl) in
    record { leak = h.0; place = h.1 }

pub returns : goal.returns
returns c =
    let n = c.opcode_at-opcode.result in
    let e : accesses n || eqb n 5 ≡ false = rw (← c.accesses.ensures) c.if-accesses-opcode.false in
    let h = sink_tells _ _ (early_no_division _ c.requires.1) _
    (c.absent.ensures ∙ rw (← c.opcode_at-opcode.ensures, ← c.jumps.ensures, c.if-jumps.false, e) refl) in
    record { leak = h.0; place = h.1 }
