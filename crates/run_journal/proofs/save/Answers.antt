-- `run_journal::save` meets its contract.
use mathlib.Core.Path.{ap, ◌∙◌}
use lib.Seq.{sets}
use Rattle.run_journal.proofs.Targets.{target_placed}
use Rattle.run_journal.proofs.Undoing.{placed_with, entry_read}
use Rattle.machine.specs.Program.{program_of}
use Rattle.run_journal.proofs.save.Goals as goal

pub value_at-bytes-requires : goal.value_at-bytes-requires
value_at-bytes-requires c =
    let pre = c.requires in
    rw c.target_before-target.ensures (target_placed (program_of c.args.settings _) _ _ pre.0 pre.1)

pub value_at-labels-requires : goal.value_at-labels-requires
value_at-labels-requires c =
    let pre = c.requires in
    rw c.target_before-target.ensures (placed_with _ pre.3 (target_placed (program_of c.args.settings _) _ _ pre.0 pre.1))

pub put_entry-requires : goal.put_entry-requires
put_entry-requires c =
    let pre = c.requires in
    let p = target_placed (program_of c.args.settings _) _ _ pre.0 pre.1 in
    (pre.4, rw c.target_before-target.ensures p.known, rw c.target_before-target.ensures p.size)

pub returns : goal.returns
returns c =
    c.put_entry.ensures
    ∙ ap (sets _ _) (entry_read _ _ _ _ c.target_before-target.ensures _ _ c.value_at-bytes.ensures c.value_at-labels.ensures)
