-- `run_memory::labels::relabel` meets its contract.
use Rattle.run_memory.proofs.Relabelling.{old_fits, relabelled}
use Rattle.run_memory.proofs.labels.relabel.Goals as goal

pub move_counts-requires : goal.move_counts-requires
move_counts-requires c =
    let p = c.requires in
    (p.0, p.1, p.2, p.3, old_fits _ _ _ _ c.args.new (λ j. (c.slice_known-1.given j).fits) p.2 p.4, p.5)

pub returns : goal.returns
returns c =
    let p = c.requires in (
      c.scatter.ensures,
      rw c.scatter.ensures
          (relabelled c.args.labels.now _ _ c.args.old _ (λ j. (c.slice_known-1.given j).fits) p.2 p.4 c.move_counts.ensures),
    )
