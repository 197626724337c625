-- `case_run::print_run` meets its contract.
use Rattle.std.proofs.Common.{rules}
use Rattle.case_run.proofs.Running.{still_fits, as_labelled, logged_in, printed_as}
use Rattle.case_run.proofs.print_run.Goals as goal

pub put_outcome-requires : goal.put_outcome-requires
put_outcome-requires g c =
    let ran = c.labelled_run-report.ensures in
    let l = logged_in _ _ _ _ _ (as_labelled _ _ _ _ _ c.requires.fits ran.promise) in
    let bytes = rw (← c.reading.ensures.same) at (still_fits ran.same.0 c.requires.fits) in
    let marks = rw (← c.reading-2.ensures.same) at (still_fits ran.same.1 c.requires.fits_2) in
    (search rules, (l.0, (l.1, (bytes, (marks, c.requires.output_room_in_bounds)))))

pub returns-clause-printed : goal.returns-clause-printed
returns-clause-printed g c =
    printed_as (as_labelled _ _ _ _ _ c.requires.fits c.labelled_run-report.ensures.promise)
    (rw (← c.reading.ensures.same, ← c.reading-2.ensures.same) c.put_outcome.ensures)
