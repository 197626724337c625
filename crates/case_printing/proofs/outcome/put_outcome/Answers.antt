-- `case_printing::outcome::put_outcome` meets its contract.
use Rattle.std.proofs.Common.{length-take-le, arith, rules}
use Rattle.case_printing.specs.Outcome.{outcome_text}
use Rattle.case_printing.proofs.Appending.{then}
use Rattle.case_printing.proofs.outcome.put_outcome.Goals as goal

pub put_log-requires : goal.put_log-requires
put_log-requires g c =
    let log = length-take-le c.args.report.logged c.args.log.now c.requires.logged_in_bounds in
    (search rules, omega (arith, log))

pub put_memory-requires : goal.put_memory-requires
put_memory-requires g c =
    let log = length-take-le c.args.report.logged c.args.log.now c.requires.logged_in_bounds in
    (search rules, (c.requires.fits, omega (arith, log)))

pub put_memory-requires-2 : goal.put_memory-requires-2
put_memory-requires-2 g c =
    let log = length-take-le c.args.report.logged c.args.log.now c.requires.logged_in_bounds in
    (search rules, (c.requires.fits_2, omega (arith, log)))

pub returns : goal.returns
unfolding outcome_text
returns g c =
    then (then (then c.put_report.ensures.appended c.put_log.ensures.appended) c.put_memory.ensures.appended) c.put_memory-2.ensures.appended
