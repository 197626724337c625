use Rattle.std.proofs.Common.{rules}
use Rattle.case_run.specs.Run.{outcome}
use Rattle.case_reader.specs.Buffers.{case_in}
use Rattle.case_run.proofs.Running.{printed_as}
use Rattle.case_spaces.proofs.run_case.Goals as goal

pub print_run-requires : goal.print_run-requires
print_run-requires g c = (search rules, (c.used.ensures.fits, (c.used-2.ensures.fits, c.requires)))

pub returns : goal.returns
unfolding outcome case_in
returns g c = printed_as (rw (c.used.ensures.held, c.used-2.ensures.held)) c.print_run.ensures.printed
