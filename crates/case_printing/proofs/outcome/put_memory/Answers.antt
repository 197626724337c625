-- `case_printing::outcome::put_memory` meets its contract.
use Rattle.std.proofs.Common.{arith, rules}
use Rattle.machine.specs.Memory.{lengths_of}
use Rattle.case_printing.specs.Outcome.{memory_text}
use Rattle.case_printing.proofs.Appending.{then}
use Rattle.case_printing.proofs.outcome.put_memory.Goals as goal

pub put_space-requires : goal.put_space-requires
unfolding lengths_of
put_space-requires g c = search rules

pub put_space-requires-2 : goal.put_space-requires-2
unfolding lengths_of
put_space-requires-2 g c = search rules

pub put_space-requires-3 : goal.put_space-requires-3
unfolding lengths_of
put_space-requires-3 g c = search rules

pub returns : goal.returns
unfolding memory_text lengths_of
returns g c =
    let fits = c.requires.fits in record {
      appended = then (then c.put_space.ensures.appended c.put_space-2.ensures.appended) c.put_space-3.ensures.appended;
      upper_bound = omega (arith, c.put_space.ensures.upper_bound, c.put_space-2.ensures.upper_bound, c.put_space-3.ensures.upper_bound, fits.unique, fits.register, fits.ram);
    }
