use Rattle.std.proofs.Common.{refl, arith}
use Rattle.std.proofs.Math.ListN.{length-take}
use Rattle.machine.specs.Memory.{lengths_of}
use Rattle.case_reader.specs.Buffers.{memory_in}
use Rattle.case_spaces.proofs.used.Goals as goal

pub returns-clause-held : goal.returns-clause-held
unfolding memory_in
returns-clause-held c = refl

pub returns-clause-fits : goal.returns-clause-fits
unfolding lengths_of
returns-clause-fits c =
    let l = c.args.lengths in
    let r = c.args.rooms.now in
    record {
      unique = omega (arith, length-take l.unique r.unique, c.requires.unique);
      register = omega (arith, length-take l.register r.register, c.requires.register);
      ram = omega (arith, length-take l.ram r.ram, c.requires.ram);
    }
