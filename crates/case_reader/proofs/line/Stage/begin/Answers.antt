use Rattle.std.proofs.Common.{sym}
use Rattle.case_reader.specs.Buffers.{progress_in}
use Rattle.case_reader.proofs.line.Stage.begin.Goals as goal

pub returns-in-Ok : goal.returns-in-Ok
unfolding progress_in
returns-in-Ok c = sym (c.in-Ok.ensures c.args.number)

pub returns-in-Err : goal.returns-in-Err
unfolding progress_in
returns-in-Err c = sym (c.in-Err.ensures c.args.number)
