use Rattle.std.proofs.Common.{refl, sym}
use Rattle.case_reader.specs.Case.{after_line}
use Rattle.case_reader.specs.Buffers.{progress_in}
use Rattle.case_reader.proofs.line.Stage.feed.Goals as goal

pub returns-in-Nothing : goal.returns-in-Nothing
unfolding progress_in after_line
returns-in-Nothing c = rw c.in-Nothing.is c.begin.ensures

pub returns-in-Err : goal.returns-in-Err
unfolding progress_in after_line
returns-in-Err c = rw c.in-Reading.is (sym (c.in-Err.ensures.added c.args.number))

pub returns-in_default : goal.returns-in_default
unfolding progress_in after_line
returns-in_default c = rw c.in-Reading.is (sym (c.in_default.ensures.added c.args.number))

pub returns-in-BadLine : goal.returns-in-BadLine
unfolding progress_in after_line
returns-in-BadLine c = rw c.in-BadLine.is refl
