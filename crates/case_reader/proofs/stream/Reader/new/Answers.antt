use Rattle.std.proofs.Common.{ℕ, refl, sym}
use Rattle.std.proofs.Math.Seq.{take-nil}
use Rattle.case_reader.specs.Limits.{line_room}
use Rattle.case_reader.specs.Lines.{no_line, lines_read, lines_of, rest_of}
use Rattle.case_reader.specs.Buffers.{progress_in}
use Rattle.case_reader.proofs.stream.Reader.new.Goals as goal

pub returns : goal.returns
unfolding progress_in no_line lines_read lines_of rest_of
returns c = record { rest = sym (take-nil {A = ℕ} line_room); lines = refl }
