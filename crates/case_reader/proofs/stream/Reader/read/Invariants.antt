-- `case_reader::stream::Reader::read` meets its contract. The loop's invariant: the bytes passed were read (`ReadSo`).
use Rattle.case_reader.proofs.Lines.{ReadSo}
use Rattle.case_reader.proofs.stream.Reader.read.Given as goal

abbrev pub invariant-loop-b : goal.invariant-loop-b
invariant-loop-b l = ReadSo l.part l.b-index l.initial.self l.used l.self
