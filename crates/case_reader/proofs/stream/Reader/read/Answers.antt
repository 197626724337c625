use Rattle.std.proofs.Common.{refl, arith}
use Rattle.case_reader.proofs.Lines.{read_none, read_newline, read_byte, read_past, read_all}
use Rattle.case_reader.proofs.stream.Reader.read.Goals.{then-b-eq-NEWLINE, else-b-eq-NEWLINE+then-used-lt-LINE_ROOM, else-b-eq-NEWLINE+else-used-lt-LINE_ROOM}
use Rattle.case_reader.proofs.stream.Reader.read.Goals as goal

pub loop-b-init : goal.loop-b-init
loop-b-init c = read_none _ _ (omega arith)

pub loop-b-preserved : goal.loop-b-preserved
loop-b-preserved c =
    elim c.if-b-eq-NEWLINE.branch [
      | then-b-eq-NEWLINE w ↦ rw (w.self-is, w.used-is) (read_newline c.loop-b.invariant c.loop-b-test.true w.if-b-eq-NEWLINE.true _ (rw w.end_line.ensures.line c.loop-b.invariant.whole) w.end_line.ensures.number w.end_line.ensures.stage)
      | else-b-eq-NEWLINE+then-used-lt-LINE_ROOM w ↦ rw (w.self-is, w.used-is) (read_byte c.loop-b.invariant c.loop-b-test.true w.if-b-eq-NEWLINE.false w.if-used-lt-LINE_ROOM.true _ refl refl refl)
      | else-b-eq-NEWLINE+else-used-lt-LINE_ROOM w ↦ rw (w.self-is, w.used-is) (read_past c.loop-b.invariant c.loop-b-test.true w.if-b-eq-NEWLINE.false w.if-used-lt-LINE_ROOM.false)
    ]

pub invariant_of-self-2 : goal.invariant_of-self-2
invariant_of-self-2 c = omega (arith, c.loop-b.invariant.room, c.loop-b.invariant.whole)

pub returns : goal.returns
returns c = read_all _ _ (omega arith) c.loop-b.invariant
