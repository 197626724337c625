use Rattle.case_output.proofs.Finishing.{nothing_printed, bad_printed, run-printed, rest_printed}
use Rattle.case_output.proofs.finish.Goals as goal

pub returns-in-Nothing : goal.returns-in-Nothing
returns-in-Nothing g c = λ text h. nothing_printed text c.args.reader.now h c.in-Nothing.is c.next_number.ensures c.put_bad.ensures

pub returns-in-Reading : goal.returns-in-Reading
returns-in-Reading g c = λ text h. run-printed text c.args.reader.now h c.in-Reading.is c.if-reader-eq0.true c.run_case.ensures

pub returns-in-Reading-2 : goal.returns-in-Reading-2
returns-in-Reading-2 g c =
    λ text h. rest_printed text c.args.reader.now h c.in-Reading-2.is c.if-reader-eq0.false c.next_number-in-Reading-2.ensures c.put_bad-in-Reading-2.ensures

pub returns-in-BadLine : goal.returns-in-BadLine
returns-in-BadLine g c = λ text h. bad_printed text c.args.reader.now h c.in-BadLine.is c.put_bad-in-BadLine.ensures
