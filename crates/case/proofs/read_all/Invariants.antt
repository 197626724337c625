use Rattle.case.proofs.Reading.{ReadOf}
use Rattle.case.proofs.read_all.Given as goal

-- The reader holds the parts read so far.
abbrev pub invariant-loop : goal.invariant-loop
invariant-loop g l = ReadOf (g.R.Read.remaining l.initial.from) (g.R.Read.remaining l.from) l.reader
