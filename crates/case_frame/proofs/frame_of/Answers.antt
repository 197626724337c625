use Rattle.std.proofs.Common.{arith}
use Rattle.std.proofs.lemmas.Bool.Decides.{nat_tests}
use Rattle.case_frame.specs.Frames.{frame_of}
use Rattle.case_frame.proofs.Numbered.{numbered}
use Rattle.case_frame.proofs.frame_of.Goals as goal

pub returns-then-s-lt-BYTE_DIGITS-clause-numbers : goal.returns-then-s-lt-BYTE_DIGITS-clause-numbers
unfolding frame_of
returns-then-s-lt-BYTE_DIGITS-clause-numbers c = numbered c.args.s.now _ (grind (arith, nat_tests))

pub returns-clause-numbers : goal.returns-clause-numbers
unfolding frame_of
returns-clause-numbers c = numbered c.args.s.now _ (grind (arith, nat_tests))
