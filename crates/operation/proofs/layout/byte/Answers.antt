use Rattle.word.proofs.Powers.{pow_bits}
use Rattle.word.specs.Sum.{digit}
use Rattle.operation.proofs.layout.byte.Goals as goal

pub returns : goal.returns
unfolding digit
returns c = rw (c.from.ensures, pow_bits c.args.k)
