-- `integer::unsigned::piece` meets its contract.
use Rattle.std.proofs.Common.{arith}
use Rattle.word.proofs.Powers.{shifted_bytes}
use Rattle.integer.specs.Operations.{piece}
use Rattle.integer.proofs.unsigned.piece.Goals as goal

pub overflow_add-result : goal.overflow_add-result
overflow_add-result c = record { fits = rw (shifted_bytes c.args.a c.args.size1 (omega arith)) c.requires.1 }

pub returns : goal.returns
unfolding piece
returns c = rw (shifted_bytes c.args.a c.args.size1 (omega arith))
