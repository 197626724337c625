-- `arithmetic::opcodes::has_bit` meets its contract.
use mathlib.Core.Path.{refl}
use borrow.Author.Tests.{le-ltb}
use Rattle.word.specs.Sum.{digit}
use Rattle.arithmetic.proofs.Table.{no_bit}
use Rattle.arithmetic.proofs.opcodes.has_bit.Goals as goal

pub returns-then-opcode-lt64 : goal.returns-then-opcode-lt64
unfolding digit
returns-then-opcode-lt64 c = refl

pub returns-else-opcode-lt64 : goal.returns-else-opcode-lt64
returns-else-opcode-lt64 c =
    let a = c.args in
    let past = c.if-opcode-lt64.false in
    rw (le-ltb a.opcode 64 past, no_bit a.set a.opcode 64 c.ranges.set.fits past) refl
