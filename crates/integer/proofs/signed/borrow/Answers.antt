-- `integer::signed::borrow` meets its contract.
use Rattle.std.proofs.Common.{◌^◌, ◌<◌, sym, rules}
use mathlib.Core.Bool.{xor}
use Rattle.integer.proofs.Overflow.{borrow_by_signs}
use Rattle.integer.proofs.TwosComplement.{wrap_lt}
use Rattle.integer.specs.Operations.{int_sub}
use Rattle.integer.proofs.signed.borrow.Goals as goal

pub is_negative-s-requires : goal.is_negative-s-requires
unfolding int_sub
is_negative-s-requires c =
    let less : c.sub.result < 256 ^ c.args.size.bytes = rw c.sub.ensures (wrap_lt _ _) in
    search rules

pub returns : goal.returns
unfolding int_sub xor
returns c =
    rw (c.is_negative-s.ensures, c.is_negative.ensures, c.is_negative-2.ensures)
    (sym (borrow_by_signs _ _ _ c.args.size.in_range.0 c.requires.0 c.requires.1 _ c.sub.ensures))
