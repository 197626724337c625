-- `integer::signed::carry` meets its contract.
use Rattle.std.proofs.Common.{◌^◌, ◌<◌, sym, mod-lt, rules}
use mathlib.Core.Bool.{xor}
use Rattle.integer.proofs.Overflow.{carry_by_signs}
use Rattle.word.proofs.Powers.{size_pos}
use Rattle.integer.specs.Operations.{int_add}
use Rattle.integer.proofs.signed.carry.Goals as goal

pub is_negative-s-requires : goal.is_negative-s-requires
unfolding int_add
is_negative-s-requires c =
    let less : c.add.result < 256 ^ c.args.size.bytes = rw c.add.ensures (mod-lt _ (size_pos _)) in
    search rules

pub returns : goal.returns
unfolding int_add xor
returns c =
    rw (c.is_negative-s.ensures, c.is_negative.ensures, c.is_negative-2.ensures)
    (sym (carry_by_signs _ _ _ c.args.size.in_range.0 c.requires.0 c.requires.1 _ c.add.ensures))
