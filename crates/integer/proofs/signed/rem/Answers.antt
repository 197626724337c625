-- `integer::signed::rem` meets its contract.
use Rattle.integer.proofs.Division.{divides, srem_is}
use Rattle.integer.proofs.TwosComplement.{written}
use Rattle.integer.proofs.signed.rem.Goals as goal

pub wrapping_rem-requires : goal.wrapping_rem-requires
wrapping_rem-requires c =
    divides _ _ _ c.value_of-p.result c.value_of-q.result (record { sfits = c.value_of-p.type_inv }) (record { sfits = c.value_of-q.type_inv })
    c.value_of-p.ensures c.value_of-q.ensures c.requires.1 c.requires.2

pub returns : goal.returns
returns c =
    srem_is _ _ _ c.value_of-p.result c.value_of-q.result (record { sfits = c.value_of-p.type_inv }) (record { sfits = c.value_of-q.type_inv })
    c.value_of-p.ensures c.value_of-q.ensures _
    (written _ _ _ _ (record { sfits = c.wrapping_rem.type_inv }) c.wrapping_rem.ensures c.wrapped.ensures)
