-- `integer::signed::div` meets its contract.
use Rattle.integer.proofs.Division.{divides, sdiv_is}
use Rattle.integer.proofs.TwosComplement.{written}
use Rattle.integer.proofs.signed.div.Goals as goal

pub wrapping_div-requires : goal.wrapping_div-requires
wrapping_div-requires c =
    divides _ _ _ c.value_of-p.result c.value_of-q.result (record { sfits = c.value_of-p.type_inv }) (record { sfits = c.value_of-q.type_inv })
    c.value_of-p.ensures c.value_of-q.ensures c.requires.1 c.requires.2

pub returns : goal.returns
returns c =
    sdiv_is _ _ _ c.value_of-p.result c.value_of-q.result (record { sfits = c.value_of-p.type_inv }) (record { sfits = c.value_of-q.type_inv })
    c.value_of-p.ensures c.value_of-q.ensures _ c.args.size.in_range.1
    (written _ _ _ _ (record { sfits = c.wrapping_div.type_inv }) c.wrapping_div.ensures c.wrapped.ensures)
