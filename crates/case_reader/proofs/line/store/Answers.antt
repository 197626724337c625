use Rattle.std.proofs.Common.{arith, ◌≡◌, refl, ◌∙◌}
use Rattle.case_reader.proofs.Storage.{Whole, inside, extent, stored_unique, stored_register, stored_ram}
use Rattle.case_reader.proofs.line.store.Goals as goal

pub returns-then-not-within-clause-err : goal.returns-then-not-within-clause-err
returns-then-not-within-clause-err c =
    let w : Whole c.args.rooms.now = record { unique = omega arith; register = omega arith; ram = omega arith } in
    (extent _ c.requires.fits _ _ _ c.length_of.ensures c.within.ensures _ w ∙ c.if-not-within.true, refl)

pub slice_bounds-store_bytes-end : goal.slice_bounds-store_bytes-end
slice_bounds-store_bytes-end c =
    let i = inside _ c.requires.fits _ _ _ c.length_of.ensures c.within.ensures c.requires.on_line.0 c.if-not-within.false in omega (arith, i.most)

pub slice_bounds-store_bytes-end-in-3 : goal.slice_bounds-store_bytes-end-in-3
slice_bounds-store_bytes-end-in-3 c =
    let i = inside _ c.requires.fits _ _ _ c.length_of.ensures c.within.ensures c.requires.on_line.0 c.if-not-within.false in omega (arith, i.most)

pub slice_bounds-store_bytes-end-in_default : goal.slice_bounds-store_bytes-end-in_default
slice_bounds-store_bytes-end-in_default c =
    let i = inside _ c.requires.fits _ _ _ c.length_of.ensures c.within.ensures c.requires.on_line.0 c.if-not-within.false in omega (arith, i.most)

pub returns-in-2-clause-ok : goal.returns-in-2-clause-ok
returns-in-2-clause-ok c =
    let w : Whole c.args.rooms.now = record { unique = omega arith; register = omega arith; ram = omega arith } in
    stored_unique _ c.requires.fits _ _ _ c.length_of.ensures c.within.ensures _ w c.requires.on_line.0 c.if-not-within.false _ c.in-2.is c.store_bytes.ensures

pub returns-in-3-clause-ok : goal.returns-in-3-clause-ok
returns-in-3-clause-ok c =
    let w : Whole c.args.rooms.now = record { unique = omega arith; register = omega arith; ram = omega arith } in
    stored_register _ c.requires.fits _ _ _ c.length_of.ensures c.within.ensures _ w c.requires.on_line.0 c.if-not-within.false _ c.in-3.is c.store_bytes-in-3.ensures

pub returns-in_default-clause-ok : goal.returns-in_default-clause-ok
returns-in_default-clause-ok c =
    let w : Whole c.args.rooms.now = record { unique = omega arith; register = omega arith; ram = omega arith } in
    let i = inside _ c.requires.fits _ _ _ c.length_of.ensures c.within.ensures c.requires.on_line.0 c.if-not-within.false in
    let e : c.args.space ≡ 4 = omega (arith, i.low, i.high) in
    stored_ram _ c.requires.fits _ _ _ c.length_of.ensures c.within.ensures _ w c.requires.on_line.0 c.if-not-within.false _ e c.store_bytes-in_default.ensures
