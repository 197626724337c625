-- What holds of a call in which no fault was found.
use Prim.Native.Nat.{ℕ, ◌+◌, ◌^◌, ◌≤◌, ◌<◌}
use mathlib.Core.Bool.{Bool, true, false, cond, not, ◌&&◌}
use mathlib.Core.Path.{◌≡◌}
use native.Mathlib.Omega.{arith}
use borrow.Author.Tests.{leb-true, ltb-true, eqb-true, eqb-false, not-false}
use lib.Dec.{eqb, leb, ltb}
use Rattle.word.specs.Word.{is_size}
use Rattle.arithmetic.specs.Opcodes.{first_integer, last_integer, has_place}
use Rattle.arithmetic.specs.Operands.{divides, sizes_agree, Operands}
use Rattle.integer.proofs.Booleans.{both, passed, one_to_eight}
use Rattle.operation.specs.Numbers.{report_numbers}
use Rattle.undrelvoa_faults.specs.Faults.{no_address, sizes_present, value_fault, gather_fault, scatter_fault, settings_length, length_fault, report_fault, place_length, place_fault}

at_most_8 : (t : Bool) (n : ℕ) → cond t (is_size n) (eqb n 0) ≡ true → n ≤ 8
at_most_8 true n e = (one_to_eight n e).1
at_most_8 false n e = let z : n ≡ 0 = eqb-true n 0 e in omega arith

record Present (size size0 size1 : ℕ) : Type 0 where
  some : 1 ≤ size
  most : size ≤ 8
  some0 : 1 ≤ size0
  most0 : size0 ≤ 8
  most1 : size1 ≤ 8

present : (opcode size size0 size1 : ℕ) → sizes_present opcode size size0 size1 ≡ true → Present size size0 size1
unfolding sizes_present
present opcode size size0 size1 t =
    let last : Bool = cond (has_place opcode 2) (is_size size1) (eqb size1 0) in
    let e = both (is_size size && is_size size0) last t in
    let f = both (is_size size) (is_size size0) e.0 in
    record {
      some = (one_to_eight size f.0).0;
      most = (one_to_eight size f.0).1;
      some0 = (one_to_eight size0 f.1).0;
      most0 = (one_to_eight size0 f.1).1;
      most1 = at_most_8 (has_place opcode 2) size1 e.1;
    }

size_most : (size : ℕ) → is_size size ≡ true → size ≤ 8
size_most size t = (one_to_eight size t).1

room_left : (room : ℕ) → eqb room 0 ≡ false → 0 < room
room_left room e = let n : room ≡ 0 → ⊥ = eqb-false room 0 e in omega arith

nonzero : (d : Bool) (b : ℕ) → d && eqb b 0 ≡ false → d ≡ true → 0 < b
nonzero d b e t = room_left b (rw t at e)

-- each test of undrelvoa_value was passed
pub value_passed : (opcode size size0 size1 a b room : ℕ) → value_fault opcode size size0 size1 a b room ≡ 0
    → (0 < room) × Operands opcode size size0 size1 a b
unfolding value_fault
value_passed opcode size size0 size1 a b room e =
    let t1 = passed (eqb room 0) 11 _ (omega arith) e in
    let t2 = passed (not (leb first_integer opcode && leb opcode last_integer)) 21 _ (omega arith) t1.1 in
    let t3 = passed (not (sizes_present opcode size size0 size1)) 22 _ (omega arith) t2.1 in
    let t4 = passed (not (ltb a (256 ^ size0) && ltb b (256 ^ size1))) 24 _ (omega arith) t3.1 in
    let t5 = passed (not (sizes_agree no_address opcode size size0 size1)) 25 _ (omega arith) t4.1 in
    let t6 = passed (divides opcode && eqb b 0) 33 0 (omega arith) t5.1 in
    let p = present opcode size size0 size1 (not-false (sizes_present opcode size size0 size1) t3.0) in
    let v = both (ltb a (256 ^ size0)) (ltb b (256 ^ size1)) (not-false (ltb a (256 ^ size0) && ltb b (256 ^ size1)) t4.0) in (
      room_left room t1.0,
      record {
        some = p.some;
        most = p.most;
        some0 = p.some0;
        most0 = p.most0;
        most1 = p.most1;
        below0 = ltb-true a (256 ^ size0) v.0;
        below1 = ltb-true b (256 ^ size1) v.1;
        address_size = no_address;
        sizes = not-false (sizes_agree no_address opcode size size0 size1) t5.0;
        divisor = nonzero (divides opcode) b t6.0;
      },
    )

pub gather_passed : (order length offset size room : ℕ) → gather_fault order length offset size room ≡ 0
    → (0 < room) × (size ≤ 8) × (offset + size ≤ length)
unfolding gather_fault
gather_passed order length offset size room e =
    let t1 = passed (not (leb order 1)) 10 _ (omega arith) e in
    let t2 = passed (eqb room 0) 11 _ (omega arith) t1.1 in
    let t3 = passed (not (is_size size)) 22 _ (omega arith) t2.1 in
    let t4 = passed (not (leb (offset + size) length)) 24 0 (omega arith) t3.1 in (
      room_left room t2.0,
      size_most size (not-false (is_size size) t3.0),
      leb-true (offset + size) length (not-false (leb (offset + size) length) t4.0),
    )

pub scatter_passed : (order length offset size value : ℕ) → scatter_fault order length offset size value ≡ 0
    → (size ≤ 8) × (offset + size ≤ length)
unfolding scatter_fault
scatter_passed order length offset size value e =
    let t1 = passed (not (leb order 1)) 10 _ (omega arith) e in
    let t2 = passed (not (is_size size)) 22 _ (omega arith) t1.1 in
    let t3 = passed (not (leb (offset + size) length && ltb value (256 ^ size))) 24 0 (omega arith) t2.1 in
    let v = both (leb (offset + size) length) (ltb value (256 ^ size)) (not-false (leb (offset + size) length && ltb value (256 ^ size)) t3.0) in
    (size_most size (not-false (is_size size) t2.0), leb-true (offset + size) length v.0)

pub lengths_passed : (settings report : ℕ) → length_fault settings report ≡ 0 → (settings ≡ settings_length) × (report_numbers ≤ report)
unfolding length_fault
lengths_passed settings report e =
    let t = passed (not (eqb settings settings_length && leb report_numbers report)) 11 0 (omega arith) e in
    let v = both (eqb settings settings_length) (leb report_numbers report) (not-false (eqb settings settings_length && leb report_numbers report) t.0) in
    (eqb-true settings settings_length v.0, leb-true report_numbers report v.1)

-- a count of words that is long enough
long_enough : (least words : ℕ) → ◌≡◌ {A = ℕ} (cond (not (leb least words)) 11 0) 0 → least ≤ words
long_enough least words e =
    let t = passed (not (leb least words)) 11 0 (omega arith) e in
    leb-true least words (not-false (leb least words) t.0)

pub report_passed : (report : ℕ) → report_fault report ≡ 0 → report_numbers ≤ report
unfolding report_fault
report_passed report e = long_enough report_numbers report e

pub place_passed : (place : ℕ) → place_fault place ≡ 0 → place_length ≤ place
unfolding place_fault
place_passed place e = long_enough place_length place e
