-- The rules 21 to 26 of well-formed operations, each as a test that an operation breaks it.
use Rattle.std.specs.Prelude.{ℕ, ◌+◌, ◌/◌, ◌%◌, ◌^◌, Bool, false, cond, not, ◌&&◌, ◌||◌, List, [], ◌∷◌, eqb, leb, ltb, ℤ, pos, ◌+ℤ◌}
use Rattle.std.specs.Bool.{xor}
use Rattle.std.specs.Int.Signed.{lt_z}
use Rattle.word.specs.Word.{is_size}
use Rattle.integer.specs.Integers.{signed}
use Rattle.arithmetic.specs.Opcodes.{last_opcode, has_place, member}
use Rattle.arithmetic.specs.Operands.{sizes_agree}
use Rattle.operation.specs.declared.layout.Varnode.{Varnode}
use Rattle.operation.specs.Spaces.{Lengths}
use Rattle.operation.specs.Layout.{by_space, spare_at, opcode_at, descriptor_at, offset_at}

-- ---- 21 HEAD: opcode not 1 to 42, or a spare head byte not zero.

-- Operation i breaks 21.
unfoldable pub breaks_head : List ℕ → (i : ℕ) → Bool
breaks_head list i =
    not (leb 1 (opcode_at list i) && leb (opcode_at list i) last_opcode)
    || not (eqb (spare_at list i) 0)

-- ---- 22 SHAPE: a varnode where the opcode has none, or none where it has one; a non-zero descriptor with space not 1 to 4 or size not
-- 1 to 8; absent with non-zero offset.

-- A space of 1 to 4 and a size of 1 to 8.
unfoldable pub describes_varnode : (descriptor : ℕ) → Bool
describes_varnode descriptor = leb 1 (descriptor / 16) && leb (descriptor / 16) 4 && is_size (descriptor % 16)

-- A descriptor and its offset break 22; `wanted`: the opcode has a varnode at this place.
unfoldable pub breaks_shape : (wanted : Bool) (descriptor offset : ℕ) → Bool
breaks_shape wanted descriptor offset =
    xor wanted (not (eqb descriptor 0))
    || (not (eqb descriptor 0) && not (describes_varnode descriptor))
    || (eqb descriptor 0 && not (eqb offset 0))

-- The varnode at a place of operation i breaks it.
unfoldable pub breaks_shape_at : List ℕ → (i place : ℕ) → Bool
breaks_shape_at list i place = breaks_shape (has_place (opcode_at list i) place) (descriptor_at list i place) (offset_at list i place)

-- ---- opcodes by what their inputs are for

-- LOAD 2, STORE 3: input0 names a space, input1 is the pointer.
unfoldable pub accesses : (opcode : ℕ) → Bool
accesses opcode = member opcode (2 ∷ 3 ∷ [])

-- BRANCH 4, CBRANCH 5, CALL 7: input0 is the destination.
unfoldable pub branches : (opcode : ℕ) → Bool
branches opcode = member opcode (4 ∷ 5 ∷ 7 ∷ [])

-- BRANCHIND 6, CALLIND 8, RETURN 9: the value of input0 is the destination.
unfoldable pub jumps : (opcode : ℕ) → Bool
jumps opcode = member opcode (6 ∷ 8 ∷ 9 ∷ [])

-- ---- 23 PLACE: output in space 1; input0 of LOAD or STORE not a constant 2, 3 or 4; input0 of BRANCH, CBRANCH or CALL not in
-- space 1 or 4; input1 of SUBPIECE not constant.

-- A constant 2, 3 or 4.
unfoldable pub names_space : Varnode → Bool
names_space v = eqb v.space 1 && leb 2 v.offset && leb v.offset 4

-- In space 1 or 4.
unfoldable pub is_destination : Varnode → Bool
is_destination v = eqb v.space 1 || eqb v.space 4

-- The varnode v at a place breaks 23: 0 is the output's place, 1 is input0's, 2 is input1's; 11 is SUBPIECE.
unfoldable pub breaks_place : (opcode place : ℕ) → Varnode → Bool
breaks_place opcode place v =
    cond (eqb place 0) (eqb v.space 1)
    (cond (eqb place 1) (cond (accesses opcode) (not (names_space v)) (cond (branches opcode) (not (is_destination v)) false))
    (cond (eqb place 2) (cond (eqb opcode 11) (not (eqb v.space 1)) false) false))

-- ---- 24 RANGE, of the varnode v at a place

-- The length of a space, by its number; no other number is a space with bytes.
unfoldable pub length_of : Lengths → (space : ℕ) → ℕ
length_of lengths space = by_space space lengths.unique lengths.register lengths.ram

-- offset + size beyond the space, or a constant not below 256^size. An absent varnode is nowhere, so it is not beyond anything.
unfoldable pub beyond : Lengths → Varnode → Bool
beyond lengths v =
    cond (eqb v.space 0) false
    (cond (eqb v.space 1) (not (ltb v.offset (256 ^ v.size)))
    (not (leb (v.offset + v.size) (length_of lengths v.space))))

-- Branch destinations (input0 of BRANCH, CBRANCH, CALL) are exempt.
unfoldable pub breaks_range : Lengths → (opcode place : ℕ) → Varnode → Bool
breaks_range lengths opcode place v = cond (eqb place 1 && branches opcode) false (beyond lengths v)

-- ---- 25 SIZE: the sizes of output, input0 and input1, and the address size A, are not as the opcode's sentence asks.

-- The sizes of an operation break 25.
unfoldable pub breaks_size : (address_size opcode size size0 size1 : ℕ) → Bool
breaks_size address_size opcode size size0 size1 = not (sizes_agree address_size opcode size size0 size1)

-- ---- 26 TARGET: a constant destination, read as a signed 64-bit number and added to the operation's index, falls outside 0 to n.

-- A target: the index, and a signed 64-bit number added to it.
unfoldable pub relative_target : (i offset : ℕ) → ℤ
relative_target i offset = pos i +ℤ signed 8 offset

-- It falls outside 0 to n.
unfoldable pub target_outside : (n i offset : ℕ) → Bool
target_outside n i offset = lt_z (relative_target i offset) (pos 0) || lt_z (pos n) (relative_target i offset)

-- The destination v of operation i breaks 26.
unfoldable pub breaks_target : (n i opcode : ℕ) → Varnode → Bool
breaks_target n i opcode v = branches opcode && eqb v.space 1 && target_outside n i v.offset
