-- The papers' marked results, which are known answers: each as the effect of one operation, given by its words, on stated bytes of the
-- register space, in both byte orders; the branch has no bytes.
use Rattle.std.specs.Prelude.{ℕ, List, [], ◌∷◌, ◌++◌, ◌≡◌, replicate}
use Rattle.std.proofs.lemmas.List.Edits.{sets}
use Rattle.operation.specs.declared.layout.Settings.{Settings}
use Rattle.operation.specs.Layout.{all_one, words_per_operation}
use Rattle.machine.specs.Memory.{spaces}
use Rattle.machine.specs.Calls.{plain_outcome, plain_run}

-- An operation in its words: the head, the offsets of output, input0 and input1; any other word is 0.
abbrev pub words : (head output input0 input1 : ℕ) → List ℕ
words head output input0 input1 = sets (replicate words_per_operation 0) 0 (head ∷ output ∷ input0 ∷ input1 ∷ [])

-- A byte order, address size 8, wordsizes 1.
abbrev pub settings : (order : ℕ) → Settings
settings order = record { order = order; address_size = 8; wordsizes = all_one }

-- A run of the operation alone, with these settings, ends with END after this operation and leaves these bytes.
abbrev pub Gives : (order : ℕ) (operation before after : List ℕ) → Type 0
Gives order operation before after =
    plain_run (settings order) operation 0 1 [] (spaces [] before [])
    ≡ plain_outcome (record { ending = 0; index = 1; executed = 1; logged = 0; value = 0 }) (spaces [] after []) []

-- The same in both byte orders.
abbrev pub InBoth : (operation before after : List ℕ) → Type 0
InBoth operation before after = (Gives 0 operation before after) × (Gives 1 operation before after)

-- A BRANCH by an offset.
abbrev pub branch_by : (offset : ℕ) → List ℕ
branch_by offset = words 0x180004 0 offset 0

-- Nine operations, of which the one at index 5 branches by 3.
abbrev pub nine_branches : List ℕ
nine_branches =
    branch_by 0 ++ branch_by 0 ++ branch_by 0 ++ branch_by 0 ++ branch_by 0 ++ branch_by 3 ++ branch_by 0 ++ branch_by 0 ++ branch_by 0

-- A run of it from index 5, over empty spaces, is at index 8 after one operation.
abbrev pub Branches : (order : ℕ) → Type 0
Branches order =
    plain_run (settings order) nine_branches 5 1 [] (spaces [] [] [])
    ≡ plain_outcome (record { ending = 2; index = 8; executed = 1; logged = 0; value = 0 }) (spaces [] [] []) []

-- All of them.
pub record Marked : Type 0 where
  -- INT_ADD size 1: ff + 01 = 00; INT_CARRY 1, INT_SCARRY 0.
  pub add_wraps : InBoth (words 0x31313115 2 0 1) (0xff ∷ 0x01 ∷ 0xaa ∷ []) (0xff ∷ 0x01 ∷ 0x00 ∷ [])
  pub add_carries : InBoth (words 0x31313117 2 0 1) (0xff ∷ 0x01 ∷ 0xaa ∷ []) (0xff ∷ 0x01 ∷ 0x01 ∷ [])
  pub add_has_no_signed_carry : InBoth (words 0x31313118 2 0 1) (0xff ∷ 0x01 ∷ 0xaa ∷ []) (0xff ∷ 0x01 ∷ 0x00 ∷ [])
  -- size 1: 7f + 01 = 80, INT_SCARRY 1.
  pub add_to_the_sign : InBoth (words 0x31313115 2 0 1) (0x7f ∷ 0x01 ∷ 0xaa ∷ []) (0x7f ∷ 0x01 ∷ 0x80 ∷ [])
  pub signed_carry : InBoth (words 0x31313118 2 0 1) (0x7f ∷ 0x01 ∷ 0xaa ∷ []) (0x7f ∷ 0x01 ∷ 0x01 ∷ [])
  -- size 1: 80 - 01 = 7f, INT_SBORROW 1.
  pub sub_from_the_sign : InBoth (words 0x31313116 2 0 1) (0x80 ∷ 0x01 ∷ 0xaa ∷ []) (0x80 ∷ 0x01 ∷ 0x7f ∷ [])
  pub signed_borrow : InBoth (words 0x31313119 2 0 1) (0x80 ∷ 0x01 ∷ 0xaa ∷ []) (0x80 ∷ 0x01 ∷ 0x01 ∷ [])
  -- size 1: f9 by 02 signed = fd, INT_SREM ff.
  pub signed_quotient : InBoth (words 0x31313125 2 0 1) (0xf9 ∷ 0x02 ∷ 0xaa ∷ []) (0xf9 ∷ 0x02 ∷ 0xfd ∷ [])
  pub signed_remainder : InBoth (words 0x31313126 2 0 1) (0xf9 ∷ 0x02 ∷ 0xaa ∷ []) (0xf9 ∷ 0x02 ∷ 0xff ∷ [])
  -- size 1: 80 by ff signed = 80, INT_SREM 00.
  pub least_quotient : InBoth (words 0x31313125 2 0 1) (0x80 ∷ 0xff ∷ 0xaa ∷ []) (0x80 ∷ 0xff ∷ 0x80 ∷ [])
  pub least_remainder : InBoth (words 0x31313126 2 0 1) (0x80 ∷ 0xff ∷ 0xaa ∷ []) (0x80 ∷ 0xff ∷ 0x00 ∷ [])
  -- size 4: 1 left by 31 = 80000000, by 32 = 0.
  pub left_by_31 : (Gives 0 (words 0x1134341f 4 0 31) (0x01 ∷ 0x00 ∷ 0x00 ∷ 0x00 ∷ 0xaa ∷ 0xaa ∷ 0xaa ∷ 0xaa ∷ []) (0x01 ∷ 0x00 ∷ 0x00 ∷ 0x00 ∷ 0x00 ∷ 0x00 ∷ 0x00 ∷ 0x80 ∷ []))
      × (Gives 1 (words 0x1134341f 4 0 31) (0x00 ∷ 0x00 ∷ 0x00 ∷ 0x01 ∷ 0xaa ∷ 0xaa ∷ 0xaa ∷ 0xaa ∷ []) (0x00 ∷ 0x00 ∷ 0x00 ∷ 0x01 ∷ 0x80 ∷ 0x00 ∷ 0x00 ∷ 0x00 ∷ []))
  pub left_by_32 : (Gives 0 (words 0x1134341f 4 0 32) (0x01 ∷ 0x00 ∷ 0x00 ∷ 0x00 ∷ 0xaa ∷ 0xaa ∷ 0xaa ∷ 0xaa ∷ []) (0x01 ∷ 0x00 ∷ 0x00 ∷ 0x00 ∷ 0x00 ∷ 0x00 ∷ 0x00 ∷ 0x00 ∷ []))
      × (Gives 1 (words 0x1134341f 4 0 32) (0x00 ∷ 0x00 ∷ 0x00 ∷ 0x01 ∷ 0xaa ∷ 0xaa ∷ 0xaa ∷ 0xaa ∷ []) (0x00 ∷ 0x00 ∷ 0x00 ∷ 0x01 ∷ 0x00 ∷ 0x00 ∷ 0x00 ∷ 0x00 ∷ []))
  -- size 2: 8000 INT_SRIGHT by 14 = fffe, by 16 = ffff.
  pub signed_right_by_14 : (Gives 0 (words 0x11323221 2 0 14) (0x00 ∷ 0x80 ∷ 0xaa ∷ 0xaa ∷ []) (0x00 ∷ 0x80 ∷ 0xfe ∷ 0xff ∷ []))
      × (Gives 1 (words 0x11323221 2 0 14) (0x80 ∷ 0x00 ∷ 0xaa ∷ 0xaa ∷ []) (0x80 ∷ 0x00 ∷ 0xff ∷ 0xfe ∷ []))
  pub signed_right_by_16 : (Gives 0 (words 0x11323221 2 0 16) (0x00 ∷ 0x80 ∷ 0xaa ∷ 0xaa ∷ []) (0x00 ∷ 0x80 ∷ 0xff ∷ 0xff ∷ []))
      × (Gives 1 (words 0x11323221 2 0 16) (0x80 ∷ 0x00 ∷ 0xaa ∷ 0xaa ∷ []) (0x80 ∷ 0x00 ∷ 0xff ∷ 0xff ∷ []))
  -- SUBPIECE of 11223344 into 2 bytes: drop 1 gives 2233, drop 4 gives 0.
  pub subpiece_drops_1 : (Gives 0 (words 0x1134320b 4 0 1) (0x44 ∷ 0x33 ∷ 0x22 ∷ 0x11 ∷ 0xaa ∷ 0xaa ∷ []) (0x44 ∷ 0x33 ∷ 0x22 ∷ 0x11 ∷ 0x33 ∷ 0x22 ∷ []))
      × (Gives 1 (words 0x1134320b 4 0 1) (0x11 ∷ 0x22 ∷ 0x33 ∷ 0x44 ∷ 0xaa ∷ 0xaa ∷ []) (0x11 ∷ 0x22 ∷ 0x33 ∷ 0x44 ∷ 0x22 ∷ 0x33 ∷ []))
  pub subpiece_drops_4 : (Gives 0 (words 0x1134320b 4 0 4) (0x44 ∷ 0x33 ∷ 0x22 ∷ 0x11 ∷ 0xaa ∷ 0xaa ∷ []) (0x44 ∷ 0x33 ∷ 0x22 ∷ 0x11 ∷ 0x00 ∷ 0x00 ∷ []))
      × (Gives 1 (words 0x1134320b 4 0 4) (0x11 ∷ 0x22 ∷ 0x33 ∷ 0x44 ∷ 0xaa ∷ 0xaa ∷ []) (0x11 ∷ 0x22 ∷ 0x33 ∷ 0x44 ∷ 0x00 ∷ 0x00 ∷ []))
  -- PIECE of 12 and 3456: 123456; bytes 56 34 12 little, 12 34 56 big.
  pub piece : (Gives 0 (words 0x3231330a 3 0 1) (0x12 ∷ 0x56 ∷ 0x34 ∷ 0xaa ∷ 0xaa ∷ 0xaa ∷ []) (0x12 ∷ 0x56 ∷ 0x34 ∷ 0x56 ∷ 0x34 ∷ 0x12 ∷ []))
      × (Gives 1 (words 0x3231330a 3 0 1) (0x12 ∷ 0x34 ∷ 0x56 ∷ 0xaa ∷ 0xaa ∷ 0xaa ∷ []) (0x12 ∷ 0x34 ∷ 0x56 ∷ 0x12 ∷ 0x34 ∷ 0x56 ∷ []))
  -- POPCOUNT of a 4-byte ffffffff: 32.
  pub popcount : InBoth (words 0x0034310c 4 0 0) (0xff ∷ 0xff ∷ 0xff ∷ 0xff ∷ 0xaa ∷ []) (0xff ∷ 0xff ∷ 0xff ∷ 0xff ∷ 0x20 ∷ [])
  -- BRANCH at index 5 by 3 goes to 8.
  pub branch : (Branches 0) × (Branches 1)
  -- bytes 01 02 03 04, COPY of 2 bytes from 0 to 1: 01 01 02 04.
  pub copy_overlapping : InBoth (words 0x00323201 1 0 0) (0x01 ∷ 0x02 ∷ 0x03 ∷ 0x04 ∷ []) (0x01 ∷ 0x01 ∷ 0x02 ∷ 0x04 ∷ [])
