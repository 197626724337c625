-- The value of an operation's output is below 256^size, as that of a varnode has to be.
use Prim.Native.Nat.{ℕ, ◌+◌, ◌*◌, ◌/◌, ◌%◌, ◌^◌, ◌-◌, ◌≤◌, ◌<◌, min, max}
use mathlib.Core.Bool.{Bool, true, false, cond}
use mathlib.Core.List.{List, [], ◌∷◌}
use mathlib.Core.Path.{◌≡◌, refl}
use native.Mathlib.Omega.{arith}
use native.Mathlib.Nat.{mod-lt, mod-le, div-le_self, lt_of_le_of_lt, lt_of_lt_of_le}
use borrow.Author.Tests.{eqb-true, ltb-true}
use lib.Dec.{eqb, ltb, lit<}
use lib.Count.{ones-le}
use lib.Signed.{shr_z}
use Rattle.word.specs.Sum.{sum, digit}
use Rattle.word.proofs.Digits.{digit_lt, digits_lt}
use Rattle.word.proofs.Powers.{pow_bits, size_pos, size_mono}
use Rattle.integer.specs.Integers.{signed, wrap, negative}
use Rattle.integer.specs.Operations.{flag, piece, subpiece, popcount, int_equal, int_not_equal, int_less, int_sless, int_less_equal, int_sless_equal, int_zext, int_sext, int_add}
use Rattle.integer.specs.Operations.{int_sub, int_carry, int_scarry, int_sborrow, int2comp, int_negate, int_xor, int_and, int_or, int_left, int_right, int_sright, int_mult, int_div}
use Rattle.integer.specs.Operations.{int_rem, int_sdiv, int_srem, bool_negate, bool_xor, bool_and, bool_or}
use Rattle.arithmetic.specs.Opcodes.{opcodes, row_of, sizes_of}
use Rattle.arithmetic.specs.Operands.{Operands, agree, sizes_agree}
use Rattle.arithmetic.specs.Result.{lookup, integer_results, result_of}
use Rattle.integer.proofs.Booleans.{flag_lt}
use Rattle.integer.proofs.Whole.{piece_lt}
use Rattle.integer.proofs.Bits.{popcount_is}
use Rattle.integer.proofs.TwosComplement.{wrap_lt}
use Rattle.arithmetic.proofs.Agreement.{agreed, size_kept, all_equal}

-- either of two numbers
either_lt : (t : Bool) (x y m : ℕ) → x < m → y < m → cond t x y < m
either_lt true x y m hx hy = hx
either_lt false x y m hx hy = hy

-- the value of each row of a table is below m where the row is the one looked up
infixr 40 ◌⨾◌
data Rows (n m : ℕ) : List (ℕ × ℕ) → Type 0 where
  done : Rows n m []
  ◌⨾◌ : {row : ℕ × ℕ} {rows : List (ℕ × ℕ)} → (n ≡ row.0 → row.1 < m) → Rows n m rows → Rows n m (row ∷ rows)

lookup_lt : (n m : ℕ) {rows : List (ℕ × ℕ)} → 0 < m → Rows n m rows → lookup n rows < m
unfolding lookup
lookup_lt n m p done = p
lookup_lt n m p (◌⨾◌ {row = row} {rows = rows} h hs) = by (eqb n row.0) refl (lookup_lt n m p hs)
  where
    by : (t : Bool) → eqb n row.0 ≡ t → lookup n rows < m → cond t row.1 (lookup n rows) < m
    by true e rest = h (eqb-true n row.0 e)
    by false e rest = rest

module _ {opcode size size0 size1 a b : ℕ} (o : Operands opcode size size0 size1 a b) where
  positive : 0 < 256 ^ size
  positive = size_pos size

  byte_lt : (x : ℕ) → x < 256 → x < 256 ^ size
  byte_lt x h = lt_of_lt_of_le h (size_mono 1 size o.some)

  flag_below : (t : Bool) → flag t < 256 ^ size
  flag_below t = byte_lt (flag t) (omega (arith, flag_lt t))

  bits_below : (f : ℕ → ℕ) → ((k : ℕ) → f k < 2) → sum (8 * size) (λ k. f k * 2 ^ k) < 256 ^ size
  bits_below f h = rw (pow_bits size) (digits_lt 2 (lit< tt) (8 * size) f (λ k l. h k))

  piece_below : eqb (size0 + size1) size ≡ true → piece size1 a b < 256 ^ size
  unfolding piece
  piece_below t = piece_lt size size0 size1 a b (eqb-true (size0 + size1) size t) o.below0 o.below1

  popcount_below : popcount size0 a < 256 ^ size
  popcount_below =
      let h : a < 2 ^ (8 * size0) = rw pow_bits at o.below0 in
      let m : size0 ≤ 8 = o.most0 in
      byte_lt (popcount size0 a) (omega (arith, ones-le (8 * size0) a h, popcount_is size0 a o.below0))

  extended_below : ltb size0 size ≡ true → a < 256 ^ size
  extended_below t = let l : size0 < size = ltb-true size0 size t in lt_of_lt_of_le o.below0 (size_mono size0 size (omega arith))

  bit_lt : (x k : ℕ) → digit 2 x k < 2
  bit_lt x k = digit_lt 2 (lit< tt) x k

  sright_below : int_sright size a b < 256 ^ size
  unfolding int_sright
  sright_below =
      either_lt (ltb b (8 * size)) (wrap size (shr_z (signed size a) (2 ^ b))) (cond (negative (signed size a)) (256 ^ size - 1) 0) (256 ^ size)
      (wrap_lt size (shr_z (signed size a) (2 ^ b)))
      (either_lt (negative (signed size a)) (256 ^ size - 1) 0 (256 ^ size) (omega (arith, positive)) positive)

  pub result_below : result_of opcode size size0 size1 a b < 256 ^ size
  unfolding result_of integer_results sizes_agree agree sizes_of row_of opcodes subpiece int_equal int_not_equal int_less int_sless
      int_less_equal int_sless_equal int_zext int_sext int_add int_sub int_carry int_scarry int_sborrow int2comp int_negate int_xor int_and
      int_or int_left int_right int_mult int_div int_rem int_sdiv int_srem bool_negate bool_xor bool_and bool_or
  result_below =
      lookup_lt opcode (256 ^ size) positive
      ((λ e. piece_below (agreed o 10 e))
      ⨾ (λ e. mod-lt _ positive)
      ⨾ (λ e. popcount_below)
      ⨾ (λ e. flag_below _)
      ⨾ (λ e. flag_below _)
      ⨾ (λ e. flag_below _)
      ⨾ (λ e. flag_below _)
      ⨾ (λ e. flag_below _)
      ⨾ (λ e. flag_below _)
      ⨾ (λ e. extended_below (agreed o 19 e))
      ⨾ (λ e. wrap_lt size _)
      ⨾ (λ e. mod-lt _ positive)
      ⨾ (λ e. wrap_lt size _)
      ⨾ (λ e. flag_below _)
      ⨾ (λ e. flag_below _)
      ⨾ (λ e. flag_below _)
      ⨾ (λ e. wrap_lt size _)
      ⨾ (λ e. bits_below (λ k. 1 - digit 2 a k) (λ k. omega arith))
      ⨾ (λ e. bits_below (λ k. (digit 2 a k + digit 2 b k) % 2) (λ k. mod-lt _ (lit< tt)))
      ⨾ (λ e. bits_below (λ k. min (digit 2 a k) (digit 2 b k)) (λ k. omega (arith, bit_lt a k)))
      ⨾ (λ e. bits_below (λ k. max (digit 2 a k) (digit 2 b k)) (λ k. omega (arith, bit_lt a k, bit_lt b k)))
      ⨾ (λ e. either_lt (ltb b (8 * size)) (a * 2 ^ b % 256 ^ size) 0 (256 ^ size) (mod-lt _ positive) positive)
      ⨾ (λ e. either_lt (ltb b (8 * size)) (a / 2 ^ b) 0 (256 ^ size) (lt_of_le_of_lt (div-le_self a (2 ^ b)) (size_kept o (agreed o 32 e))) positive)
      ⨾ (λ e. sright_below)
      ⨾ (λ e. mod-lt _ positive)
      ⨾ (λ e. lt_of_le_of_lt (div-le_self a b) (all_equal o (agreed o 35 e)).0)
      ⨾ (λ e. lt_of_le_of_lt (mod-le a b) (all_equal o (agreed o 36 e)).0)
      ⨾ (λ e. wrap_lt size _)
      ⨾ (λ e. wrap_lt size _)
      ⨾ (λ e. flag_below _)
      ⨾ (λ e. flag_below _)
      ⨾ (λ e. flag_below _)
      ⨾ (λ e. flag_below _)
      ⨾ done)
