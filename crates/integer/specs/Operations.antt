-- The value of each integer operation, in the order of the opcodes. `size` is the output's size in bytes, `size0` and `size1` the
-- inputs'; a and b are the values of input0 and input1.
use Rattle.std.specs.Prelude.{ℕ, ◌+◌, ◌-◌, ◌*◌, ◌/◌, ◌%◌, ◌^◌, min, max, Bool, true, false, cond, not, ◌&&◌, ◌||◌, pos, ◌+ℤ◌, ◌-ℤ◌, neg_ℤ, ◌==◌, int_le, int_lt, nat_le, nat_lt}
use Rattle.std.specs.Bool.{xor}
use Rattle.std.specs.Int.Signed.{shr_z}
use Rattle.word.specs.Sum.{sum, digit}
use Rattle.integer.specs.Integers.{signed, wrap, negative, overflows, quotient, remainder}

-- A truth value as a result: 0 or 1.
unfoldable pub flag : Bool → ℕ
flag false = 0
flag true = 1

-- Bit k of a number: the binary digit that counts 2^k.
abbrev pub bit : (a k : ℕ) → ℕ
bit a k = digit 2 a k

-- The number of `size` bytes whose bit k is f k.
abbrev pub from_bits : (size : ℕ) → (ℕ → ℕ) → ℕ
from_bits size f = sum (8 * size) (λ k. f k * 2 ^ k)

-- 10 PIECE: input0 makes up the most significant part.
unfoldable pub piece : (size1 a b : ℕ) → ℕ
piece size1 a b = a * 256 ^ size1 + b

-- 11 SUBPIECE: b low bytes are dropped; missing high bytes are 0.
unfoldable pub subpiece : (size a b : ℕ) → ℕ
subpiece size a b = a / 256 ^ b % 256 ^ size

-- 12 POPCOUNT: how many bits are 1.
unfoldable pub popcount : (size0 a : ℕ) → ℕ
popcount size0 a = sum (8 * size0) (λ k. bit a k)

-- 13 INT_EQUAL: both are the same.
unfoldable pub int_equal : (a b : ℕ) → ℕ
int_equal a b = flag (a == b)

-- 14 INT_NOTEQUAL: they differ.
unfoldable pub int_not_equal : (a b : ℕ) → ℕ
int_not_equal a b = flag (not (a == b))

-- 15 INT_LESS: less as unsigned integers.
unfoldable pub int_less : (a b : ℕ) → ℕ
int_less a b = flag (nat_lt a b)

-- 16 INT_SLESS: less as signed integers.
unfoldable pub int_sless : (size0 a b : ℕ) → ℕ
int_sless size0 a b = flag (int_lt (signed size0 a) (signed size0 b))

-- 17 INT_LESSEQUAL: less or equal as unsigned integers.
unfoldable pub int_less_equal : (a b : ℕ) → ℕ
int_less_equal a b = flag (nat_le a b)

-- 18 INT_SLESSEQUAL: less or equal as signed integers.
unfoldable pub int_sless_equal : (size0 a b : ℕ) → ℕ
int_sless_equal size0 a b = flag (int_le (signed size0 a) (signed size0 b))

-- 19 INT_ZEXT: filled with zeros above.
unfoldable pub int_zext : (a : ℕ) → ℕ
int_zext a = a

-- 20 INT_SEXT: the same signed integer in more bytes, so filled with the sign bit above.
unfoldable pub int_sext : (size size0 a : ℕ) → ℕ
int_sext size size0 a = wrap size (signed size0 a)

-- 21 INT_ADD: the sum, cut to the size.
unfoldable pub int_add : (size a b : ℕ) → ℕ
int_add size a b = (a + b) % 256 ^ size

-- 22 INT_SUB: the difference, cut to the size.
unfoldable pub int_sub : (size a b : ℕ) → ℕ
int_sub size a b = wrap size (pos a -ℤ pos b)

-- 23 INT_CARRY: the sum of the unsigned integers overflows the size.
unfoldable pub int_carry : (size0 a b : ℕ) → ℕ
int_carry size0 a b = flag (nat_le (256 ^ size0) (a + b))

-- 24 INT_SCARRY: the sum of the signed integers does.
unfoldable pub int_scarry : (size0 a b : ℕ) → ℕ
int_scarry size0 a b = flag (overflows size0 (signed size0 a +ℤ signed size0 b))

-- 25 INT_SBORROW: the difference of the signed integers does.
unfoldable pub int_sborrow : (size0 a b : ℕ) → ℕ
int_sborrow size0 a b = flag (overflows size0 (signed size0 a -ℤ signed size0 b))

-- 26 INT_2COMP: the same signed integer with the opposite sign.
unfoldable pub int2comp : (size a : ℕ) → ℕ
int2comp size a = wrap size (neg_ℤ (signed size a))

-- 27 INT_NEGATE: every bit flipped.
unfoldable pub int_negate : (size a : ℕ) → ℕ
int_negate size a = from_bits size (λ k. 1 - bit a k)

-- 28 INT_XOR, bit by bit.
unfoldable pub int_xor : (size a b : ℕ) → ℕ
int_xor size a b = from_bits size (λ k. (bit a k + bit b k) % 2)

-- 29 INT_AND, bit by bit.
unfoldable pub int_and : (size a b : ℕ) → ℕ
int_and size a b = from_bits size (λ k. min (bit a k) (bit b k))

-- 30 INT_OR, bit by bit.
unfoldable pub int_or : (size a b : ℕ) → ℕ
int_or size a b = from_bits size (λ k. max (bit a k) (bit b k))

-- 31 INT_LEFT, by b bits; by the width or more it gives 0.
unfoldable pub int_left : (size a b : ℕ) → ℕ
int_left size a b = cond (nat_lt b (8 * size)) (a * 2 ^ b % 256 ^ size) 0

-- 32 INT_RIGHT, by b bits, filled with zeros; the same by the width or more.
unfoldable pub int_right : (size a b : ℕ) → ℕ
int_right size a b = cond (nat_lt b (8 * size)) (a / 2 ^ b) 0

-- 33 INT_SRIGHT, by b bits; by the width or more it gives all ones for a negative input0, else 0. `shr_z z m` is z / m rounded down: the
-- bits of z moved down, copies of the sign bit in the vacated places.
unfoldable pub int_sright : (size a b : ℕ) → ℕ
int_sright size a b =
    cond (nat_lt b (8 * size)) (wrap size (shr_z (signed size a) (2 ^ b))) (cond (negative (signed size a)) (256 ^ size - 1) 0)

-- 34 INT_MULT: the product, cut to the size.
unfoldable pub int_mult : (size a b : ℕ) → ℕ
int_mult size a b = a * b % 256 ^ size

-- 35 INT_DIV of unsigned integers; a divisor of 0 is stopped before it comes here, as in the next three.
unfoldable pub int_div : (a b : ℕ) → ℕ
int_div a b = a / b

-- 36 INT_REM of unsigned integers.
unfoldable pub int_rem : (a b : ℕ) → ℕ
int_rem a b = a % b

-- 37 INT_SDIV of signed integers.
unfoldable pub int_sdiv : (size a b : ℕ) → ℕ
int_sdiv size a b = wrap size (quotient (signed size a) (signed size b))

-- 38 INT_SREM of signed integers.
unfoldable pub int_srem : (size a b : ℕ) → ℕ
int_srem size a b = wrap size (remainder (signed size a) (signed size b))

-- In BOOL operations any non-zero byte is true.
unfoldable pub truth : (a : ℕ) → Bool
truth a = not (a == 0)

-- 39 BOOL_NEGATE.
unfoldable pub bool_negate : (a : ℕ) → ℕ
bool_negate a = flag (not (truth a))

-- 40 BOOL_XOR.
unfoldable pub bool_xor : (a b : ℕ) → ℕ
bool_xor a b = flag (xor (truth a) (truth b))

-- 41 BOOL_AND.
unfoldable pub bool_and : (a b : ℕ) → ℕ
bool_and a b = flag (truth a && truth b)

-- 42 BOOL_OR.
unfoldable pub bool_or : (a b : ℕ) → ℕ
bool_or a b = flag (truth a || truth b)
