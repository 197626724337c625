-- Whole numbers of `size` bytes as signed integers, in two's complement.
use Rattle.std.specs.Prelude.{ℕ, ◌-◌, ◌*◌, ◌/◌, ◌%◌, ◌^◌, Bool, true, false, cond, ◌||◌, ℤ, pos, negsuc, ◌-ℤ◌, neg_ℤ, int_le, int_lt, nat_lt, unsigned_abs}
use Rattle.std.specs.Bool.{xor}

-- The two's complement value of x: x itself, or x - 256^size from half of 256^size on.
unfoldable pub signed : (size x : ℕ) → ℤ
signed size x = cond (nat_lt (2 * x) (256 ^ size)) (pos x) (pos x -ℤ pos (256 ^ size))

-- The number below 256^size that differs from z by a multiple of 256^size; negsuc n is -n - 1.
unfoldable pub wrap : (size : ℕ) → ℤ → ℕ
wrap size (pos n) = n % 256 ^ size
wrap size (negsuc n) = 256 ^ size - 1 - n % 256 ^ size

-- An integer below 0.
unfoldable pub negative : ℤ → Bool
negative (pos n) = false
negative (negsuc n) = true

-- z is the two's complement value of no number of this size.
unfoldable pub overflows : (size : ℕ) → ℤ → Bool
overflows size z = int_lt z (neg_ℤ (pos (256 ^ size / 2))) || int_le (pos (256 ^ size / 2)) z

-- n, or -n
unfoldable pub with_sign : Bool → ℕ → ℤ
with_sign false n = pos n
with_sign true n = neg_ℤ (pos n)

-- Signed division truncates towards zero.
unfoldable pub quotient : ℤ → ℤ → ℤ
quotient p q = with_sign (xor (negative p) (negative q)) (unsigned_abs p / unsigned_abs q)

-- What is left of p by that division: it has the sign of p.
unfoldable pub remainder : ℤ → ℤ → ℤ
remainder p q = with_sign (negative p) (unsigned_abs p % unsigned_abs q)
