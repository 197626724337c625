-- The numbers of a case: lowercase hexadecimal digits, the highest first.
use Rattle.std.specs.Prelude.{ℕ, zero, suc, ◌+◌, ◌-◌, ◌*◌, ◌%◌, Bool, true, false, cond, List, [], ◌∷◌, get_or, ltb}

-- The digits of a byte; so many has the kind of a frame, a byte order, A and the number of a space.
abbrev pub byte_digits : ℕ
byte_digits = 2

-- The digits of a 32-bit number: a length, an offset, the budget.
abbrev pub number_digits : ℕ
number_digits = 8

-- The digits of a 64-bit word.
abbrev pub word_digits : ℕ
word_digits = 16

-- The digit that a character stands for: 0 to 9 (codes 48 to 57), then a to f (97 to 102); 16 for any other character.
unfoldable pub digit_of : (c : ℕ) → ℕ
digit_of c = cond (ltb c 48) 16 (cond (ltb c 58) (c - 48) (cond (ltb c 97) 16 (cond (ltb c 103) (c - 87) 16)))

-- Every character is a digit.
unfoldable pub all_digits : List ℕ → Bool
all_digits [] = true
all_digits (c ∷ s) = cond (ltb (digit_of c) 16) (all_digits s) false

-- The number that k digits at a place stand for, the highest first. The remainder keeps it below 16^k where a character is no digit.
unfoldable pub number_at : (s : List ℕ) → (at k : ℕ) → ℕ
number_at s at zero = 0
number_at s at (suc k) = number_at s at k * 16 + digit_of (get_or s (at + k) 0) % 16
