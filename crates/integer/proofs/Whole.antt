-- Laws of the operations on whole numbers, each once over the size.
use Rattle.std.proofs.Common.{◌≡◌, ℕ, zero, suc, ◌+◌, ◌-◌, ◌*◌, ◌%◌, ◌^◌, ◌<◌, ◌≤◌, Bool, true, false, ltb, pos, negsuc, ◌-ℤ◌, refl, ap, ◌∙◌, subst, lt_of_lt_of_le, arith, pow-add, ltb-false, ltb-true, le-ltb, lt-ltb}
use native.Mathlib.Nat.{div-eq_of_lt, zero-mod}
use lib.Arith as A
use Rattle.integer.specs.Integers.{wrap}
use Rattle.integer.specs.Operations.{subpiece, int_sub}
use Rattle.word.proofs.Powers.{size_mono, flipped_low}

-- ---- PIECE and SUBPIECE

-- the two halves fit their sizes together
pub piece_lt : (size size0 size1 a b : ℕ) → size0 + size1 ≡ size → a < 256 ^ size0 → b < 256 ^ size1 → a * 256 ^ size1 + b < 256 ^ size
piece_lt size size0 size1 a b e ha hb =
    subst (λ (n : ℕ). a * 256 ^ size1 + b < 256 ^ n) e (rw (pow-add 256 size0 size1) (A.digits_lt ha hb))

-- all bytes are dropped
pub dropped_all : (size a b : ℕ) → a < 2 ^ 64 → 8 ≤ b → subpiece size a b ≡ 0
unfolding subpiece
dropped_all size a b ha h =
    ap (λ (n : ℕ). n % 256 ^ size) (div-eq_of_lt (lt_of_lt_of_le ha (size_mono 8 b h))) ∙ zero-mod (256 ^ size)

-- ---- subtraction

pub sub_pos : (a b : ℕ) → b ≤ a → pos a -ℤ pos b ≡ pos (a - b)
sub_pos a zero h = ap pos (omega arith)
sub_pos a (suc b) h = rw (le-ltb a (suc b) h)

pub sub_neg : (a b : ℕ) → a < b → pos a -ℤ pos b ≡ negsuc (b - 1 - a)
sub_neg a zero h = absurd (let z : ⊥ = omega arith in z)
sub_neg a (suc b) h = rw (lt-ltb a (suc b) h) (ap negsuc (omega arith))

pub sub_is : (s a b r : ℕ) → s ≤ 8 → a < 2 ^ 64 → b < 2 ^ 64 → r < 2 ^ 64 → (r + b) % 2 ^ 64 ≡ a → r % 256 ^ s ≡ int_sub s a b
unfolding int_sub wrap
sub_is s a b r hs ha hb hr e = by (ltb a b) refl
  where
    by : (t : Bool) → ltb a b ≡ t → r % 256 ^ s ≡ wrap s (pos a -ℤ pos b)
    by true k =
        let l : a < b = ltb-true a b k in
        let f : r ≡ 2 ^ 64 - 1 - (b - 1 - a) = omega arith in
        rw (sub_neg a b l) (ap (λ (n : ℕ). n % 256 ^ s) f ∙ flipped_low (b - 1 - a) s hs (omega arith))
    by false k =
        let l : b ≤ a = ltb-false a b k in
        let f : r ≡ a - b = omega arith in
        rw (sub_pos a b l) (ap (λ (n : ℕ). n % 256 ^ s) f)
