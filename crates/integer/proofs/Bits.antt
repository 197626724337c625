-- Laws of the operations bit by bit, each once over the number of bits.
use Rattle.std.proofs.Common.{◌≡◌, ℕ, zero, suc, ◌+◌, ◌-◌, ◌*◌, ◌/◌, ◌%◌, ◌^◌, ◌<◌, min, max, sym, refl, ap, ◌∙◌, subst, ap₂, add-zero, mod-lt, mod-eq_of_lt, add-mul, add_comm, one-mul, one-add, arith, lit<, pow_pos, shr_lt}
use native.Mathlib.Nat.{mul-add-mod_self_right}
use lib.Pow.{mod-mod-pow, split, field}
use lib.Count.{ones, ones_step, ones_cat}
use lib.Bits.{bit_and, bit_or, bit_xor, differ, and_shr, or_shr, xor_shr, and_step, or_step, xor_step, and_lt, or_lt, xor_lt}
use Rattle.word.specs.Sum.{sum, digit}
use Rattle.word.proofs.Sums.{sum_cong, sum-add}
use Rattle.word.proofs.Digits.{digit_lt, digits_sum}
use Rattle.word.proofs.Powers.{pow_bits}
use Rattle.integer.specs.Operations.{popcount, int_negate, int_xor, int_and, int_or}

-- ---- POPCOUNT: the language's count of ones is the count bit by bit

ones_zero : ones 0 ≡ 0
unfolding ones
ones_zero = refl

ones_bit : (b : ℕ) → b < 2 → ones b ≡ b % 2
ones_bit b h = let z : b / 2 ≡ 0 = omega arith in ones_step b ∙ rw (z, ones_zero) (add-zero (b % 2))

bit_low : (k j x : ℕ) → k < j → (x % 2 ^ j) / 2 ^ k % 2 ≡ x / 2 ^ k % 2
bit_low k j x h =
    subst (λ (n : ℕ). (x % 2 ^ n) / 2 ^ k % 2 ≡ x / 2 ^ k % 2) e
    (ap (λ (n : ℕ). n % 2) (field x ((j - suc k) + 1) k) ∙ mod-mod-pow (x / 2 ^ k) (j - suc k) 1)
  where
    e : ((j - suc k) + 1) + k ≡ j
    e = omega arith

ones_sum : (k x : ℕ) → x < 2 ^ k → ones x ≡ sum k (λ j. digit 2 x j)
unfolding sum digit
ones_sum zero x h = let z : x ≡ 0 = omega arith in rw (z, ones_zero)
ones_sum (suc k) x h =
    ap ones (sym (split x k))
    ∙ ones_cat k (x / 2 ^ k) (x % 2 ^ k) (mod-lt x (pow_pos k))
    ∙ ap₂ (λ (a b : ℕ). a + b) (ones_bit (x / 2 ^ k) (shr_lt 1 k (subst (λ (n : ℕ). x < 2 ^ n) (sym (one-add k)) h)))
    (ones_sum k (x % 2 ^ k) (mod-lt x (pow_pos k))
    ∙ sum_cong k (λ j. x % 2 ^ k / 2 ^ j % 2) (λ j. x / 2 ^ j % 2) (λ j l. bit_low j k x l))
    ∙ add_comm (x / 2 ^ k % 2) (sum k (λ j. x / 2 ^ j % 2))

pub popcount_is : (s a : ℕ) → a < 256 ^ s → ones a ≡ popcount s a
unfolding popcount
popcount_is s a h = ones_sum (8 * s) a (rw pow_bits at h)

-- ---- INT_NEGATE

all_ones : (n : ℕ) → sum n (λ k. 2 ^ k) ≡ 2 ^ n - 1
unfolding sum
all_ones zero = refl
all_ones (suc n) = omega (arith, all_ones n, pow_pos n)

flip_bit : (x p : ℕ) → x < 2 → x * p + (1 - x) * p ≡ p
flip_bit x p h = let e : x + (1 - x) ≡ 1 = omega arith in sym (add-mul x (1 - x) p) ∙ rw e (one-mul p)

flipped : (n a : ℕ) → a < 2 ^ n → a + sum n (λ k. (1 - digit 2 a k) * 2 ^ k) ≡ 2 ^ n - 1
flipped n a h =
    ap (λ (x : ℕ). x + sum n (λ k. (1 - digit 2 a k) * 2 ^ k)) (sym (digits_sum 2 (lit< tt) n a ∙ mod-eq_of_lt h))
    ∙ sym (sum-add n (λ k. digit 2 a k * 2 ^ k) (λ k. (1 - digit 2 a k) * 2 ^ k))
    ∙ sum_cong n (λ k. digit 2 a k * 2 ^ k + (1 - digit 2 a k) * 2 ^ k) (λ k. 2 ^ k) (λ k l. flip_bit (digit 2 a k) (2 ^ k) (digit_lt 2 (lit< tt) a k))
    ∙ all_ones n

pub negate_is : (s a top : ℕ) → a < 256 ^ s → top ≡ 256 ^ s - 1 → top - a ≡ int_negate s a
unfolding int_negate
negate_is s a top h e =
    let h' : a < 2 ^ (8 * s) = rw pow_bits at h in
    let e' : top ≡ 2 ^ (8 * s) - 1 = rw pow_bits at e in
    omega (arith, flipped (8 * s) a h')

-- ---- INT_XOR, INT_AND, INT_OR: one law, over the operation on two bits

-- F acts on each pair of bits by g
module _ (F g f : ℕ → ℕ → ℕ)
    (shr : (a b k : ℕ) → F a b / 2 ^ k ≡ F (a / 2 ^ k) (b / 2 ^ k))
    (step : (a b : ℕ) → F a b ≡ F (a / 2) (b / 2) * 2 + g (a % 2) (b % 2))
    (bits : (x y : ℕ) → x < 2 → y < 2 → g x y % 2 ≡ f x y)
    (less : (k a b : ℕ) → a < 2 ^ k → b < 2 ^ k → F a b < 2 ^ k) where
  by_bit : (a b k : ℕ) → digit 2 (F a b) k ≡ f (digit 2 a k) (digit 2 b k)
  unfolding digit
  by_bit a b k =
      ap (λ (n : ℕ). n % 2) (shr a b k ∙ step (a / 2 ^ k) (b / 2 ^ k))
      ∙ mul-add-mod_self_right (F (a / 2 ^ k / 2) (b / 2 ^ k / 2)) 2 (g (a / 2 ^ k % 2) (b / 2 ^ k % 2))
      ∙ bits (a / 2 ^ k % 2) (b / 2 ^ k % 2) (mod-lt (a / 2 ^ k) (lit< tt)) (mod-lt (b / 2 ^ k) (lit< tt))

  by_bits : (s a b : ℕ) → a < 256 ^ s → b < 256 ^ s → F a b ≡ sum (8 * s) (λ k. f (digit 2 a k) (digit 2 b k) * 2 ^ k)
  by_bits s a b ha hb =
      let ha' : a < 2 ^ (8 * s) = rw pow_bits at ha in
      let hb' : b < 2 ^ (8 * s) = rw pow_bits at hb in
      sym (mod-eq_of_lt (less (8 * s) a b ha' hb'))
      ∙ sym (digits_sum 2 (lit< tt) (8 * s) (F a b))
      ∙ sum_cong (8 * s) (λ k. digit 2 (F a b) k * 2 ^ k) (λ k. f (digit 2 a k) (digit 2 b k) * 2 ^ k) (λ k l. ap (λ (n : ℕ). n * 2 ^ k) (by_bit a b k))

differ_bits : (x y : ℕ) → x < 2 → y < 2 → differ x y % 2 ≡ (x + y) % 2
differ_bits zero zero hx hy = refl
differ_bits zero (suc zero) hx hy = refl
differ_bits zero (suc (suc y)) hx hy = absurd (let z : ⊥ = omega arith in z)
differ_bits (suc zero) zero hx hy = refl
differ_bits (suc zero) (suc zero) hx hy = refl
differ_bits (suc zero) (suc (suc y)) hx hy = absurd (let z : ⊥ = omega arith in z)
differ_bits (suc (suc x)) y hx hy = absurd (let z : ⊥ = omega arith in z)

min_bits : (x y : ℕ) → x < 2 → y < 2 → min x y % 2 ≡ min x y
min_bits x y hx hy = mod-eq_of_lt (omega arith)

max_bits : (x y : ℕ) → x < 2 → y < 2 → max x y % 2 ≡ max x y
max_bits x y hx hy = mod-eq_of_lt (omega arith)

pub xor_is : (s a b : ℕ) → a < 256 ^ s → b < 256 ^ s → bit_xor a b ≡ int_xor s a b
unfolding int_xor
xor_is = by_bits bit_xor differ (λ x y. (x + y) % 2) xor_shr xor_step differ_bits xor_lt

pub and_is : (s a b : ℕ) → a < 256 ^ s → b < 256 ^ s → bit_and a b ≡ int_and s a b
unfolding int_and
and_is = by_bits bit_and min min and_shr and_step min_bits and_lt

pub or_is : (s a b : ℕ) → a < 256 ^ s → b < 256 ^ s → bit_or a b ≡ int_or s a b
unfolding int_or
or_is = by_bits bit_or max max or_shr or_step max_bits or_lt
