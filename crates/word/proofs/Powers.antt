-- Powers of 256 and numbers cut to a size.
use mathlib.Core.Path.{◌≡◌, refl, sym, ap, ◌∙◌, subst}
use Prim.Native.Nat.{ℕ, zero, suc, ◌+◌, ◌-◌, ◌*◌, ◌/◌, ◌%◌, ◌^◌, ◌≤◌, ◌<◌}
use native.Mathlib.Nat.{add-zero, pow-suc, mod-lt, mod-eq_of_lt, div-add-mod', lt_of_mul-lt-mul_right, mul-add-mod_self_right, pow-le-pow_right, one-le-pow}
use native.Mathlib.Omega.{arith}
use lib.Dec.{lit<}
use lib.Pow.{pow_pos, pow-add, mod-mod-pow, mod-pow-add, ones_split, ones_lt, high, low}

eight : (k : ℕ) → 8 * k + 8 ≡ 8 * suc k
eight k = omega arith

pub pow_bits : (n : ℕ) → 256 ^ n ≡ 2 ^ (8 * n)
pow_bits zero = refl
pow_bits (suc n) = pow-suc 256 n ∙ ap (λ (x : ℕ). x * 256) (pow_bits n) ∙ sym (pow-add 2 (8 * n) 8) ∙ ap (λ (x : ℕ). 2 ^ x) (eight n)

pub size_pos : (s : ℕ) → 0 < 256 ^ s
size_pos s = one-le-pow s 256 (lit< tt)

pub size_mono : (s t : ℕ) → s ≤ t → 256 ^ s ≤ 256 ^ t
size_mono s t h = pow-le-pow_right {n = 256} (lit< tt) h

-- by the power of one byte less
pub size_less : (s : ℕ) → 1 ≤ s → 256 ^ s ≡ 256 ^ (s - 1) * 256
size_less s some = let e : s ≡ suc (s - 1) = omega arith in ap (λ (n : ℕ). 256 ^ n) e ∙ pow-suc 256 (s - 1)

pub size_most : (s : ℕ) → s ≤ 8 → 256 ^ s ≤ 2 ^ 64
size_most s h = size_mono s 8 h

-- how many numbers of size s a word holds, times their number
pub word_of : (s : ℕ) → s ≤ 8 → 2 ^ 64 ≡ 2 ^ (64 - 8 * s) * 256 ^ s
word_of s h =
    let e : 64 ≡ (64 - 8 * s) + 8 * s = omega arith in
    rw (pow_bits s) (ap (λ (k : ℕ). 2 ^ k) e ∙ pow-add 2 (64 - 8 * s) (8 * s))

-- a shift by whole bytes that loses nothing
pub shifted_bytes : (a k : ℕ) → a * 256 ^ k < 2 ^ 64 → a * 2 ^ (8 * k) % 2 ^ 64 ≡ a * 256 ^ k
shifted_bytes a k h = rw (← (pow_bits k)) (mod-eq_of_lt h)

-- a shift by whole bytes loses what does not fit above them
pub shifted_low : (a k : ℕ) → k ≤ 8 → a * 2 ^ (8 * k) % 2 ^ 64 ≡ a % 256 ^ (8 - k) * 256 ^ k
shifted_low a k h =
    let e : 64 ≡ 8 * (8 - k) + 8 * k = omega arith in
    let whole : a * 2 ^ (8 * k) / 2 ^ (8 * k) ≡ a = rw add-zero at (high a (8 * k) (pow_pos (8 * k))) in
    let none : a * 2 ^ (8 * k) % 2 ^ (8 * k) ≡ 0 = rw add-zero at (low a (8 * k) (pow_pos (8 * k))) in
    rw (pow_bits k, pow_bits (8 - k))
    (ap (λ (n : ℕ). a * 2 ^ (8 * k) % 2 ^ n) e ∙ mod-pow-add (a * 2 ^ (8 * k)) (8 * (8 - k)) (8 * k) ∙ rw (whole, none) (add-zero _))

-- a remainder by 2^64 does not change the remainder by a smaller power
pub low_part_lem : (x s : ℕ) → s ≤ 8 → x % 2 ^ 64 % 256 ^ s ≡ x % 256 ^ s
low_part_lem x s h =
    let e : 64 ≡ 64 - 8 * s + 8 * s = omega arith in
    rw (pow_bits s) (ap (λ (k : ℕ). x % 2 ^ k % 2 ^ (8 * s)) e ∙ mod-mod-pow x (64 - 8 * s) (8 * s))

pub largest_is : (s : ℕ) → s ≤ 8 → 18446744073709551615 / 2 ^ (64 - 8 * s) ≡ 256 ^ s - 1
largest_is s h =
    rw (pow_bits s)
    (ap (λ (n : ℕ). n / 2 ^ (64 - 8 * s))
    (subst (λ (k : ℕ). 2 ^ k - 1 ≡ (2 ^ (8 * s) - 1) * 2 ^ (64 - 8 * s) + (2 ^ (64 - 8 * s) - 1)) e (ones_split (8 * s) (64 - 8 * s)))
    ∙ high (2 ^ (8 * s) - 1) (64 - 8 * s) (ones_lt (64 - 8 * s)))
  where
    e : 8 * s + (64 - 8 * s) ≡ 64
    e = omega arith

-- all bits of a word flipped, and then cut, is cut and then flipped
pub flipped_low : (x s : ℕ) → s ≤ 8 → x < 2 ^ 64 → (2 ^ 64 - 1 - x) % 256 ^ s ≡ 256 ^ s - 1 - x % 256 ^ s
flipped_low x s h hx = go (2 ^ (64 - 8 * s)) (256 ^ s) (x / 256 ^ s) (x % 256 ^ s) (word_of s h) (size_pos s) (div-add-mod' x (256 ^ s)) (mod-lt x (size_pos s))
  where
    go : (k m q t : ℕ) → 2 ^ 64 ≡ k * m → 0 < m → q * m + t ≡ x → t < m → (2 ^ 64 - 1 - x) % m ≡ m - 1 - t
    go k m q t ek pm ex ht =
        let less : q < k = lt_of_mul-lt-mul_right m (omega arith) in
        let ed : k * m ≡ (k - 1 - q + 1 + q) * m = ap (λ (n : ℕ). n * m) (omega arith) in
        let e : 2 ^ 64 - 1 - x ≡ (k - 1 - q) * m + (m - 1 - t) = omega arith in
        ap (λ (n : ℕ). n % m) e ∙ mul-add-mod_self_right (k - 1 - q) m (m - 1 - t) ∙ mod-eq_of_lt (omega arith)
