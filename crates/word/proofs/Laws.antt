-- Laws of the values of bytes, over the size and the byte order.
use mathlib.Core.Path.{◌≡◌, refl, sym, ap, ◌∙◌}
use mathlib.Core.Bool.{Bool, true, false}
use mathlib.Core.List.{List, [], ◌∷◌}
use Prim.Native.Nat.{ℕ, zero, suc, ◌+◌, ◌-◌, ◌*◌, ◌/◌, ◌%◌, ◌^◌, ◌≤◌, ◌<◌}
use native.Mathlib.Nat.{add_comm, mul_assoc, lt_of_lt_of_le, mul-lt-mul_of_pos_right, pow-succ', mod-eq_of_lt}
use native.Mathlib.Omega.{arith}
use borrow.Author.Tests.{ltb-true, ltb-false}
use lib.Dec.{lit<, ltb}
use lib.Pow.{pow-add}
use lib.Bits.{bit_or, or_shifted, or_shifted_r}
use lib.ListN.{length, get_or, set, length-set}
use lib.Seq.{sets, length-sets, get_or-set_same, get_or-set_other}
use Rattle.word.specs.Sum.{sum, digit}
use Rattle.word.specs.Word.{Bytes, part, significance, value_of, bytes_of}
use Rattle.word.proofs.Sums.{sum_cong, sum-mul, sum-reverse, tabulate-length, tabulate_at, tabulate_past, tabulate_is}
use Rattle.word.proofs.Powers.{pow_bits, size_pos, size_most}
use Rattle.word.proofs.Digits.{digit_lt, digits_lt, digits_sum, digit_of_lem}

-- ---- places and weights

pub significance_lt : (big : Bool) (n i : ℕ) → i < n → significance big n i < n
unfolding significance
significance_lt false n i h = h
significance_lt true n i h = omega arith

-- the place of the byte with a weight is found as the weight of the byte at a place
pub significance_twice : (big : Bool) (n i : ℕ) → i < n → significance big n (significance big n i) ≡ i
unfolding significance
significance_twice false n i h = refl
significance_twice true n i h = omega arith

-- a value, summed from the lowest weight on
pub by_weight : (big : Bool) (n : ℕ) (d : ℕ → ℕ)
    → sum n (λ i. d i * 256 ^ significance big n i) ≡ sum n (λ k. d (significance big n k) * 256 ^ k)
unfolding significance
by_weight false n d = refl
by_weight true n d =
    sum-reverse n (λ i. d i * 256 ^ significance true n i)
    ∙ sum_cong n (λ i. d (n - 1 - i) * 256 ^ significance true n (n - 1 - i)) (λ k. d (significance true n k) * 256 ^ k)
    (λ i h. let weight : significance true n (n - 1 - i) ≡ i = omega arith in rw weight)

-- ---- parts

pub part_length : (l : List ℕ) (at n : ℕ) → length (part l at n) ≡ n
unfolding part
part_length l at n = tabulate-length n (λ i. get_or l (at + i) 0)

pub part_at : (l : List ℕ) (at n i : ℕ) → i < n → get_or (part l at n) i 0 ≡ get_or l (at + i) 0
unfolding part
part_at l at n i h = tabulate_at n (λ k. get_or l (at + k) 0) i h

pub part_bytes : (l : List ℕ) (at n : ℕ) → Bytes l → Bytes (part l at n)
unfolding part
part_bytes l at n h i = by (ltb i n) refl
  where
    by : (t : Bool) → ltb i n ≡ t → get_or (part l at n) i 0 < 256
    by true e = rw (tabulate_at n (λ k. get_or l (at + k) 0) i (ltb-true i n e)) (h (at + i))
    by false e = rw (tabulate_past n (λ k. get_or l (at + k) 0) i (ltb-false i n e)) (lit< tt)

-- ---- stores

-- what lies outside a run of stores stays
pub stored-before : (l : List ℕ) (at : ℕ) (vs : List ℕ) (j : ℕ) → j < at → get_or (sets l at vs) j 0 ≡ get_or l j 0
stored-before l at [] j h = refl
stored-before l at (v ∷ vs) j h =
    stored-before (set l at v) (suc at) vs j (omega arith) ∙ get_or-set_other l at j v 0 (λ e. let z : ⊥ = omega arith in z)

pub stored-after : (l : List ℕ) (at : ℕ) (vs : List ℕ) (j : ℕ) → at + length vs ≤ j → get_or (sets l at vs) j 0 ≡ get_or l j 0
stored-after l at [] j h = refl
stored-after l at (v ∷ vs) j h =
    stored-after (set l at v) (suc at) vs j (omega arith) ∙ get_or-set_other l at j v 0 (λ e. let z : ⊥ = omega arith in z)

-- what lies inside is what was stored
pub stored_at : (l : List ℕ) (at : ℕ) (vs : List ℕ) (k : ℕ) → at + length vs ≤ length l → k < length vs
    → get_or (sets l at vs) (at + k) 0 ≡ get_or vs k 0
stored_at l at [] k h i = absurd (let z : ⊥ = omega arith in z)
stored_at l at (v ∷ vs) zero h i =
    let e : at + 0 ≡ at = omega arith in
    rw e (stored-before (set l at v) (suc at) vs at (omega arith) ∙ get_or-set_same l at v 0 (omega arith))
stored_at l at (v ∷ vs) (suc k) h i =
    let e : at + suc k ≡ suc at + k = omega arith in
    let fits : suc at + length vs ≤ length (set l at v) = rw length-set (omega arith) in
    rw e (stored_at (set l at v) (suc at) vs k fits (omega arith))

pub stored-part : (l : List ℕ) (at : ℕ) (vs : List ℕ) → at + length vs ≤ length l → part (sets l at vs) at (length vs) ≡ vs
unfolding part
stored-part l at vs h =
    tabulate_is (length vs) (λ i. get_or (sets l at vs) (at + i) 0) vs refl (λ i k. stored_at l at vs i h k)

pub stored-length : (l : List ℕ) (at : ℕ) (vs : List ℕ) → length (sets l at vs) ≡ length l
stored-length l at vs = length-sets l at vs

-- ---- values and bytes

pub value_lt : (big : Bool) (bs : List ℕ) → Bytes bs → value_of big bs < 256 ^ length bs
unfolding value_of
value_lt big bs h =
    rw (by_weight big (length bs) (λ i. get_or bs i 0))
    (digits_lt 256 (lit< tt) (length bs) (λ k. get_or bs (significance big (length bs) k) 0) (λ i l. h (significance big (length bs) i)))

pub bytes-length : (big : Bool) (n v : ℕ) → length (bytes_of big n v) ≡ n
unfolding bytes_of
bytes-length big n v = tabulate-length n (λ i. digit 256 v (significance big n i))

pub bytes_at_lem : (big : Bool) (n v i : ℕ) → i < n → get_or (bytes_of big n v) i 0 ≡ digit 256 v (significance big n i)
unfolding bytes_of
bytes_at_lem big n v i h = tabulate_at n (λ k. digit 256 v (significance big n k)) i h

pub bytes_bytes : (big : Bool) (n v : ℕ) → Bytes (bytes_of big n v)
unfolding bytes_of
bytes_bytes big n v i = by (ltb i n) refl
  where
    by : (t : Bool) → ltb i n ≡ t → get_or (bytes_of big n v) i 0 < 256
    by true e = rw (bytes_at_lem big n v i (ltb-true i n e)) (digit_lt 256 (lit< tt) v (significance big n i))
    by false e = rw (tabulate_past n (λ k. digit 256 v (significance big n k)) i (ltb-false i n e)) (lit< tt)

-- reading what was written gives the number, but for a multiple of 256^n
pub read_written : (big : Bool) (n v : ℕ) → value_of big (bytes_of big n v) ≡ v % 256 ^ n
unfolding value_of
read_written big n v =
    rw (bytes-length big n v)
    (sum_cong n (λ i. get_or (bytes_of big n v) i 0 * 256 ^ significance big n i) (λ i. digit 256 v (significance big n i) * 256 ^ significance big n i)
    (λ i h. rw (bytes_at_lem big n v i h))
    ∙ by_weight big n (λ i. digit 256 v (significance big n i))
    ∙ sum_cong n (λ k. digit 256 v (significance big n (significance big n k)) * 256 ^ k) (λ k. digit 256 v k * 256 ^ k)
    (λ k h. rw (significance_twice big n k h))
    ∙ digits_sum 256 (lit< tt) n v)

pub read_written_fits : (big : Bool) (n v : ℕ) → v < 256 ^ n → value_of big (bytes_of big n v) ≡ v
read_written_fits big n v h = read_written big n v ∙ mod-eq_of_lt h

-- writing what was read gives the bytes back
pub written_read : (big : Bool) (bs : List ℕ) → Bytes bs → bytes_of big (length bs) (value_of big bs) ≡ bs
unfolding bytes_of value_of
written_read big bs h =
    tabulate_is (length bs) (λ i. digit 256 (value_of big bs) (significance big (length bs) i)) bs refl
    (λ i l.
    rw (by_weight big (length bs) (λ k. get_or bs k 0))
    (digit_of_lem 256 (lit< tt) (length bs) (λ k. get_or bs (significance big (length bs) k) 0) (λ k m. h (significance big (length bs) k))
    (significance big (length bs) i) (significance_lt big (length bs) i l)
    ∙ ap (λ (k : ℕ). get_or bs k 0) (significance_twice big (length bs) i l)))

-- ---- what gather and scatter do

-- a byte at its weight
pub byte_fits : (b k : ℕ) → b < 256 → k < 8 → b * 256 ^ k < 2 ^ 64
byte_fits b k hb hk = lt_of_lt_of_le (mul-lt-mul_of_pos_right hb (size_pos k)) (rw (← (pow-succ' 256 k)) (size_most (suc k) hk))

value_part : (big : Bool) (l : List ℕ) (at n : ℕ) → value_of big (part l at n) ≡ sum n (λ i. get_or l (at + i) 0 * 256 ^ significance big n i)
unfolding value_of
value_part big l at n =
    rw (part_length l at n)
    (sum_cong n (λ i. get_or (part l at n) i 0 * 256 ^ significance big n i) (λ i. get_or l (at + i) 0 * 256 ^ significance big n i)
    (λ i h. rw (part_at l at n i h)))

-- the first i bytes of n, by their weights
unfoldable pub gathered : (big : Bool) (l : List ℕ) (at n i : ℕ) → ℕ
gathered big l at n i = sum i (λ j. get_or l (at + j) 0 * 256 ^ significance big n j)

module _ (big : Bool) (l : List ℕ) (at n : ℕ) where
  pub gathered_none : gathered big l at n 0 ≡ 0
  unfolding gathered sum
  gathered_none = refl

  pub gathered_all : gathered big l at n n ≡ value_of big (part l at n)
  unfolding gathered
  gathered_all = sym (value_part big l at n)

-- the bytes passed have no bit in common with the next byte at its weight: in little order they lie below it, in big order above
pub gathered_or : (big : Bool) (l : List ℕ) (at n : ℕ) → Bytes l → (i : ℕ) → i < n
    → bit_or (gathered big l at n i) (get_or l (at + i) 0 * 256 ^ significance big n i) ≡ gathered big l at n (suc i)
unfolding gathered significance sum
gathered_or false l at n b i h =
    let below : sum i (λ j. get_or l (at + j) 0 * 256 ^ j) < 2 ^ (8 * i) =
    rw (← (pow_bits i)) (digits_lt 256 (lit< tt) i (λ j. get_or l (at + j) 0) (λ j k. b (at + j))) in
    rw (pow_bits i)
    (or_shifted_r (get_or l (at + i) 0) (8 * i) (sum i (λ j. get_or l (at + j) 0 * 256 ^ j)) below
    ∙ add_comm (get_or l (at + i) 0 * 2 ^ (8 * i)) (sum i (λ j. get_or l (at + j) 0 * 256 ^ j)))
gathered_or true l at n b i h =
    let last = n - 1 - i in
    let passed : ℕ = sum i (λ j. get_or l (at + j) 0 * 256 ^ (i - 1 - j)) in
    let term : (j : ℕ) → j < i → get_or l (at + j) 0 * 256 ^ (n - 1 - j) ≡ get_or l (at + j) 0 * 256 ^ (i - 1 - j) * 256 ^ suc last = λ j k.
    let e : n - 1 - j ≡ i - 1 - j + suc last = omega arith in
    ap (λ (x : ℕ). get_or l (at + j) 0 * 256 ^ x) e
    ∙ ap (λ (x : ℕ). get_or l (at + j) 0 * x) (pow-add 256 (i - 1 - j) (suc last))
    ∙ sym (mul_assoc (get_or l (at + j) 0) (256 ^ (i - 1 - j)) (256 ^ suc last)) in
    let above : sum i (λ j. get_or l (at + j) 0 * 256 ^ (n - 1 - j)) ≡ passed * 2 ^ (8 * suc last) =
    rw (← (pow_bits (suc last)))
    (sum_cong i (λ j. get_or l (at + j) 0 * 256 ^ (n - 1 - j)) (λ j. get_or l (at + j) 0 * 256 ^ (i - 1 - j) * 256 ^ suc last) term
    ∙ sum-mul i (λ j. get_or l (at + j) 0 * 256 ^ (i - 1 - j)) (256 ^ suc last)) in
    let small : get_or l (at + i) 0 * 256 ^ last < 2 ^ (8 * suc last) =
    rw (← (pow_bits (suc last)), pow-succ' 256 last) (mul-lt-mul_of_pos_right (b (at + i)) (size_pos last)) in
    rw above (or_shifted passed (8 * suc last) (get_or l (at + i) 0 * 256 ^ last) small)

-- the byte that scatter writes at place i
pub scattered : (big : Bool) (n v i : ℕ) → i < n → v / 2 ^ (8 * significance big n i) % 256 ≡ get_or (bytes_of big n v) i 0
unfolding digit
scattered big n v i h = rw (← (pow_bits (significance big n i))) (sym (bytes_at_lem big n v i h))
