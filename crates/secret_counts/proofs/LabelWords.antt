-- The labels of a word: how many of eight are secret, and what the words count where they lie in one block or in two.
use Rattle.std.proofs.Common.{◌≡◌, ℕ, zero, suc, ◌+◌, ◌-◌, ◌*◌, ◌/◌, ◌%◌, ◌^◌, ◌<◌, ◌≤◌, min, Bool, true, false, cond, ◌||◌, eqb, ltb, List, [], ◌∷◌, ◌++◌, length, get_or, set, sym, refl, ap, ◌∙◌, subst, ap₂, add-zero, div-lt_iff_lt-mul, zero-add, arith, lit<, length-append, length-set, get_or-set_other, get_or-set_same, get_or-append-add, pow-add, ltb-false, ltb-true, eqb-true}
use native.Mathlib.Nat.{div-eq_of_lt}
use borrow.Author.Tests.{eqb-false}
use lib.ListN.{get_or-append}
use lib.Count.{ones, ones_step}
use lib.Bits.{bit_and, and_step, and_zero_r}
use Rattle.word.specs.Sum.{tabulate, digit}
use Rattle.word.specs.Word.{significance, bytes_of}
use Rattle.word.proofs.Laws.{bytes-length, bytes_at_lem}
use Rattle.word.proofs.Shifts.{digit-div, digit_past}
use Rattle.word.proofs.Sums.{tabulate_is}
use Rattle.word.proofs.Powers.{size_pos}
use Rattle.std.specs.Int.{div_ceil}
use Rattle.secret_counts.specs.Recount.{blocks, count_words}
use Rattle.secret_counts.specs.Moved.{covers, tally, weigh, low_bit, Moved}

-- ---- the lowest bits of eight bytes

even : (w m : ℕ) → ones (bit_and w (m * 2)) ≡ ones (bit_and (w / 2) m)
even w m =
    let h : m * 2 / 2 ≡ m = omega arith in
    let z : m * 2 % 2 ≡ 0 = omega arith in
    let x : ℕ = bit_and (w / 2) m in
    let e : bit_and w (m * 2) ≡ x * 2 = and_step w (m * 2) ∙ rw (h, z) (let n : min (w % 2) 0 ≡ 0 = omega arith in rw n (add-zero (x * 2))) in
    let d : x * 2 / 2 ≡ x = omega arith in
    let r : x * 2 % 2 ≡ 0 = omega arith in
    ap ones e ∙ ones_step (x * 2) ∙ rw (d, r) (omega arith)

odd : (w m : ℕ) → ones (bit_and w (m * 2 + 1)) ≡ w % 2 + ones (bit_and (w / 2) m)
odd w m =
    let h : (m * 2 + 1) / 2 ≡ m = omega arith in
    let z : (m * 2 + 1) % 2 ≡ 1 = omega arith in
    let x : ℕ = bit_and (w / 2) m in
    let b : min (w % 2) 1 ≡ w % 2 = omega arith in
    let e : bit_and w (m * 2 + 1) ≡ x * 2 + w % 2 = and_step w (m * 2 + 1) ∙ rw (h, z, b) refl in
    let d : (x * 2 + w % 2) / 2 ≡ x = omega arith in
    let r : (x * 2 + w % 2) % 2 ≡ w % 2 = omega arith in
    ap ones e ∙ ones_step (x * 2 + w % 2) ∙ rw (d, r) refl

byte : (w m : ℕ) → ones (bit_and w (m * 256 + 1)) ≡ w % 2 + ones (bit_and (w / 256) m)
byte w m =
    let first : m * 256 + 1 ≡ m * 128 * 2 + 1 = omega arith in
    let e7 : m * 128 ≡ m * 64 * 2 = omega arith in
    let e6 : m * 64 ≡ m * 32 * 2 = omega arith in
    let e5 : m * 32 ≡ m * 16 * 2 = omega arith in
    let e4 : m * 16 ≡ m * 8 * 2 = omega arith in
    let e3 : m * 8 ≡ m * 4 * 2 = omega arith in
    let e2 : m * 4 ≡ m * 2 * 2 = omega arith in
    let down : w / 2 / 2 / 2 / 2 / 2 / 2 / 2 / 2 ≡ w / 256 = omega arith in
    ap (λ (n : ℕ). ones (bit_and w n)) first ∙ odd w (m * 128)
    ∙ ap (λ (n : ℕ). w % 2 + n)
    (ap (λ (n : ℕ). ones (bit_and (w / 2) n)) e7 ∙ even (w / 2) (m * 64)
    ∙ ap (λ (n : ℕ). ones (bit_and (w / 2 / 2) n)) e6 ∙ even (w / 2 / 2) (m * 32)
    ∙ ap (λ (n : ℕ). ones (bit_and (w / 2 / 2 / 2) n)) e5 ∙ even (w / 2 / 2 / 2) (m * 16)
    ∙ ap (λ (n : ℕ). ones (bit_and (w / 2 / 2 / 2 / 2) n)) e4 ∙ even (w / 2 / 2 / 2 / 2) (m * 8)
    ∙ ap (λ (n : ℕ). ones (bit_and (w / 2 / 2 / 2 / 2 / 2) n)) e3 ∙ even (w / 2 / 2 / 2 / 2 / 2) (m * 4)
    ∙ ap (λ (n : ℕ). ones (bit_and (w / 2 / 2 / 2 / 2 / 2 / 2) n)) e2 ∙ even (w / 2 / 2 / 2 / 2 / 2 / 2) (m * 2)
    ∙ even (w / 2 / 2 / 2 / 2 / 2 / 2 / 2) m
    ∙ ap (λ (n : ℕ). ones (bit_and n m)) down)

-- the lowest bit of each of n bytes
mask : ℕ → ℕ
mask zero = 0
mask (suc n) = mask n * 256 + 1

weigh_cong : (weight : ℕ → ℕ) (n : ℕ) (f g : ℕ → ℕ) → ((i : ℕ) → f i ≡ g i) → weigh weight (tabulate n f) ≡ weigh weight (tabulate n g)
unfolding weigh tabulate
weigh_cong weight zero f g h = refl
weigh_cong weight (suc n) f g h = rw (h 0, weigh_cong weight n (λ i. f (suc i)) (λ i. g (suc i)) (λ i. h (suc i))) refl

low_bit_lem : (x : ℕ) → digit 256 x 0 % 2 ≡ x % 2
unfolding digit
low_bit_lem x = omega arith

masked : (n w : ℕ) → ones (bit_and w (mask n)) ≡ weigh low_bit (bytes_of false n w)
unfolding mask weigh bytes_of tabulate significance low_bit ones
masked zero w = ap ones (and_zero_r w)
masked (suc n) w =
    let lowest : digit 256 w 0 % 2 ≡ w % 2 = low_bit_lem w in
    byte w (mask n) ∙ ap₂ (λ (a b : ℕ). a + b) (sym lowest)
    (masked n (w / 256) ∙ weigh_cong low_bit n (λ i. digit 256 (w / 256) i) (λ i. digit 256 w (suc i)) (λ i. digit-div w 1 i ∙ ap (digit 256 w) (omega arith)))

pub eight_masked : (w : ℕ) → ones (bit_and w 0x0101010101010101) ≡ weigh low_bit (bytes_of false 8 w)
unfolding mask
eight_masked w = masked 8 w

-- ---- bytes cut in two

bytes_cut : (n k w : ℕ) → bytes_of false (n + k) w ≡ bytes_of false n w ++ bytes_of false k (w / 256 ^ n)
unfolding significance tabulate bytes_of
bytes_cut n k w = tabulate_is (n + k) (λ i. digit 256 w i) (low ++ high) lengths (λ i h. by i (ltb i n) refl h)
  where
    low : List ℕ
    low = bytes_of false n w

    high : List ℕ
    high = bytes_of false k (w / 256 ^ n)

    lengths : length (low ++ high) ≡ n + k
    lengths = length-append low high ∙ rw (bytes-length false n w, bytes-length false k (w / 256 ^ n)) refl

    by : (i : ℕ) (t : Bool) → ltb i n ≡ t → i < n + k → digit 256 w i ≡ get_or (low ++ high) i 0
    by i true t h =
        let l : i < n = ltb-true i n t in
        sym (get_or-append low high 0 i (rw (bytes-length false n w) l) ∙ bytes_at_lem false n w i l)
    by i false t h =
        let l : n ≤ i = ltb-false i n t in
        let e : length low + (i - n) ≡ i = rw (bytes-length false n w) (omega arith) in
        let s : n + (i - n) ≡ i = omega arith in
        sym (ap (λ (j : ℕ). get_or (low ++ high) j 0) (sym e) ∙ get_or-append-add low high (i - n) 0
        ∙ bytes_at_lem false k (w / 256 ^ n) (i - n) (omega arith) ∙ digit-div w n (i - n) ∙ ap (digit 256 w) s)

weigh-append : (weight : ℕ → ℕ) (xs ys : List ℕ) → weigh weight (xs ++ ys) ≡ weigh weight xs + weigh weight ys
unfolding weigh
weigh-append weight [] ys = omega arith
weigh-append weight (x ∷ xs) ys = rw (weigh-append weight xs ys) (omega arith)

-- a word of `size` bytes has no more
weigh-zeros : (k : ℕ) → weigh low_bit (bytes_of false k 0) ≡ 0
unfolding weigh bytes_of tabulate low_bit significance
weigh-zeros k = weigh_cong low_bit k (λ i. digit 256 0 i) (λ i. 0) (λ i. digit_past 0 0 i (lit< tt) (omega arith)) ∙ none k
  where
    none : (n : ℕ) → weigh low_bit (tabulate n (λ i. 0)) ≡ 0
    none zero = refl
    none (suc n) = rw (none n) refl

weigh_fits : (size w : ℕ) → size ≤ 8 → w < 256 ^ size → weigh low_bit (bytes_of false 8 w) ≡ weigh low_bit (bytes_of false size w)
weigh_fits size w h l =
    let e : size + (8 - size) ≡ 8 = omega arith in
    let z : w / 256 ^ size ≡ 0 = div-eq_of_lt l in
    ap (λ (n : ℕ). weigh low_bit (bytes_of false n w)) (sym e) ∙ ap (weigh low_bit) (bytes_cut size (8 - size) w)
    ∙ weigh-append low_bit (bytes_of false size w) (bytes_of false (8 - size) (w / 256 ^ size))
    ∙ rw (z, weigh-zeros (8 - size)) (add-zero (weigh low_bit (bytes_of false size w)))

-- ---- labels in one block, and on both sides of a border

module _ (weight : ℕ → ℕ) (extent j : ℕ) where
  tally-append : (i : ℕ) (xs ys : List ℕ) → tally weight extent j i (xs ++ ys) ≡ tally weight extent j i xs + tally weight extent j (i + length xs) ys
  unfolding tally
  tally-append i [] ys = let e : i + 0 ≡ i = omega arith in rw e (omega arith)
  tally-append i (x ∷ xs) ys =
      let e : suc i + length xs ≡ i + suc (length xs) = omega arith in
      rw (tally-append (suc i) xs ys, e) (omega arith)

  -- all in block b
  tally_block : (b i : ℕ) (ls : List ℕ) → b * 64 ≤ i → i + length ls ≤ b * 64 + 64
      → tally weight extent j i ls ≡ cond (eqb j (blocks extent) || eqb j b) (weigh weight ls) 0
  unfolding tally covers weigh
  tally_block b i [] l h = either_zero (eqb j (blocks extent) || eqb j b)
    where
      either_zero : (t : Bool) → ◌≡◌ {A = ℕ} 0 (cond t 0 0)
      either_zero true = refl
      either_zero false = refl
  tally_block b i (x ∷ ls) l h =
      let e : i / 64 ≡ b = omega arith in
      rw (e, tally_block b (suc i) ls (omega arith) (omega arith)) (both (eqb j (blocks extent) || eqb j b))
    where
      both : (t : Bool) → cond t (weight x) 0 + cond t (weigh weight ls) 0 ≡ cond t (weight x + weigh weight ls) 0
      both true = refl
      both false = refl

-- ---- the counts where a word of labels changes

-- a word that grows
abbrev pub grew : (counts : List ℕ) (j by : ℕ) → List ℕ
grew counts j by = set counts j ((get_or counts j 0 + by) % 2 ^ 64)

grew_here : (counts : List ℕ) (j by : ℕ) → j < length counts → get_or (grew counts j by) j 0 ≡ (get_or counts j 0 + by) % 2 ^ 64
grew_here counts j by h = get_or-set_same counts j ((get_or counts j 0 + by) % 2 ^ 64) 0 h

grew_elsewhere : (counts : List ℕ) (j by k : ℕ) → (k ≡ j → ⊥) → get_or (grew counts j by) k 0 ≡ get_or counts k 0
grew_elsewhere counts j by k h = get_or-set_other counts j k ((get_or counts j 0 + by) % 2 ^ 64) 0 h

grown : (c m o n : ℕ) → (m + o) % 2 ^ 64 ≡ n → ((c + m) % 2 ^ 64 + o) % 2 ^ 64 ≡ (c + n) % 2 ^ 64
grown c m o n e = omega (arith, e)

fold : (x y : ℕ) → (x % 2 ^ 64 + y) % 2 ^ 64 ≡ (x + y) % 2 ^ 64
fold x y = omega arith

cancel : (x n q : ℕ) → n < 2 ^ 64 → (q + x) % 2 ^ 64 ≡ n + q → x % 2 ^ 64 ≡ n
cancel x n q h e = omega (arith, h, e)

-- a difference of two words, and what was taken away
pub taken_off : (a b : ℕ) → a < 2 ^ 64 → b < 2 ^ 64 → ((a + (2 ^ 64 - b)) % 2 ^ 64 + b) % 2 ^ 64 ≡ a
taken_off a b h k = omega (arith, h, k)

-- the far part of what is gained, taken off the whole, leaves the near part
near_gain : (more far near o n p q : ℕ) → (more + (o + p)) % 2 ^ 64 ≡ n + q → (far + p) % 2 ^ 64 ≡ q → (near + far) % 2 ^ 64 ≡ more → n < 2 ^ 64
    → (near + o) % 2 ^ 64 ≡ n
near_gain more far near o n p q e f g h =
    cancel (near + o) n q h
    (ap (λ (x : ℕ). (x + (near + o)) % 2 ^ 64) (sym f)
    ∙ fold (far + p) (near + o)
    ∙ ap (λ (x : ℕ). x % 2 ^ 64) (turn far p near o)
    ∙ sym (fold (near + far) (o + p))
    ∙ ap (λ (x : ℕ). (x + (o + p)) % 2 ^ 64) g
    ∙ e)
  where
    turn : (a b c d : ℕ) → (a + b) + (c + d) ≡ (c + a) + (d + b)
    turn a b c d = omega arith

weigh_few : (k w : ℕ) → weigh low_bit (bytes_of false k w) ≤ k
unfolding weigh bytes_of tabulate low_bit
weigh_few k w = few k (λ i. digit 256 w (significance false k i))
  where
    few : (n : ℕ) (f : ℕ → ℕ) → weigh low_bit (tabulate n f) ≤ n
    few zero f = omega arith
    few (suc n) f = omega (arith, few n (λ i. f (suc i)))

-- where a word of labels becomes another
module _ (extent at size old new more : ℕ) (counts : List ℕ) (some : 1 ≤ size) (most : size ≤ 8) (inside : at + size ≤ extent)
    (room : count_words extent ≤ length counts) (ho : old < 256 ^ size) (hn : new < 256 ^ size)
    (gain : (more + weigh low_bit (bytes_of false 8 old)) % 2 ^ 64 ≡ weigh low_bit (bytes_of false 8 new)) where
  abbrev block : ℕ
  block = at / 64

  -- where the total stands, as the code has it
  abbrev pub last : ℕ
  last = div_ceil extent 64

  total_is : blocks extent ≡ last
  unfolding blocks
  total_is = omega (arith, some, inside)

  pub total_inside : last < length counts
  unfolding count_words
  total_inside = omega (arith, room, total_is)

  pub block_first : block < last
  block_first = omega (arith, some, inside)

  gain_fits : (more + weigh low_bit (bytes_of false size old)) % 2 ^ 64 ≡ weigh low_bit (bytes_of false size new)
  gain_fits = rw (weigh_fits size old most ho, weigh_fits size new most hn) at gain

  abbrev summed : List ℕ
  summed = grew counts last more

  -- of a word that counts some of these labels, and of one that counts none
  abbrev Claim : (counts' : List ℕ) (j o n : ℕ) → Type 0
  Claim counts' j o n = (get_or counts' j 0 + o) % 2 ^ 64 ≡ (get_or counts j 0 + n) % 2 ^ 64

  module _ (near : size ≤ 64 - at % 64) where
    near_counts : (j : ℕ) (w : ℕ) → tally low_bit extent j at (bytes_of false size w) ≡ cond (eqb j last || eqb j block) (weigh low_bit (bytes_of false size w)) 0
    near_counts j w =
        let h : at + length (bytes_of false size w) ≤ block * 64 + 64 = rw (bytes-length false size w) (omega (arith, near)) in
        rw total_is at (tally_block low_bit extent j block at (bytes_of false size w) (omega arith) h)

    abbrev nearby : List ℕ
    nearby = grew summed block more

    near_word : (j : ℕ) (p q : Bool) → eqb j last ≡ p → eqb j block ≡ q
        → Claim nearby j (cond (p || q) (weigh low_bit (bytes_of false size old)) 0) (cond (p || q) (weigh low_bit (bytes_of false size new)) 0)
    near_word j true q ep eq =
        let e : j ≡ last = eqb-true j last ep in
        rw (e, grew_elsewhere summed block more last (λ z. let y : ⊥ = omega (arith, z, block_first) in y), grew_here counts last more total_inside)
        (grown (get_or counts last 0) more _ _ gain_fits)
    near_word j false true ep eq =
        let e : j ≡ block = eqb-true j block eq in
        let h : block < length summed = rw length-set (omega (arith, block_first, total_inside)) in
        rw (e, grew_here summed block more h, grew_elsewhere counts last more block (λ z. let y : ⊥ = omega (arith, z, block_first) in y))
        (grown (get_or counts block 0) more _ _ gain_fits)
    near_word j false false ep eq =
        rw (grew_elsewhere summed block more j (eqb-false j block eq), grew_elsewhere counts last more j (eqb-false j last ep)) refl

    pub near_moved : Moved low_bit extent at (bytes_of false size old) (bytes_of false size new) counts nearby
    unfolding count_words
    near_moved = record {
      same_length = rw (length-set, length-set) refl;
      words = λ j h. rw (near_counts j old, near_counts j new) (near_word j (eqb j last) (eqb j block) refl refl);
      further = λ j h.
          grew_elsewhere summed block more j (λ z. let y : ⊥ = omega (arith, z, h, block_first, total_is) in y)
          ∙ grew_elsewhere counts last more j (λ z. let y : ⊥ = omega (arith, z, h, total_is) in y);
    }

  module _ (border : 64 - at % 64 < size) (far rest : ℕ)
      (far-gain : (far + weigh low_bit (bytes_of false 8 (old / 256 ^ (64 - at % 64)))) % 2 ^ 64 ≡ weigh low_bit (bytes_of false 8 (new / 256 ^ (64 - at % 64))))
      (taken : (rest + far) % 2 ^ 64 ≡ more) where
    abbrev here : ℕ
    here = 64 - at % 64

    abbrev there : ℕ
    there = size - here

    cut : (w : ℕ) → bytes_of false size w ≡ bytes_of false here w ++ bytes_of false there (w / 256 ^ here)
    cut w = let e : here + there ≡ size = omega (arith, border) in ap (λ (n : ℕ). bytes_of false n w) (sym e) ∙ bytes_cut here there w

    far_fits : (w : ℕ) → w < 256 ^ size → w / 256 ^ here < 256 ^ there
    far_fits w h =
        let e : size ≡ there + here = omega (arith, border) in
        (div-lt_iff_lt-mul (size_pos here)).1 (subst (λ (n : ℕ). w < n) (ap (λ (n : ℕ). 256 ^ n) e ∙ pow-add 256 there here) h)

    weigh_cut : (w : ℕ) → weigh low_bit (bytes_of false size w) ≡ weigh low_bit (bytes_of false here w) + weigh low_bit (bytes_of false there (w / 256 ^ here))
    weigh_cut w = ap (weigh low_bit) (cut w) ∙ weigh-append low_bit (bytes_of false here w) (bytes_of false there (w / 256 ^ here))

    far_gained : (far + weigh low_bit (bytes_of false there (old / 256 ^ here))) % 2 ^ 64 ≡ weigh low_bit (bytes_of false there (new / 256 ^ here))
    far_gained =
        rw (weigh_fits there (old / 256 ^ here) (omega (arith, most)) (far_fits old ho), weigh_fits there (new / 256 ^ here) (omega (arith, most)) (far_fits new hn)) at far-gain

    near_gained : (rest + weigh low_bit (bytes_of false here old)) % 2 ^ 64 ≡ weigh low_bit (bytes_of false here new)
    near_gained =
        near_gain more far rest (weigh low_bit (bytes_of false here old)) (weigh low_bit (bytes_of false here new)) (weigh low_bit (bytes_of false there (old / 256 ^ here)))
        (weigh low_bit (bytes_of false there (new / 256 ^ here))) (rw (weigh_cut old, weigh_cut new) at gain_fits) far_gained taken
        (let few : weigh low_bit (bytes_of false here new) ≤ here = weigh_few here new in omega (arith, few))

    -- the next block lies before the total too
    pub next_first : block + 1 < last
    next_first = omega (arith, border, inside)

    far_counts : (j : ℕ) (w : ℕ) → tally low_bit extent j at (bytes_of false size w)
        ≡ cond (eqb j last || eqb j block) (weigh low_bit (bytes_of false here w)) 0
        + cond (eqb j last || eqb j (block + 1)) (weigh low_bit (bytes_of false there (w / 256 ^ here))) 0
    far_counts j w =
        let lh : length (bytes_of false here w) ≡ here = bytes-length false here w in
        let lt : length (bytes_of false there (w / 256 ^ here)) ≡ there = bytes-length false there (w / 256 ^ here) in
        ap (tally low_bit extent j at) (cut w) ∙ tally-append low_bit extent j at (bytes_of false here w) (bytes_of false there (w / 256 ^ here))
        ∙ ap₂ (λ (a b : ℕ). a + b)
        (rw total_is at (tally_block low_bit extent j block at (bytes_of false here w) (omega arith) (rw lh (omega arith))))
        (rw total_is at (tally_block low_bit extent j (block + 1) (at + length (bytes_of false here w)) (bytes_of false there (w / 256 ^ here)) (rw lh (omega arith)) (rw (lh, lt) (omega (arith, most)))))

    abbrev middle : List ℕ
    middle = grew summed block rest

    abbrev beyond : List ℕ
    beyond = grew middle (block + 1) far

    far_word : (j : ℕ) (p q r : Bool) → eqb j last ≡ p → eqb j block ≡ q → eqb j (block + 1) ≡ r
        → Claim beyond j (cond (p || q) (weigh low_bit (bytes_of false here old)) 0 + cond (p || r) (weigh low_bit (bytes_of false there (old / 256 ^ here))) 0)
        (cond (p || q) (weigh low_bit (bytes_of false here new)) 0 + cond (p || r) (weigh low_bit (bytes_of false there (new / 256 ^ here))) 0)
    far_word j true q r ep eq er =
        let e : j ≡ last = eqb-true j last ep in
        rw (
          e,
          grew_elsewhere middle (block + 1) far last (λ z. let y : ⊥ = omega (arith, z, next_first) in y),
          grew_elsewhere summed block rest last (λ z. let y : ⊥ = omega (arith, z, block_first) in y),
          grew_here counts last more total_inside,
        )
        (grown (get_or counts last 0) more _ _ (rw (weigh_cut old, weigh_cut new) at gain_fits))
    far_word j false true true ep eq er =
        absurd (let a : j ≡ block = eqb-true j block eq in let b : j ≡ block + 1 = eqb-true j (block + 1) er in let y : ⊥ = omega (arith, a, b) in y)
    far_word j false true false ep eq er =
        let e : j ≡ block = eqb-true j block eq in
        let h : block < length summed = rw length-set (omega (arith, block_first, total_inside)) in
        let own = grown (get_or counts block 0) rest _ _ near_gained in
        rw (
          e,
          grew_elsewhere middle (block + 1) far block (λ z. let y : ⊥ = omega (arith, z) in y),
          grew_here summed block rest h,
          grew_elsewhere counts last more block (λ z. let y : ⊥ = omega (arith, z, block_first) in y),
          add-zero,
          add-zero,
        )
        own
    far_word j false false true ep eq er =
        let e : j ≡ block + 1 = eqb-true j (block + 1) er in
        let h : block + 1 < length middle = rw (length-set, length-set) (omega (arith, next_first, total_inside)) in
        let own = grown (get_or counts (block + 1) 0) far _ _ far_gained in
        rw (
          e,
          grew_here middle (block + 1) far h,
          grew_elsewhere summed block rest (block + 1) (λ z. let y : ⊥ = omega (arith, z) in y),
          grew_elsewhere counts last more (block + 1) (λ z. let y : ⊥ = omega (arith, z, next_first) in y),
          zero-add,
          zero-add,
        )
        own
    far_word j false false false ep eq er =
        rw (
          grew_elsewhere middle (block + 1) far j (eqb-false j (block + 1) er),
          grew_elsewhere summed block rest j (eqb-false j block eq),
          grew_elsewhere counts last more j (eqb-false j last ep),
        )
        refl

    pub far_moved : Moved low_bit extent at (bytes_of false size old) (bytes_of false size new) counts beyond
    unfolding count_words
    far_moved = record {
      same_length = rw (length-set, length-set, length-set) refl;
      words = λ j h. rw (far_counts j old, far_counts j new) (far_word j (eqb j last) (eqb j block) (eqb j (block + 1)) refl refl refl);
      further = λ j h.
          grew_elsewhere middle (block + 1) far j (λ z. let y : ⊥ = omega (arith, z, h, next_first, total_is) in y)
          ∙ grew_elsewhere summed block rest j (λ z. let y : ⊥ = omega (arith, z, h, block_first, total_is) in y)
          ∙ grew_elsewhere counts last more j (λ z. let y : ⊥ = omega (arith, z, h, total_is) in y);
    }
