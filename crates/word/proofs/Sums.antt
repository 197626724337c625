-- Laws of sums and of tabulated and reversed lists.
use mathlib.Core.Path.{◌≡◌, refl, sym, ap, ap₂, ◌∙◌}
use mathlib.Core.Bool.{Bool, true, false}
use mathlib.Core.List.{List, [], ◌∷◌, ◌++◌, reverse, reverse-cons}
use Prim.Native.Nat.{ℕ, zero, suc, ◌+◌, ◌-◌, ◌*◌, ◌≤◌, ◌<◌}
use native.Mathlib.Nat.{zero-mul, add-mul}
use native.Mathlib.Omega.{arith}
use borrow.Author.Tests.{ltb-true, ltb-false}
use lib.Dec.{ltb}
use lib.ListN.{length, get_or, replicate, length-reverse, get_or-eq_default, get_or-append}
use lib.Seq.{ext_get_or, get_or-append_seam}
use Rattle.word.specs.Sum.{sum, tabulate}

pub sum_cong : (n : ℕ) (f g : ℕ → ℕ) → ((i : ℕ) → i < n → f i ≡ g i) → sum n f ≡ sum n g
unfolding sum
sum_cong zero f g h = refl
sum_cong (suc n) f g h = ap₂ (λ (a b : ℕ). a + b) (sum_cong n f g (λ i l. h i (omega arith))) (h n (omega arith))

pub sum-add : (n : ℕ) (f g : ℕ → ℕ) → sum n (λ i. f i + g i) ≡ sum n f + sum n g
unfolding sum
sum-add zero f g = refl
sum-add (suc n) f g = omega (arith, sum-add n f g)

-- a common factor
pub sum-mul : (n : ℕ) (f : ℕ → ℕ) (c : ℕ) → sum n (λ i. f i * c) ≡ sum n f * c
unfolding sum
sum-mul zero f c = sym (zero-mul c)
sum-mul (suc n) f c = ap (λ (x : ℕ). x + f n * c) (sum-mul n f c) ∙ sym (add-mul (sum n f) (f n) c)

sum_head : (n : ℕ) (f : ℕ → ℕ) → sum (suc n) f ≡ f 0 + sum n (λ i. f (suc i))
unfolding sum
sum_head zero f = omega arith
sum_head (suc n) f = omega (arith, sum_head n f)

-- the same terms, from the last to the first
pub sum-reverse : (n : ℕ) (f : ℕ → ℕ) → sum n f ≡ sum n (λ i. f (n - 1 - i))
unfolding sum
sum-reverse zero f = refl
sum-reverse (suc n) f =
    let last : suc n - 1 - 0 ≡ n = omega arith in
    let rest : sum n (λ i. f (n - 1 - i)) ≡ sum n (λ i. f (suc n - 1 - suc i)) =
    sum_cong n (λ i. f (n - 1 - i)) (λ i. f (suc n - 1 - suc i)) (λ i l. ap f (omega arith)) in
    omega (arith, sum-reverse n f, rest, sum_head n (λ i. f (suc n - 1 - i)), ap f last)

pub tabulate-length : (n : ℕ) (f : ℕ → ℕ) → length (tabulate n f) ≡ n
unfolding tabulate
tabulate-length zero f = refl
tabulate-length (suc n) f = ap suc (tabulate-length n (λ i. f (suc i)))

pub tabulate_at : (n : ℕ) (f : ℕ → ℕ) (i : ℕ) → i < n → get_or (tabulate n f) i 0 ≡ f i
unfolding tabulate
tabulate_at zero f i h = absurd (let z : ⊥ = omega arith in z)
tabulate_at (suc n) f zero h = refl
tabulate_at (suc n) f (suc i) h = tabulate_at n (λ k. f (suc k)) i (omega arith)

pub tabulate_past : (n : ℕ) (f : ℕ → ℕ) (i : ℕ) → n ≤ i → get_or (tabulate n f) i 0 ≡ 0
tabulate_past n f i h = get_or-eq_default (tabulate n f) 0 (rw tabulate-length h)

pub tabulate_same : (n c : ℕ) → tabulate n (λ i. c) ≡ replicate n c
unfolding tabulate
tabulate_same zero c = refl
tabulate_same (suc n) c = ap (λ (l : List ℕ). c ∷ l) (tabulate_same n c)

-- a list is what its entries are
pub tabulate_is : (n : ℕ) (f : ℕ → ℕ) (l : List ℕ) → length l ≡ n → ((i : ℕ) → i < n → f i ≡ get_or l i 0) → tabulate n f ≡ l
tabulate_is n f l e h =
    ext_get_or 0 (tabulate n f) l (tabulate-length n f ∙ sym e)
    (λ i k. let b : i < n = omega (arith, tabulate-length n f) in tabulate_at n f i b ∙ h i b)

-- a reversed list, entry by entry
pub reversed_at : (l : List ℕ) (i : ℕ) → i < length l → get_or (reverse l) i 0 ≡ get_or l (length l - 1 - i) 0
reversed_at [] i h = absurd (let z : ⊥ = omega arith in z)
reversed_at (x ∷ l) i h = ap (λ (r : List ℕ). get_or r i 0) (reverse-cons x l) ∙ by (ltb i (length l)) refl (reversed_at l i)
  where
    by : (t : Bool) → ltb i (length l) ≡ t → (i < length l → get_or (reverse l) i 0 ≡ get_or l (length l - 1 - i) 0)
        → get_or (reverse l ++ (x ∷ [])) i 0 ≡ get_or (x ∷ l) (length (x ∷ l) - 1 - i) 0
    by true e ih =
        let k : i < length l = ltb-true i (length l) e in
        let inside : i < length (reverse l) = rw (length-reverse l) k in
        let next : suc (length l) - 1 - i ≡ suc (length l - 1 - i) = omega arith in
        rw next (get_or-append (reverse l) (x ∷ []) 0 i inside ∙ ih k)
    by false e ih =
        let last : i ≡ length (reverse l) = omega (arith, ltb-false i (length l) e, length-reverse l) in
        let first : suc (length l) - 1 - i ≡ 0 = omega (arith, ltb-false i (length l) e) in
        rw first (ap (λ (k : ℕ). get_or (reverse l ++ (x ∷ [])) k 0) last ∙ get_or-append_seam (reverse l) x [] 0)
