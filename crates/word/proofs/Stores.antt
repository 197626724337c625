-- A loop that stores f 0, f 1, .. f (n - 1) in a list from a place on, one a turn.
use Prim.Native.Nat.{ℕ, zero, suc, ◌+◌, ◌≤◌, ◌<◌}
use mathlib.Core.Path.{◌≡◌, refl, sym, ap, ◌∙◌}
use mathlib.Core.List.{List, [], ◌∷◌, ◌++◌, append-nil}
use native.Mathlib.Numerals.{add-one}
use native.Mathlib.Omega.{arith}
use lib.ListN.{length, get_or, set, take, drop, length-drop, drop_of_length-le}
use lib.Seq.{sets, sets-eq, length-sets, length-take-le, get_or-take, get_or-drop}
use Rattle.word.specs.Sum.{tabulate}
use Rattle.word.proofs.Sums.{tabulate-length, tabulate_is}

pub sets-snoc : (l : List ℕ) (at : ℕ) (vs : List ℕ) (v : ℕ) → set (sets l at vs) (at + length vs) v ≡ sets l at (vs ++ (v ∷ []))
sets-snoc l at [] v = let e : at + 0 ≡ at = omega arith in rw e
sets-snoc l at (w ∷ vs) v = let e : at + suc (length vs) ≡ suc at + length vs = omega arith in rw e (sets-snoc (set l at w) (suc at) vs v)

tabulate-snoc : (n : ℕ) (f : ℕ → ℕ) → tabulate n f ++ (f n ∷ []) ≡ tabulate (suc n) f
unfolding tabulate
tabulate-snoc zero f = refl
tabulate-snoc (suc n) f = ap (λ l. f 0 ∷ l) (tabulate-snoc n (λ i. f (suc i)))

-- the turns passed, and what they stored
pub record Storing (f : ℕ → ℕ) (n at : ℕ) (before now : List ℕ) (i : ℕ) : Type 0 where
  pub turns : i ≤ n
  pub stored : now ≡ sets before at (tabulate i f)

pub storing_none : (f : ℕ → ℕ) (n at : ℕ) (before : List ℕ) → Storing f n at before before 0
unfolding tabulate
storing_none f n at before = record { turns = omega arith; stored = refl }

module _ {f : ℕ → ℕ} {n at : ℕ} {before now : List ℕ} {i : ℕ} (h : Storing f n at before now i) where
  pub storing_more : i < n → {v : ℕ} → v ≡ f i → Storing f n at before (set now (at + i) v) (i + 1)
  storing_more k {v} e =
      let next : set (sets before at (tabulate i f)) (at + length (tabulate i f)) (f i) ≡ sets before at (tabulate i f ++ (f i ∷ [])) =
      sets-snoc before at (tabulate i f) (f i) in
      record { turns = omega arith; stored = rw (h.stored, e, add-one, ← (tabulate-snoc i f)) (rw (tabulate-length i f) at next) }

  pub storing_all : n ≤ i → now ≡ sets before at (tabulate n f)
  storing_all k = let e : i ≡ n = omega (arith, h.turns) in rw e at h.stored

  pub storing_length : length now ≡ length before
  storing_length = rw h.stored (length-sets before at (tabulate i f))

-- a list that is stored over from its start to its end
pub filled : (before vs : List ℕ) → length vs ≡ length before → sets before 0 vs ≡ vs
filled before vs e = sets-eq vs before 0 (omega (arith, e)) ∙ rw (drop_of_length-le before {i = 0 + length vs} (omega (arith, e))) (append-nil vs)

-- the entries from a place on
pub entries : (l : List ℕ) (at n : ℕ) → at + n ≤ length l → tabulate n (λ i. get_or l (at + i) 0) ≡ take n (drop at l)
entries l at n h =
    tabulate_is n (λ i. get_or l (at + i) 0) (take n (drop at l)) (length-take-le n (drop at l) (rw length-drop (omega arith)))
    (λ i k. sym (get_or-take n (drop at l) i 0 k ∙ get_or-drop at l i 0))
