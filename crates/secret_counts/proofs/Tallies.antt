-- What the words count, label by label.
use Rattle.std.proofs.Common.{◌≡◌, ℕ, zero, suc, ◌+◌, ◌/◌, ◌<◌, ◌≤◌, cond, List, [], ◌∷◌, length, get_or, set, sym, refl, ◌∙◌, arith, length-set, get_or-set_other}
use lib.Seq.{sets}
use Rattle.secret_counts.specs.Recount.{block_bytes, blocks}
use Rattle.secret_counts.specs.Moved.{covers, tally}

-- a block lies before the total
pub block_lt : (extent i : ℕ) → i < extent → i / block_bytes < blocks extent
unfolding blocks
block_lt extent i h = omega arith

-- ---- a label that is stored

module _ (weight : ℕ → ℕ) (extent j : ℕ) where
  -- what one label counts
  abbrev one : (i l : ℕ) → ℕ
  one i l = cond (covers extent j i) (weight l) 0

  tally-set : (i k : ℕ) (ls : List ℕ) (x : ℕ) → k < length ls
      → tally weight extent j i (set ls k x) + one (i + k) (get_or ls k 0) ≡ tally weight extent j i ls + one (i + k) x
  unfolding tally
  tally-set i k [] x h = absurd (let z : ⊥ = omega arith in z)
  tally-set i zero (l ∷ ls) x h = let e : i + 0 ≡ i = omega arith in rw e (omega arith)
  tally-set i (suc k) (l ∷ ls) x h =
      let e : i + suc k ≡ suc i + k = omega arith in
      rw e (omega (arith, tally-set (suc i) k ls x (omega arith)))

  -- labels that are stored, where `old` stood there
  pub tally-sets : (ls : List ℕ) (at : ℕ) (old new : List ℕ) → length old ≡ length new → at + length new ≤ length ls
      → ((k : ℕ) → k < length old → get_or old k 0 ≡ get_or ls (at + k) 0)
      → tally weight extent j 0 (sets ls at new) + tally weight extent j at old ≡ tally weight extent j 0 ls + tally weight extent j at new
  unfolding tally
  tally-sets ls at [] [] e h r = refl
  tally-sets ls at [] (n ∷ new) e h r = absurd (let z : ⊥ = omega arith in z)
  tally-sets ls at (o ∷ old) [] e h r = absurd (let z : ⊥ = omega arith in z)
  tally-sets ls at (o ∷ old) (n ∷ new) e h r =
      let here : o ≡ get_or ls at 0 = rw (let z : at + 0 ≡ at = omega arith in z) at (r 0 (omega arith)) in
      let zero_at : 0 + at ≡ at = omega arith in
      let single : tally weight extent j 0 (set ls at n) + one at o ≡ tally weight extent j 0 ls + one at n =
      rw here (rw zero_at at (tally-set 0 at ls n (omega arith))) in
      let fits : suc at + length new ≤ length (set ls at n) = rw length-set (omega arith) in
      let rest = tally-sets (set ls at n) (suc at) old new (omega (arith, e)) fits
      (λ k l. let s : at + suc k ≡ suc at + k = omega arith in
      (rw s at (r (suc k) (omega arith))) ∙ sym (get_or-set_other ls at (suc at + k) n 0 (λ z. let y : ⊥ = omega arith in y))) in
      omega (arith, single, rest)
