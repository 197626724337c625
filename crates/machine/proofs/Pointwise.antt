-- Three lists, or three memories, related at each place: kept by reading and writing. No law here speaks of an operation, or of what the
-- relation is.
use Prim.Native.Nat.{ℕ, zero, suc, ◌+◌, ◌<◌}
use native.Mathlib.Omega.{arith}
use mathlib.Core.Path.{◌≡◌, refl, ap}
use mathlib.Core.Bool.{Bool}
use mathlib.Core.List.{List, [], ◌∷◌, ◌++◌}
use lib.ListN.{length, get_or, set}
use lib.Seq.{sets}
use lib.Dec.{eqb}
use Rattle.word.specs.Sum.{tabulate}
use Rattle.word.specs.Word.{part}
use Rattle.operation.specs.declared.layout.Varnode.{Varnode}
use Rattle.machine.specs.Memory.{Memory, lengths_of, space_of, with_space, bytes_at, written, ordered}
use Rattle.machine.proofs.Cases.{either₃}

-- Three lists of one length, with R at each place.
pub data Each (R : ℕ → ℕ → ℕ → Type 0) : List ℕ → List ℕ → List ℕ → Type 0 where
  empty : Each R [] [] []
  entry : {l a b : ℕ} {ls as' bs : List ℕ} → R l a b → Each R ls as' bs → Each R (l ∷ ls) (a ∷ as') (b ∷ bs)

pub record Spaces (R : ℕ → ℕ → ℕ → Type 0) (x y z : Memory) : Type 0 where
  pub unique : Each R x.unique y.unique z.unique
  pub register : Each R x.register y.register z.register
  pub ram : Each R x.ram y.ram z.ram

module _ {R : ℕ → ℕ → ℕ → Type 0} where
  pub each_length : {ls a b : List ℕ} → Each R ls a b → length a ≡ length b
  each_length Each.empty = refl
  each_length (Each.entry e r) = ap suc (each_length r)

  pub each_label_length : {ls a b : List ℕ} → Each R ls a b → length ls ≡ length a
  each_label_length Each.empty = refl
  each_label_length (Each.entry e r) = ap suc (each_label_length r)

  pub each_at : R 0 0 0 → {ls a b : List ℕ} → Each R ls a b → (i : ℕ) → R (get_or ls i 0) (get_or a i 0) (get_or b i 0)
  each_at z Each.empty i = z
  each_at z (Each.entry e r) zero = e
  each_at z (Each.entry e r) (suc i) = each_at z r i

  pub each_from : (ls a b : List ℕ) → length ls ≡ length a → length a ≡ length b
      → ((i : ℕ) → i < length ls → R (get_or ls i 0) (get_or a i 0) (get_or b i 0)) → Each R ls a b
  each_from [] [] [] p q h = Each.empty
  each_from [] [] (y ∷ b) p q h = absurd (omega arith)
  each_from [] (x ∷ a) b p q h = absurd (omega arith)
  each_from (l ∷ ls) [] b p q h = absurd (omega arith)
  each_from (l ∷ ls) (x ∷ a) [] p q h = absurd (omega arith)
  each_from (l ∷ ls) (x ∷ a) (y ∷ b) p q h =
      Each.entry (h 0 (omega arith)) (each_from ls a b (omega arith) (omega arith) (λ i k. h (suc i) (omega arith)))

  pub each_tabulate : (n : ℕ) (f g h : ℕ → ℕ) → ((i : ℕ) → R (f i) (g i) (h i)) → Each R (tabulate n f) (tabulate n g) (tabulate n h)
  unfolding tabulate
  each_tabulate zero f g h r = Each.empty
  each_tabulate (suc n) f g h r = Each.entry (r 0) (each_tabulate n _ _ _ (λ i. r (suc i)))

  pub each_append : {ls a b xs us ws : List ℕ} → Each R ls a b → Each R xs us ws → Each R (ls ++ xs) (a ++ us) (b ++ ws)
  each_append Each.empty q = q
  each_append (Each.entry e r) q = Each.entry e (each_append r q)

  -- by significance
  pub each_ordered : R 0 0 0 → (big : Bool) {ls a b : List ℕ} → Each R ls a b → Each R (ordered big ls) (ordered big a) (ordered big b)
  unfolding ordered
  each_ordered z big r = rw (each_label_length r, each_length r) (each_tabulate _ _ _ _ (λ i. each_at z r _))

  each_part : R 0 0 0 → {ls a b : List ℕ} → Each R ls a b → (at n : ℕ) → Each R (part ls at n) (part a at n) (part b at n)
  unfolding part
  each_part z r at n = each_tabulate n _ _ _ (λ i. each_at z r (at + i))

  each_set : {ls a b : List ℕ} → Each R ls a b → (i : ℕ) {x u w : ℕ} → R x u w → Each R (set ls i x) (set a i u) (set b i w)
  each_set Each.empty i h = Each.empty
  each_set (Each.entry e r) zero h = Each.entry h r
  each_set (Each.entry e r) (suc i) h = Each.entry e (each_set r i h)

  each_sets : {ls a b xs us ws : List ℕ} → Each R ls a b → (i : ℕ) → Each R xs us ws → Each R (sets ls i xs) (sets a i us) (sets b i ws)
  each_sets r i Each.empty = r
  each_sets r i (Each.entry h t) = each_sets (each_set r i h) (suc i) t

  pub spaces_space : {x y z : Memory} → Spaces R x y z → (space : ℕ) → Each R (space_of x space) (space_of y space) (space_of z space)
  unfolding space_of
  spaces_space r space =
      either₃ (Each R) (eqb space 2) _ _ _ _ _ _ r.unique (either₃ (Each R) (eqb space 3) _ _ _ _ _ _ r.register (either₃ (Each R) (eqb space 4) _ _ _ _ _ _ r.ram Each.empty))

  spaces_with : {x y z : Memory} → Spaces R x y z → (space : ℕ) {ls a b : List ℕ} → Each R ls a b
      → Spaces R (with_space x space ls) (with_space y space a) (with_space z space b)
  unfolding with_space
  spaces_with r space q =
      either₃ (Spaces R) (eqb space 2) _ _ _ _ _ _ (record { unique = q; register = r.register; ram = r.ram })
      (either₃ (Spaces R) (eqb space 3) _ _ _ _ _ _ (record { unique = r.unique; register = q; ram = r.ram })
      (either₃ (Spaces R) (eqb space 4) _ _ _ _ _ _ (record { unique = r.unique; register = r.register; ram = q }) r))

  pub spaces_at : R 0 0 0 → {x y z : Memory} → Spaces R x y z → (v : Varnode) → Each R (bytes_at x v) (bytes_at y v) (bytes_at z v)
  unfolding bytes_at
  spaces_at d r v = each_part d (spaces_space r v.space) v.offset v.size

  pub spaces-written : {x y z : Memory} → Spaces R x y z → (v : Varnode) {ls a b : List ℕ} → Each R ls a b
      → Spaces R (written x v ls) (written y v a) (written z v b)
  unfolding written
  spaces-written r v q = spaces_with r v.space (each_sets (spaces_space r v.space) v.offset q)

  pub spaces_lengths : {x y z : Memory} → Spaces R x y z → lengths_of y ≡ lengths_of z
  unfolding lengths_of
  spaces_lengths r = rw (each_length r.unique, each_length r.register, each_length r.ram)
