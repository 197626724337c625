-- A varnode in the space n, 2 to 4, and a varnode in none of them.
use Prim.Native.Nat.{ℕ, zero, suc, ◌+◌, ◌≤◌, ◌<◌}
use mathlib.Core.Path.{◌≡◌, refl, sym, subst, ◌∙◌}
use mathlib.Core.Logic.{◌⊎◌, inl, inr, ⊎_elim}
use mathlib.Core.Bool.{Bool, true, false, cond}
use mathlib.Core.List.{List, ◌++◌, append_assoc}
use native.Mathlib.Omega.{arith}
use borrow.Author.Tests.{eq-eqb, ne_eqb, leb-true, leb-false}
use lib.Dec.{eqb, leb}
use lib.ListN.{length, take, drop, take-append-drop}
use lib.Seq.{sets, sets-eq, drop-drop}
use Rattle.word.specs.Sum.{sum, tabulate}
use Rattle.word.specs.Word.{Bytes, part, value_of}
use Rattle.word.proofs.Laws.{part_length}
use Rattle.word.proofs.Stores.{entries}
use Rattle.std.specs.Borrow.{MutBor}
use Rattle.operation.specs.declared.layout.Spaces.{Spaces}
use Rattle.operation.specs.declared.layout.Settings.{Settings}
use Rattle.operation.specs.declared.layout.Varnode.{Varnode}
use Rattle.machine.specs.Program.{big_endian}
use Rattle.machine.specs.Lent.{SameBuffer, SameBuffers, lent}
use Rattle.machine.specs.Memory.{Memory, spaces, OfBytes, lengths_of, space_of, bytes_at, value_at, with_space, written}
use Rattle.machine.proofs.Cases.{either}
use Rattle.machine.proofs.Conditions.{each_space}
use Rattle.operation.specs.Layout.{absent}
use Rattle.run_memory.specs.Placed.{Placed}

-- ---- in the space n

module _ (m : Memory) (v : Varnode) (n : ℕ) (e : v.space ≡ n) where
  pub placed_in : 2 ≤ n → Placed m v → v.offset + v.size ≤ length (space_of m n)
  placed_in h p = subst (λ (k : ℕ). v.offset + v.size ≤ length (space_of m k)) e (p.within (rw e h))

  value_in : 2 ≤ n → (settings : Settings) → value_at settings m v ≡ value_of (big_endian settings) (part (space_of m n) v.offset v.size)
  unfolding value_at bytes_at
  value_in h settings = rw (e, ne_eqb n 1 (λ z. omega arith))

  -- for a list that is the space's after a store
  pub written_in : (after bs : List ℕ) → after ≡ sets (space_of m n) v.offset bs → with_space m n after ≡ written m v bs
  unfolding written
  written_in after bs h = rw (e, h)

-- for a list that is the varnode's space: where its bytes lie there, and what they are worth
module _ (m : Memory) (v : Varnode) (h : 2 ≤ v.space) (bytes : List ℕ) (e : bytes ≡ space_of m v.space) where
  pub may_gather : Placed m v → (v.size ≤ 8) × (v.offset + v.size ≤ length bytes)
  may_gather p = (p.size, rw e (p.within h))

  pub value_gathered : (settings : Settings) (big : Bool) → big_endian settings ≡ big
      → value_of big (part bytes v.offset v.size) ≡ value_at settings m v
  value_gathered settings big b = rw (e, ← b) (sym (value_in m v v.space refl h settings))

  pub number_gathered : (big : Bool) → value_of big (part bytes v.offset v.size) ≡ cond (eqb v.space 1) v.offset (value_of big (bytes_at m v))
  unfolding bytes_at
  number_gathered big = rw (e, ne_eqb v.space 1 (λ z. omega arith)) refl

pub labels_gathered : (m : Memory) (v : Varnode) (bytes : List ℕ) → bytes ≡ space_of m v.space → value_of false (part bytes v.offset v.size) ≡ value_of false (bytes_at m v)
unfolding bytes_at
labels_gathered m v bytes e = rw e refl

-- ---- in none of the three spaces: a constant, or absent

module _ (m : Memory) (v : Varnode) (not2 : v.space ≡ 2 → ⊥) (not3 : v.space ≡ 3 → ⊥) (not4 : v.space ≡ 4 → ⊥) where
  elsewhere : Placed m v → (v.space ≡ 1) ⊎ (v ≡ absent)
  elsewhere p = by v.space refl
    where
      by : (n : ℕ) → v.space ≡ n → (v.space ≡ 1) ⊎ (v ≡ absent)
      by zero e = inr (p.nowhere e)
      by (suc zero) e = inl e
      by (suc (suc n)) e = absurd (let h : v.space ≤ 4 = p.known in let z : ⊥ = omega arith in z)

  pub value_elsewhere : Placed m v → (settings : Settings) → value_at settings m v ≡ v.offset
  unfolding value_at bytes_at part value_of sum tabulate absent
  value_elsewhere p settings = ⊎_elim (λ e. rw (eq-eqb v.space 1 e)) (λ e. rw e) (elsewhere p)

  pub number_elsewhere : Placed m v → (big : Bool) → cond (eqb v.space 1) v.offset (value_of big (bytes_at m v)) ≡ v.offset
  unfolding bytes_at part value_of sum tabulate absent
  number_elsewhere p big = ⊎_elim (λ e. rw (eq-eqb v.space 1 e)) (λ e. rw e) (elsewhere p)

  pub written_elsewhere : (bs : List ℕ) → written m v bs ≡ m
  unfolding written with_space
  written_elsewhere bs = rw (ne_eqb v.space 2 not2, ne_eqb v.space 3 not3, ne_eqb v.space 4 not4)

-- ---- the same buffers, by way of others

pub same_none : {a : Spaces (MutBor (List ℕ))} → SameBuffers a a
same_none = record { unique = none; register = none; ram = none }
  where
    none : {a : MutBor (List ℕ)} → SameBuffer a a
    none = record { reference = refl; place = refl; size = refl }

pub same_still : {a b c : Spaces (MutBor (List ℕ))} → SameBuffers a b → SameBuffers b c → SameBuffers a c
same_still f g = record { unique = still f.unique g.unique; register = still f.register g.register; ram = still f.ram g.ram }
  where
    still : {a b c : MutBor (List ℕ)} → SameBuffer a b → SameBuffer b c → SameBuffer a c
    still f g = record { reference = g.reference ∙ f.reference; place = g.place ∙ f.place; size = g.size ∙ f.size }

pub same_lengths : {a b : Spaces (MutBor (List ℕ))} → SameBuffers a b → lengths_of (lent b) ≡ lengths_of (lent a)
unfolding lengths_of
same_lengths f = rw (f.unique.size, f.register.size, f.ram.size) refl

-- ---- the value in the byte order of the settings

pub value_read : (settings : Settings) (m : Memory) (v : Varnode)
    → cond (eqb v.space 1) v.offset (value_of (eqb settings.order 1) (bytes_at m v)) ≡ value_at settings m v
unfolding value_at big_endian
value_read settings m v = refl

-- ---- three lent buffers

-- they hold bytes
pub of_bytes : (unique register ram : List ℕ) → Bytes unique → Bytes register → Bytes ram → OfBytes (spaces unique register ram)
unfolding space_of
of_bytes unique register ram u r m space =
    either Bytes (eqb space 2) _ _ u (either Bytes (eqb space 3) _ _ r (either Bytes (eqb space 4) _ _ m (λ i. omega arith)))

-- ---- what is there already

-- storing what is there changes nothing
stored_same : (l : List ℕ) (at n : ℕ) → at + n ≤ length l → sets l at (part l at n) ≡ l
unfolding part
stored_same l at n h =
    let parts : sets l at (part l at n) ≡ take at l ++ part l at n ++ drop (at + length (part l at n)) l =
    sets-eq (part l at n) l at (rw (part_length l at n) h) in
    let middle : part l at n ≡ take n (drop at l) = entries l at n h in
    let rest : drop (at + length (part l at n)) l ≡ drop n (drop at l) = rw (part_length l at n, drop-drop n at l) refl in
    let whole : take at l ++ (take n (drop at l) ++ drop n (drop at l)) ≡ l = rw (take-append-drop n (drop at l), take-append-drop at l) refl in
    rw (parts, rest, middle, append_assoc (take at l) (take n (drop at l)) (drop n (drop at l))) whole

pub space_kept : (n : ℕ) → 2 ≤ n → n ≤ 4 → (m : Memory) → with_space m n (space_of m n) ≡ m
unfolding space_of with_space
space_kept = each_space (λ n. (m : Memory) → with_space m n (space_of m n) ≡ m) (λ m. refl) (λ m. refl) (λ m. refl)

pub written_same : (m : Memory) (v : Varnode) → Placed m v → written m v (bytes_at m v) ≡ m
unfolding bytes_at written
written_same m v p = by (leb 2 v.space) refl
  where
    by : (t : Bool) → leb 2 v.space ≡ t → written m v (bytes_at m v) ≡ m
    by true t =
        let h : 2 ≤ v.space = leb-true 2 v.space t in
        rw (stored_same (space_of m v.space) v.offset v.size (p.within h)) (space_kept v.space h p.known m)
    by false t =
        let low : v.space < 2 = leb-false 2 v.space t in
        written_elsewhere m v (λ z. omega arith) (λ z. omega arith) (λ z. omega arith) (bytes_at m v)
