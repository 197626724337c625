-- The rooms of three spaces: zeros, lengths, and a store into one of them.
use Rattle.std.proofs.Common.{ℕ, suc, ◌+◌, ◌-◌, ◌≤◌, ◌≡◌, Bool, true, false, cond, List, [], ◌∷◌, ◌++◌, length, take, drop, set, replicate, leb, append_assoc, refl, ap, sym, ◌∙◌, arith}
use Rattle.std.proofs.lemmas.List.{take-replicate}
use Rattle.std.proofs.lemmas.List.Edits.{sets, sets-eq, paste_all}
use Rattle.std.proofs.lemmas.Slice.{put_mid-paste}
use Rattle.std.proofs.Math.ListN.{length-append, length-take, length-drop}
use Rattle.word.proofs.Sums.{tabulate-length}
use Rattle.std.proofs.Math.Seq.{take-set-lt, take-append-le, take_all, length-take-le}
use borrow.Rule.Slice.PartMut.{put_mid}
use borrow.Author.Tests.{eqb-true, leb-true}
use lib.Dec.{eqb}
use Rattle.operation.specs.Spaces.{Lengths}
use Rattle.operation.specs.Rules.{length_of}
use Rattle.machine.specs.Memory.{space_of, with_space}
use Rattle.case_frame.specs.Frames.{bytes_on}
use Rattle.case_reader.specs.Limits.{most_case_bytes, Fits}
use Rattle.case_reader.specs.Case.{zeros, in_space, stored}
use Rattle.case_reader.specs.Buffers.{memory_in}
use Rattle.operation.specs.declared.layout.Spaces.{Spaces}

-- rooms as their type has them
pub record Whole (r : Spaces (List ℕ)) : Type 0 where
  pub unique : length r.unique ≡ most_case_bytes
  pub register : length r.register ≡ most_case_bytes
  pub ram : length r.ram ≡ most_case_bytes

-- rooms of zeros
pub memory_zeros : (l : Lengths) → Fits l
    → memory_in l (record { unique = replicate most_case_bytes 0; register = replicate most_case_bytes 0; ram = replicate most_case_bytes 0 }) ≡ zeros l
unfolding memory_in zeros
memory_zeros l f =
    rw (
      take-replicate {X = ℕ} l.unique most_case_bytes 0 f.unique,
      take-replicate {X = ℕ} l.register most_case_bytes 0 f.register,
      take-replicate {X = ℕ} l.ram most_case_bytes 0 f.ram,
    )

-- each space has its length
pub space_length : (l : Lengths) → Fits l → (r : Spaces (List ℕ)) → Whole r → (space : ℕ) → length (space_of (memory_in l r) space) ≡ length_of l space
unfolding memory_in space_of length_of
space_length l f r w space = one (eqb space 2) (eqb space 3) (eqb space 4)
  where
    one : (p q t : Bool) → length (cond p (take l.unique r.unique) (cond q (take l.register r.register) (cond t (take l.ram r.ram) [])))
        ≡ cond p l.unique (cond q l.register (cond t l.ram 0))
    one true q t = length-take-le l.unique r.unique (omega (arith, w.unique, f.unique))
    one false true t = length-take-le l.register r.register (omega (arith, w.register, f.register))
    one false false true = length-take-le l.ram r.ram (omega (arith, w.ram, f.ram))
    one false false false = refl

-- bytes of one of the three spaces
pub record Inside (space offset count : ℕ) : Type 0 where
  pub low : 2 ≤ space
  pub high : space ≤ 4
  pub most : offset + count ≤ most_case_bytes

known : (l : Lengths) → Fits l → (space offset count : ℕ) → 1 ≤ count → offset + count ≤ length_of l space → Inside space offset count
unfolding length_of
known l f space offset count some h = by (eqb space 2) (eqb space 3) (eqb space 4) refl refl refl h
  where
    by : (p q r : Bool) → eqb space 2 ≡ p → eqb space 3 ≡ q → eqb space 4 ≡ r
        → offset + count ≤ cond p l.unique (cond q l.register (cond r l.ram 0)) → Inside space offset count
    by true q r e2 e3 e4 k = let e = eqb-true space 2 e2 in record { low = omega (arith, e); high = omega (arith, e); most = omega (arith, k, f.unique) }
    by false true r e2 e3 e4 k = let e = eqb-true space 3 e3 in record { low = omega (arith, e); high = omega (arith, e); most = omega (arith, k, f.register) }
    by false false true e2 e3 e4 k = let e = eqb-true space 4 e4 in record { low = omega (arith, e); high = omega (arith, e); most = omega (arith, k, f.ram) }
    by false false false e2 e3 e4 k = absurd (let z : ⊥ = omega arith in z)

-- ---- a store into a part of a list

take_sets_in : (n : ℕ) (l : List ℕ) (i : ℕ) (vs : List ℕ) → i + length vs ≤ n → take n (sets l i vs) ≡ sets (take n l) i vs
take_sets_in n l i [] h = refl
take_sets_in n l i (v ∷ vs) h =
    take_sets_in n (set l i v) (suc i) vs (omega arith) ∙ ap (λ x. sets x (suc i) vs) (take-set-lt n l i v (omega arith))

-- what stands at the front of a list of which a part was written
put_sets : (n at k : ℕ) (xs ys : List ℕ) → k ≡ length ys → at + length ys ≤ n → n ≤ length xs → take n (put_mid at k xs ys) ≡ sets (take n xs) at ys
put_sets n at k xs ys e h r =
    ap (take n)
    (put_mid-paste at k xs ys ys (length ys) refl (sym e) refl
    ∙ paste_all xs at ys (length ys) refl
    ∙ sym (append_assoc (take at xs) ys (drop (at + length ys) xs))
    ∙ sym (sets-eq ys xs at (omega arith)))
    ∙ take_sets_in n xs at ys h

-- what stands at the front, up to the part that was written
pub put_front : (m at k : ℕ) (xs ys : List ℕ) → k ≡ length ys → m ≡ at + length ys → at ≤ length xs → take m (put_mid at k xs ys) ≡ take at xs ++ ys
put_front m at k xs ys e g h =
    let l : length (take at xs ++ ys) ≡ m = length-append (take at xs) ys ∙ ap (λ x. x + length ys) (length-take-le at xs h) ∙ sym g in
    ap (take m)
    (put_mid-paste at k xs ys ys (length ys) refl (sym e) refl
    ∙ paste_all xs at ys (length ys) refl
    ∙ sym (append_assoc (take at xs) ys (drop (at + length ys) xs)))
    ∙ take-append-le m (take at xs ++ ys) _ (omega (arith, l))
    ∙ take_all m (take at xs ++ ys) (omega (arith, l))

-- ---- bytes that a line stores, if all lie in the space

module _ (l : Lengths) (f : Fits l) (space offset count : ℕ) {n : ℕ} {t : Bool} (e : n ≡ length_of l space) (g : t ≡ leb (offset + count) n) where
  within : t ≡ true → offset + count ≤ length_of l space
  within h = leb-true _ _ (sym (g ∙ ap (leb (offset + count)) e) ∙ h)

  pub inside : 1 ≤ count → t ≡ true → Inside space offset count
  inside some h = known l f space offset count some (within h)

  pub extent : (r : Spaces (List ℕ)) → Whole r → in_space (memory_in l r) space offset count ≡ t
  unfolding in_space
  extent r w = ap (leb (offset + count)) (space_length l f r w space ∙ sym e) ∙ sym g

  module _ (r : Spaces (List ℕ)) (w : Whole r) (some : 1 ≤ count) (h : t ≡ true) (s : List ℕ) {ys : List ℕ} where
    -- the bytes of the line, in the room that they have
    written : (xs : List ℕ) → length xs ≡ most_case_bytes → ys ≡ bytes_on (length (take (offset + count - offset) (drop offset xs))) s
        → (ys ≡ bytes_on count s) × (length ys ≡ count)
    unfolding bytes_on
    written xs k p =
        let i = inside some h in
        let m : length (take (offset + count - offset) (drop offset xs)) ≡ count = simp (length-take, length-drop) (omega (arith, k, i.most)) in
        let q : ys ≡ bytes_on count s = rw m at p in
        (q, ap length q ∙ tabulate-length count _)

    put : (m : ℕ) (xs : List ℕ) → length xs ≡ most_case_bytes → m ≤ most_case_bytes → offset + count ≤ m
        → ys ≡ bytes_on (length (take (offset + count - offset) (drop offset xs))) s
        → take m (put_mid offset (offset + count - offset) xs ys) ≡ sets (take m xs) offset (bytes_on count s)
    put m xs k few i p =
        let b = written xs k p in
        put_sets m offset (offset + count - offset) xs ys (omega (arith, b.1)) (omega (arith, b.1)) (omega (arith, k)) ∙ ap (sets (take m xs) offset) b.0

    pub stored_unique : space ≡ 2 → ys ≡ bytes_on (length (take (offset + count - offset) (drop offset r.unique))) s
        → (in_space (memory_in l r) space offset count ≡ true)
        × (memory_in l (record { unique = put_mid offset (offset + count - offset) r.unique ys; register = r.register; ram = r.ram })
        ≡ stored (memory_in l r) space offset (bytes_on count s))
    unfolding memory_in stored with_space space_of length_of
    stored_unique k p = (extent r w ∙ h, rw (k, put l.unique r.unique w.unique f.unique (rw k at (within h)) p))

    pub stored_register : space ≡ 3 → ys ≡ bytes_on (length (take (offset + count - offset) (drop offset r.register))) s
        → (in_space (memory_in l r) space offset count ≡ true)
        × (memory_in l (record { unique = r.unique; register = put_mid offset (offset + count - offset) r.register ys; ram = r.ram })
        ≡ stored (memory_in l r) space offset (bytes_on count s))
    unfolding memory_in stored with_space space_of length_of
    stored_register k p = (extent r w ∙ h, rw (k, put l.register r.register w.register f.register (rw k at (within h)) p))

    pub stored_ram : space ≡ 4 → ys ≡ bytes_on (length (take (offset + count - offset) (drop offset r.ram))) s
        → (in_space (memory_in l r) space offset count ≡ true)
        × (memory_in l (record { unique = r.unique; register = r.register; ram = put_mid offset (offset + count - offset) r.ram ys })
        ≡ stored (memory_in l r) space offset (bytes_on count s))
    unfolding memory_in stored with_space space_of length_of
    stored_ram k p = (extent r w ∙ h, rw (k, put l.ram r.ram w.ram f.ram (rw k at (within h)) p))
