-- How many bytes of a varnode are shown, and the words that say where.
use Prim.Native.Nat.{ℕ, ◌+◌, ◌≤◌}
use mathlib.Core.Bool.{Bool, true, false, cond}
use mathlib.Core.List.{List, [], ◌∷◌}
use mathlib.Core.Path.{◌≡◌, refl}
use native.Mathlib.Omega.{arith}
use borrow.Author.Tests.{eqb-true}
use lib.Dec.{eqb}
use lib.ListN.{length, length-take, length-drop}
use lib.Seq.{sets}
use denote.Ref.{Bor}
use Rattle.operation.specs.Rules.{length_of}
use Rattle.show.specs.Show.{showable, part_of, shown_in, shown}
use Rattle.show.proofs.Parts.{showable_end}
use Rattle.undrelvoa.specs.Answers.{shown_length}

shown_in-length : (s : Bor (List ℕ)) (offset size : ℕ) → length (shown_in s offset size).bytes ≡ cond (showable (length s.now) offset size) size 0
unfolding shown_in
shown_in-length s offset size = by (showable (length s.now) offset size) refl
  where
    by : (t : Bool) → showable (length s.now) offset size ≡ t → length (cond t (part_of s offset size) (part_of s 0 0)).bytes ≡ cond t size 0
    by true e =
        let h : offset + size ≤ length s.now = showable_end (length s.now) offset size e in
        simp (length-take, length-drop) (omega arith)
    by false e = refl

nothing_showable : (offset size : ℕ) → 0 ≡ cond (showable 0 offset size) size 0
nothing_showable offset size = by (showable 0 offset size) refl
  where
    by : (t : Bool) → showable 0 offset size ≡ t → 0 ≡ cond t size 0
    by true e = let h : offset + size ≤ 0 = showable_end 0 offset size e in omega arith
    by false e = refl

pub shown-length : (unique register ram : Bor (List ℕ)) (space offset size : ℕ)
    → length (shown unique register ram space offset size).bytes ≡ shown_length unique.now register.now ram.now space offset size
unfolding shown shown_length length_of
shown-length unique register ram space offset size = by (eqb space 2) (eqb space 3) (eqb space 4)
  where
    by : (t2 t3 t4 : Bool)
        → length (cond t2 (shown_in unique offset size) (cond t3 (shown_in register offset size) (cond t4 (shown_in ram offset size) (part_of ram 0 0)))).bytes
        ≡ cond (showable (cond t2 (length unique.now) (cond t3 (length register.now) (cond t4 (length ram.now) 0))) offset size) size 0
    by true t3 t4 = shown_in-length unique offset size
    by false true t4 = shown_in-length register offset size
    by false false true = shown_in-length ram offset size
    by false false false = nothing_showable offset size

-- the words of a place, one by one
pub place-words : (words : List ℕ) (space offset n : ℕ)
    → sets words 0 (cond (eqb n 0) 0 space ∷ cond (eqb n 0) 0 offset ∷ n ∷ []) ≡ sets words 0 (cond (eqb n 0) (0 ∷ 0 ∷ 0 ∷ []) (space ∷ offset ∷ n ∷ []))
place-words words space offset n = by (eqb n 0) refl
  where
    by : (t : Bool) → eqb n 0 ≡ t → sets words 0 (cond t 0 space ∷ cond t 0 offset ∷ n ∷ []) ≡ sets words 0 (cond t (0 ∷ 0 ∷ 0 ∷ []) (space ∷ offset ∷ n ∷ []))
    by true e = rw (eqb-true n 0 e) refl
    by false e = refl
