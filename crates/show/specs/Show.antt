-- Showing a varnode: that very part of the unique, register or ram buffer, or an empty part.
use Rattle.std.specs.Prelude.{ℕ, ◌+◌, Bool, cond, ◌&&◌, List, eqb, leb, length, take, drop}
use Rattle.std.specs.Borrow.{Bor}
use Rattle.word.specs.Word.{is_size}

-- What a lent slice is: the place in memory where it begins (a block and an offset in it), and its bytes.
pub record View : Type 0 where
  pub place : ℕ × ℕ
  pub bytes : List ℕ

-- The view of a lent slice.
abbrev pub view : Bor (List ℕ) → View
view r = record { place = r.ref_ptr; bytes = r.now }

-- The n bytes at `at` of a lent slice: that very part.
abbrev pub part_of : Bor (List ℕ) → (at n : ℕ) → View
part_of s at n = record { place = (s.ref_ptr.0, at + s.ref_ptr.1); bytes = take n (drop at s.now) }

-- A size of 1 to 8, and a place within a space of n bytes.
unfoldable pub showable : (n offset size : ℕ) → Bool
showable n offset size = is_size size && leb (offset + size) n

-- The part of one space; where there is none, its empty part.
unfoldable pub shown_in : Bor (List ℕ) → (offset size : ℕ) → View
shown_in s offset size = cond (showable (length s.now) offset size) (part_of s offset size) (part_of s 0 0)

-- The part of a space, by its number. A number that is no space with bytes has the empty part, at the start of ram.
unfoldable pub shown : (unique register ram : Bor (List ℕ)) (space offset size : ℕ) → View
shown unique register ram space offset size =
    cond (eqb space 2) (shown_in unique offset size)
    (cond (eqb space 3) (shown_in register offset size)
    (cond (eqb space 4) (shown_in ram offset size) (part_of ram 0 0)))
