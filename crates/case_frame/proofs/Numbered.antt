-- The frame of a line says what stands on the line.
use Prim.Native.Nat.{ℕ, zero, suc, ◌%◌, ◌<◌}
use native.Mathlib.Omega.{arith}
use borrow.Author.Tests.{ne_eqb}
use mathlib.Core.Bool.{Bool, true, false, cond, ◌&&◌}
use Rattle.std.proofs.Common.{Option}
use mathlib.Core.List.{List, [], ◌∷◌}
use mathlib.Core.Path.{◌≡◌, refl, ap, ◌∙◌}
use lib.Dec.{leb, eqb}
use lib.ListN.{length}
use Rattle.case_hexadecimal.specs.Digits.{byte_digits, all_digits, number_at}
use Rattle.case_frame.specs.declared.Frame.{Frame}
use Rattle.case_frame.specs.Frames.{opening_length, bytes_length, most_frame_bytes, operation_length, opening_of, bytes_frame_of, operation_of, frame_by, frame_of, numbers_of, length_allowed, values_on, numbers_on, FramesNumbered}

-- a test that chooses between a frame and none
chosen : (t : Bool) (f g : Option Frame) (x y : List ℕ) → numbers_of f ≡ x → numbers_of g ≡ y → numbers_of (cond t f g) ≡ cond t x y
chosen true f g x y e d = e
chosen false f g x y e d = d

by_kind : (kind : ℕ) (s : List ℕ) → numbers_of (frame_by kind s) ≡ cond (length_allowed kind (length s)) (kind ∷ values_on kind s) (0 ∷ [])
unfolding frame_by opening_of bytes_frame_of operation_of numbers_of length_allowed values_on
by_kind zero s = refl
by_kind (suc zero) s = chosen (eqb (length s) opening_length) _ _ _ _ refl refl
by_kind (suc (suc zero)) s = chosen (leb (bytes_length 1) (length s) && leb (length s) (bytes_length most_frame_bytes) && eqb (length s % byte_digits) 0) _ _ _ _ refl refl
by_kind (suc (suc (suc zero))) s = chosen (leb (bytes_length 1) (length s) && leb (length s) (bytes_length most_frame_bytes) && eqb (length s % byte_digits) 0) _ _ _ _ refl refl
by_kind (suc (suc (suc (suc zero)))) s = chosen (eqb (length s) operation_length) _ _ _ _ refl refl
by_kind (suc (suc (suc (suc (suc k))))) s =
    let other : (n : ℕ) → n < 5 → eqb (suc (suc (suc (suc (suc k))))) n ≡ false = λ n h. ne_eqb _ n (λ e. omega arith) in
    rw (other 1 (omega arith), other 2 (omega arith), other 3 (omega arith), other 4 (omega arith)) refl

-- two tests are one
two : (a b : Bool) (x y : List ℕ) → cond a (cond b x y) y ≡ cond (a && b) x y
two true b x y = refl
two false b x y = refl

pub frames_numbered : FramesNumbered
unfolding frame_of numbers_on numbers_of
frames_numbered s =
    let digits : Bool = leb byte_digits (length s) && all_digits s in
    chosen digits _ _ _ _ (by_kind (number_at s 0 byte_digits) s) refl ∙ two digits _ _ _

-- the numbers of a frame that is known
pub numbered : (s : List ℕ) (f : Option Frame) → f ≡ frame_of s → numbers_of f ≡ numbers_on s
numbered s f e = ap numbers_of e ∙ frames_numbered s
