-- Laws of frames: what a frame says of its line.
use Prim.Native.Nat.{ℕ, ◌%◌, ◌≤◌, ◌<◌}
use mathlib.Core.Path.{◌≡◌, refl}
use mathlib.Core.Bool.{true, ◌&&◌}
use mathlib.Core.List.{List}
use Rattle.std.proofs.Common.{Option, None, Some}
use native.Mathlib.Omega.{arith}
use borrow.Author.Tests.{eqb-true}
use lib.ListN.{length}
use lib.Dec.{leb, eqb}
use Rattle.word.proofs.Tests.{by_cond}
use Rattle.std.proofs.lemmas.Bool.Decides.{nat_tests}
use Rattle.case_hexadecimal.specs.Digits.{byte_digits, all_digits}
use Rattle.case_frame.specs.declared.Target.{Target}
use Rattle.case_frame.specs.declared.Frame.{Frame}
use Rattle.case_frame.specs.declared.Frame.TheVariants.{Opening, Bytes, Operation}
use Rattle.case_frame.specs.Frames.{opening_length, most_frame_bytes, bytes_length, operation_length, longest_frame, opening_of, bytes_frame_of, operation_of, frame_by, frame_of}

-- a 02 or 03 line
pub record BytesLine (count : ℕ) (s : List ℕ) : Type 0 where
  pub some : 1 ≤ count
  pub few : count ≤ most_frame_bytes
  pub whole : length s ≡ bytes_length count

abbrev pub Line : List ℕ → Option Frame → Type 0
Line s (Some (Opening settings lengths budget)) = length s ≡ opening_length
Line s (Some (Bytes target space offset count)) = BytesLine count s
Line s (Some Operation) = length s ≡ operation_length
Line s None = Unit

opening_line : (s : List ℕ) → Line s (opening_of s)
unfolding opening_of
opening_line s = by_cond (Line s) (eqb (length s) opening_length) _ _ (λ h. eqb-true _ _ h) (λ h. tt)

-- what the test of a 02 or 03 line says
pub record InRange (n : ℕ) : Type 0 where
  pub least : bytes_length 1 ≤ n
  pub most : n ≤ bytes_length most_frame_bytes
  pub even : n % byte_digits ≡ 0

in_range : (n : ℕ) → leb (bytes_length 1) n && leb n (bytes_length most_frame_bytes) && eqb (n % byte_digits) 0 ≡ true → InRange n
in_range n h = record { least = grind (arith, nat_tests); most = grind (arith, nat_tests); even = grind (arith, nat_tests) }

bytes_line : (target : Target) (s : List ℕ) → Line s (bytes_frame_of target s)
unfolding bytes_frame_of
bytes_line target s =
    by_cond (Line s) _ _ _
    (λ h. let r = in_range (length s) h in record { some = omega arith; few = omega arith; whole = omega arith })
    (λ h. tt)

operation_line : (s : List ℕ) → Line s (operation_of s)
unfolding operation_of
operation_line s = by_cond (Line s) (eqb (length s) operation_length) _ _ (λ h. eqb-true _ _ h) (λ h. tt)

kind_line : (k : ℕ) (s : List ℕ) → Line s (frame_by k s)
unfolding frame_by
kind_line k s =
    by_cond (Line s) (eqb k 1) _ _ (λ h. opening_line s)
    (λ h. by_cond (Line s) (eqb k 2) _ _ (λ g. bytes_line Target.Memory s)
    (λ g. by_cond (Line s) (eqb k 3) _ _ (λ f. bytes_line Target.Labels s)
    (λ f. by_cond (Line s) (eqb k 4) _ _ (λ e. operation_line s) (λ e. tt))))

pub frame_line : (s : List ℕ) → Line s (frame_of s)
unfolding frame_of
frame_line s = by_cond (Line s) (leb byte_digits (length s) && all_digits s) _ _ (λ h. kind_line _ s) (λ h. tt)

long_line : (s : List ℕ) → longest_frame < length s → (f : Option Frame) → Line s f → f ≡ None
long_line s h (Some (Opening settings lengths budget)) l = absurd (omega arith)
long_line s h (Some (Bytes target space offset count)) l = absurd (omega (arith, l.whole, l.few))
long_line s h (Some Operation) l = absurd (omega arith)
long_line s h None l = refl

-- a line longer than any frame is bad
pub long_bad : (s : List ℕ) → longest_frame < length s → frame_of s ≡ None
long_bad s h = long_line s h (frame_of s) (frame_line s)
