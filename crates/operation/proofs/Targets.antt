-- A relative branch's target, told without the signed sum.
use Prim.Native.Nat.{ℕ, suc, ◌+◌, ◌-◌, ◌%◌, ◌^◌, ◌≤◌, ◌<◌}
use native.Mathlib.Nat.{mod-eq_of_lt, mod-add-mod}
use mathlib.Core.Bool.{Bool, true, false, ◌||◌}
use mathlib.Core.Path.{◌≡◌, refl, sym, ap, ◌∙◌}
use native.Mathlib.Omega.{arith}
use borrow.Author.Tests.{ltb-true, ltb-false, le-ltb, le-leb, lt-leb}
use lib.Dec.{ltb, leb}
use lib.IntN.{pos, negsuc, ◌+ℤ◌}
use lib.Signed.{lt_z}
use Rattle.integer.specs.Integers.{signed, wrap}
use Rattle.integer.proofs.Modular.{wrap-signed, wrap-add}
use Rattle.integer.proofs.TwosComplement.{signed_low, signed_high}
use Rattle.word.proofs.Tests.{leb-agree}
use Rattle.operation.specs.Rules.{relative_target, target_outside}

pub forward : (n i offset : ℕ) → i ≤ n → offset < 2 ^ 63 → ltb (n - i) offset ≡ target_outside n i offset
unfolding target_outside relative_target
forward n i offset h l =
    rw (signed_low 8 offset (omega arith), le-ltb (i + offset) 0 (omega arith))
    (leb-agree (suc (n - i)) offset (suc n) (i + offset) (λ k. omega arith) (λ k. omega arith))

pub backward : (n i offset : ℕ) → i ≤ n → 2 ^ 63 ≤ offset → offset < 2 ^ 64 → leb i (2 ^ 64 - 1 - offset) ≡ target_outside n i offset
unfolding target_outside relative_target
backward n i offset h l f = rw (signed_high 8 offset (omega arith) f) (by (ltb i (suc (2 ^ 64 - 1 - offset))) refl)
  where
    by : (t : Bool) → ltb i (suc (2 ^ 64 - 1 - offset)) ≡ t
        → leb i (2 ^ 64 - 1 - offset) ≡ lt_z (pos i +ℤ negsuc (2 ^ 64 - 1 - offset)) (pos 0) || lt_z (pos n) (pos i +ℤ negsuc (2 ^ 64 - 1 - offset))
    by true e =
        let k : i < suc (2 ^ 64 - 1 - offset) = ltb-true _ _ e in
        rw e (le-leb i (2 ^ 64 - 1 - offset) (omega arith))
    by false e =
        let k : suc (2 ^ 64 - 1 - offset) ≤ i = ltb-false _ _ e in
        rw (e, le-ltb (i - suc (2 ^ 64 - 1 - offset)) 0 (omega arith), le-ltb n (i - suc (2 ^ 64 - 1 - offset)) (omega arith))
        (lt-leb i (2 ^ 64 - 1 - offset) (omega arith))

-- a target of 0 to 2^64 - 1 is the sum modulo 2^64
pub wrapping : (i offset t : ℕ) → offset < 2 ^ 64 → t < 2 ^ 64 → relative_target i offset ≡ pos t → (i + offset) % 2 ^ 64 ≡ t
unfolding relative_target wrap
wrapping i offset t h l e =
    sym (mod-add-mod i (2 ^ 64) offset)
    ∙ ap (λ (x : ℕ). (i % 2 ^ 64 + x) % 2 ^ 64) (sym (wrap-signed 8 offset h))
    ∙ sym (wrap-add 8 (pos i) (signed 8 offset)) ∙ ap (wrap 8) e ∙ mod-eq_of_lt l
