-- The statements of LeftOpen hold.
use Rattle.std.proofs.Common.{◌≡◌, ℕ, zero, suc, ◌+◌, ◌-◌, ◌*◌, ◌/◌, ◌%◌, ◌^◌, ◌<◌, ◌≤◌, Bool, true, false, cond, ℤ, negsuc, ◌+ℤ◌, ◌*ℤ◌, nat_abs, refl, ap, ◌∙◌, lt_of_lt_of_le, lt_of_le_of_lt, mod-lt, mod-eq_of_lt, div-lt_iff_lt-mul, div-one, arith, pow-add, le-ltb, ne_eqb}
use mathlib.Core.Bool.{xor}
use native.Mathlib.Nat.{mod-le, div-eq_of_lt, zero-mod, mul-add-div_right}
use Rattle.word.proofs.Powers.{size_pos, size_mono}
use Rattle.integer.specs.Integers.{signed, wrap, negative, with_sign, quotient, remainder}
use Rattle.integer.specs.Operations.{subpiece, int_left, int_right, int_sright, int_sdiv, int_srem, truth, bool_negate, bool_xor, bool_and, bool_or}
use Rattle.integer.specs.LeftOpen.{LeftOpen}
use Rattle.integer.proofs.Booleans.{flag_lt}
use Rattle.integer.proofs.TwosComplement.{signed_high}
use Rattle.integer.proofs.Division.{divided, no_remainder}
use Rattle.integer.proofs.Overflow.{even}

shift_by_width : (size a b : ℕ) → 8 * size ≤ b → (int_left size a b ≡ 0) × (int_right size a b ≡ 0)
unfolding int_left int_right
shift_by_width size a b h = rw (le-ltb b (8 * size) h) (refl, refl)

sright_by_width : (size a b : ℕ) (t : Bool) → 8 * size ≤ b → negative (signed size a) ≡ t → int_sright size a b ≡ cond t (256 ^ size - 1) 0
unfolding int_sright
sright_by_width size a b t h e = rw (le-ltb b (8 * size) h, e)

magnitude : (t : Bool) (n : ℕ) → nat_abs (with_sign t n) ≡ n
unfolding with_sign
magnitude false n = refl
magnitude true zero = refl
magnitude true (suc n) = refl

sign : (t : Bool) (n : ℕ) → 0 < n → negative (with_sign t n) ≡ t
unfolding with_sign negative
sign false n h = refl
sign true zero h = absurd (let z : ⊥ = omega arith in z)
sign true (suc n) h = refl

truncates : (p q : ℤ)
    → (quotient p q *ℤ q +ℤ remainder p q ≡ p) × (0 < nat_abs q → nat_abs (remainder p q) < nat_abs q)
    × (0 < nat_abs (remainder p q) → negative (remainder p q) ≡ negative p)
unfolding remainder
truncates p q = (
  divided p q,
  λ h. rw magnitude (mod-lt (nat_abs p) h),
  λ h. sign (negative p) (nat_abs p % nat_abs q) (rw magnitude at h),
)

-- ---- the least value by -1

module _ (size : ℕ) (h : 1 ≤ size) where
  least : signed size (256 ^ size / 2) ≡ negsuc (256 ^ size / 2 - 1)
  least =
      signed_high size (256 ^ size / 2) (omega (arith, even size h)) (omega (arith, even size h, size_pos size))
      ∙ ap negsuc (omega (arith, even size h, size_pos size))

  minus_one : signed size (256 ^ size - 1) ≡ negsuc 0
  minus_one =
      signed_high size (256 ^ size - 1) (omega (arith, even size h, size_pos size)) (omega (arith, size_pos size))
      ∙ ap negsuc (omega arith)

  least_quotient : int_sdiv size (256 ^ size / 2) (256 ^ size - 1) ≡ 256 ^ size / 2
  unfolding int_sdiv wrap quotient with_sign negative xor
  least_quotient =
      let e : suc (256 ^ size / 2 - 1) ≡ 256 ^ size / 2 = omega (arith, even size h, size_pos size) in
      rw (least, minus_one, div-one, e) (mod-eq_of_lt (omega (arith, even size h, size_pos size)))

  least_remainder : int_srem size (256 ^ size / 2) (256 ^ size - 1) ≡ 0
  unfolding int_srem wrap
  least_remainder = rw (minus_one, no_remainder) (zero-mod (256 ^ size))

-- ---- SUBPIECE

missing_bytes : (size size0 a b : ℕ) → a < 256 ^ size0 → subpiece size a b < 256 ^ (size0 - b)
unfolding subpiece
missing_bytes size size0 a b h =
    let whole : 256 ^ size0 ≤ 256 ^ (size0 - b) * 256 ^ b = rw (← (pow-add 256 (size0 - b) b)) (size_mono size0 (size0 - b + b) (omega arith)) in
    lt_of_le_of_lt (mod-le (a / 256 ^ b) (256 ^ size)) ((div-lt_iff_lt-mul (size_pos b)).1 (lt_of_lt_of_le h whole))

drops_low_bytes : (size high low b : ℕ) → high < 256 ^ size → low < 256 ^ b → subpiece size (high * 256 ^ b + low) b ≡ high
unfolding subpiece
drops_low_bytes size high low b hh hl =
    let e : (high * 256 ^ b + low) / 256 ^ b ≡ high = mul-add-div_right (size_pos b) high low ∙ ap (λ (n : ℕ). high + n) (div-eq_of_lt hl) ∙ omega arith in
    ap (λ (n : ℕ). n % 256 ^ size) e ∙ mod-eq_of_lt hh

-- ---- BOOL

true_of : (a : ℕ) → 0 < a → truth a ≡ truth 1
unfolding truth
true_of a h = rw (ne_eqb a 0 (λ e. let z : ⊥ = omega arith in z))

any_nonzero : (a b : ℕ) → 0 < a
    → (bool_negate a ≡ bool_negate 1) × (bool_xor a b ≡ bool_xor 1 b) × (bool_xor b a ≡ bool_xor b 1)
    × (bool_and a b ≡ bool_and 1 b) × (bool_and b a ≡ bool_and b 1) × (bool_or a b ≡ bool_or 1 b) × (bool_or b a ≡ bool_or b 1)
unfolding bool_negate bool_or bool_xor bool_and
any_nonzero a b h = rw (true_of a h) (refl, refl, refl, refl, refl, refl, refl)

zero_or_one : (a b : ℕ) → (bool_negate a < 2) × (bool_xor a b < 2) × (bool_and a b < 2) × (bool_or a b < 2)
unfolding bool_negate bool_or bool_xor bool_and
zero_or_one a b = (flag_lt _, flag_lt _, flag_lt _, flag_lt _)

pub left_open : LeftOpen
left_open =
    record {
      shift_by_width = shift_by_width;
      sright_by_width = λ size a b h e. sright_by_width size a b false h e;
      sright_of_negative = λ size a b h e. sright_by_width size a b true h e;
      truncates = truncates;
      least_by_minus_one = λ size h. (least_quotient size h, least_remainder size h);
      drops_low_bytes = drops_low_bytes;
      missing_bytes = missing_bytes;
      any_nonzero = any_nonzero;
      zero_or_one = zero_or_one;
    }
