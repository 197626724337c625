-- `wrap size` takes sums, products and opposites of integers to those modulo 256^size.
use Rattle.std.proofs.Common.{◌≡◌, ℕ, zero, suc, ◌+◌, ◌-◌, ◌*◌, ◌/◌, ◌%◌, ◌^◌, ◌<◌, Bool, true, false, ltb, ℤ, pos, negsuc, ◌+ℤ◌, ◌*ℤ◌, neg_ℤ, sym, refl, ap, ◌∙◌, add-zero, add_assoc, mod-lt, mod-eq_of_lt, add-mul, one-mul, div-add-mod', zero-add, zero-mul, mul_right_comm, add-one, arith, ltb-false, ltb-true}
use native.Mathlib.Nat.{mod_self, zero-mod, mod-add-mod}
use native.Mathlib.Nat.{add-mod-mod, mul-mod_left, add-mul-mod_self_right, mul-add-mod_self_right}
use lib.IntN.{suc_ℤ, +ℤ_idr, +ℤ_invl, +ℤ-suc_ℤ, suc_ℤ-*ℤ, zero-*ℤ}
use Rattle.word.proofs.Powers.{size_pos}
use Rattle.integer.specs.Integers.{signed, wrap}
use Rattle.integer.proofs.TwosComplement.{signed_low, signed_high, wrap_lt}

-- ---- numbers modulo m

module _ (m : ℕ) (positive : 0 < m) where
  -- the first multiple of m above c
  next : (c : ℕ) → c + (m - c % m) ≡ (c / m + 1) * m
  next c = omega (arith, div-add-mod' c m, add-mul (c / m) 1 m, mod-lt c positive)

  -- c added and taken away again
  undo : (u c : ℕ) → u < m → ((u + c) % m + (m - c % m)) % m ≡ u
  undo u c h =
      let e : u + c + (m - c % m) ≡ u + (c / m + 1) * m = omega (arith, next c) in
      mod-add-mod (u + c) m (m - c % m) ∙ rw (e, add-mul-mod_self_right) (mod-eq_of_lt h)

  mod-mul-mod : (a b : ℕ) → (a % m) * b % m ≡ a * b % m
  mod-mul-mod a b =
      let e : a * b ≡ (a / m * m + a % m) * b = rw div-add-mod' in
      sym (rw (e, add-mul, mul_right_comm (a / m) m b) (mul-add-mod_self_right (a / m * b) m ((a % m) * b)))

  -- two functions that grow by c at each step are the same if they are at 0
  module _ (c : ℕ) (f g : ℤ → ℕ) (f_lt : (z : ℤ) → f z < m) (g-lt : (z : ℤ) → g z < m)
      (f-step : (z : ℤ) → f (suc_ℤ z) ≡ (f z + c) % m) (g-step : (z : ℤ) → g (suc_ℤ z) ≡ (g z + c) % m) where
    back : (z : ℤ) → f (suc_ℤ z) ≡ g (suc_ℤ z) → f z ≡ g z
    back z e =
        sym (undo (f z) c (f_lt z)) ∙ ap (λ (n : ℕ). (n + (m - c % m)) % m) (sym (f-step z) ∙ e ∙ g-step z) ∙ undo (g z) c (g-lt z)

    same : f (pos 0) ≡ g (pos 0) → (z : ℤ) → f z ≡ g z
    same e (pos zero) = e
    same e (pos (suc n)) = f-step (pos n) ∙ ap (λ (k : ℕ). (k + c) % m) (same e (pos n)) ∙ sym (g-step (pos n))
    same e (negsuc zero) = back (negsuc 0) e
    same e (negsuc (suc n)) = back (negsuc (suc n)) (same e (negsuc n))

-- ---- integers modulo 256^s

module _ (s : ℕ) where
  pub wrap-signed : (a : ℕ) → a < 256 ^ s → wrap s (signed s a) ≡ a
  unfolding wrap
  wrap-signed a h = by (ltb (2 * a) (256 ^ s)) refl
    where
      by : (t : Bool) → ltb (2 * a) (256 ^ s) ≡ t → wrap s (signed s a) ≡ a
      by true e = rw (signed_low s a (ltb-true _ _ e)) (mod-eq_of_lt h)
      by false e =
          let r : (256 ^ s - 1 - a) % 256 ^ s ≡ 256 ^ s - 1 - a = mod-eq_of_lt (omega arith) in
          rw (signed_high s a (ltb-false _ _ e) h, r) (omega arith)

  wrap-suc : (z : ℤ) → wrap s (suc_ℤ z) ≡ (wrap s z + 1) % 256 ^ s
  unfolding wrap
  wrap-suc (pos n) = rw (mod-add-mod, add-one)
  wrap-suc (negsuc zero) = let e : 256 ^ s - 1 - 0 + 1 ≡ 256 ^ s = omega (arith, size_pos s) in rw (zero-mod, e, mod_self)
  wrap-suc (negsuc (suc n)) =
      let l : n % 256 ^ s < 256 ^ s = mod-lt n (size_pos s) in
      let k : suc n % 256 ^ s < 256 ^ s = mod-lt (suc n) (size_pos s) in
      let e : 256 ^ s - 1 - n % 256 ^ s + suc n ≡ (n / 256 ^ s + 1) * 256 ^ s = omega (arith, next (256 ^ s) (size_pos s) n) in
      sym (undo (256 ^ s) (size_pos s) (256 ^ s - 1 - n % 256 ^ s) (suc n) (omega arith))
      ∙ rw (e, mul-mod_left) (ap (λ (i : ℕ). i % 256 ^ s) (omega arith))

  pub wrap-add : (x y : ℤ) → wrap s (x +ℤ y) ≡ (wrap s x + wrap s y) % 256 ^ s
  unfolding wrap
  wrap-add x =
      same (256 ^ s) (size_pos s) 1 (λ z. wrap s (x +ℤ z)) (λ z. (wrap s x + wrap s z) % 256 ^ s)
      (λ z. wrap_lt s (x +ℤ z)) (λ z. mod-lt (wrap s x + wrap s z) (size_pos s))
      (λ z. ap (wrap s) (+ℤ-suc_ℤ x z) ∙ wrap-suc (x +ℤ z))
      (λ z. rw (wrap-suc z, add-mod-mod, mod-add-mod, add_assoc))
      (rw (+ℤ_idr, add-mod-mod, add-zero) (sym (mod-eq_of_lt (wrap_lt s x))))

  pub wrap-mul : (x y : ℤ) → wrap s (x *ℤ y) ≡ wrap s x * wrap s y % 256 ^ s
  unfolding wrap
  wrap-mul x y =
      same (256 ^ s) (size_pos s) (wrap s y) (λ z. wrap s (z *ℤ y)) (λ z. wrap s z * wrap s y % 256 ^ s)
      (λ z. wrap_lt s (z *ℤ y)) (λ z. mod-lt (wrap s z * wrap s y) (size_pos s))
      (λ z. ap (wrap s) (suc_ℤ-*ℤ z y) ∙ wrap-add (z *ℤ y) y)
      (λ z. rw (wrap-suc z, mod-mul-mod (256 ^ s) (size_pos s), mod-add-mod, add-mul, one-mul))
      (rw (zero-*ℤ, mod-mul-mod (256 ^ s) (size_pos s), zero-mul)) x

  pub wrap_opposite : (z : ℤ) → wrap s (neg_ℤ z) ≡ (256 ^ s - wrap s z) % 256 ^ s
  unfolding wrap
  wrap_opposite z =
      let e : (wrap s (neg_ℤ z) + wrap s z) % 256 ^ s ≡ 0 = sym (wrap-add (neg_ℤ z) z) ∙ rw (+ℤ_invl, zero-mod) in
      sym (undo (256 ^ s) (size_pos s) (wrap s (neg_ℤ z)) (wrap s z) (wrap_lt s (neg_ℤ z))) ∙ rw (e, zero-add, mod-eq_of_lt (wrap_lt s z))
