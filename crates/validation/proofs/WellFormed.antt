-- A list whose verdict is 0 has every operation well-formed.
use Prim.Native.Nat.{ℕ, zero, suc, ◌+◌, ◌^◌, ◌≤◌, ◌<◌}
use mathlib.Core.Bool.{Bool, true, false, cond, not, ◌&&◌, ◌||◌}
use mathlib.Core.List.{List}
use mathlib.Core.Path.{◌≡◌, refl}
use native.Mathlib.Omega.{arith}
use borrow.Author.Tests.{leb-true, ltb-true, ltb-false, eqb-true, eqb-false, eq-eqb, ne_eqb, not-false}
use lib.Dec.{eqb, leb, ltb}
use lib.IntN.{ℤ, pos, negsuc}
use lib.Signed.{lt_z}
use Rattle.integer.proofs.Booleans.{both, passed, neither}
use Rattle.arithmetic.specs.Opcodes.{most_inputs, last_opcode, has_place}
use Rattle.operation.specs.declared.layout.Varnode.{Varnode}
use Rattle.operation.specs.Spaces.{Lengths}
use Rattle.operation.specs.Layout.{operation_count, spare_at, opcode_at, absent, descriptor_at, offset_at, described_by, varnode_at}
use Rattle.operation.specs.Rules.{branches, breaks_head, breaks_shape_at, describes_varnode, breaks_place, length_of, beyond, breaks_range, breaks_size, relative_target, target_outside, breaks_target}
use Rattle.validation.specs.Verdict.{settings_in_range, lengths_in_range, first_malformed, refusal_report, malformed, verdict, any_place, lowest_rule, size_or_target}
use Rattle.validation.specs.WellFormed.{WellFormed, VerdictZero}
use Rattle.validation.proofs.Walk.{none_at, passed_shape, described}

-- ---- no operation breaks a rule

-- a walk that finds nothing has passed every index
none_found : (f : ℕ → ℕ) (m i : ℕ) → (first_malformed f m i).rule ≡ 0 → (k : ℕ) → i ≤ k → k < i + m → f k ≡ 0
unfolding first_malformed
none_found f zero i e k l h = absurd (let z : ⊥ = omega arith in z)
none_found f (suc m) i e k l h = by (eqb (f i) 0) refl (λ r. none_found f m (i + 1) r k) e
  where
    by : (t : Bool) → eqb (f i) 0 ≡ t → ((first_malformed f m (i + 1)).rule ≡ 0 → i + 1 ≤ k → k < i + 1 + m → f k ≡ 0)
        → (cond t (first_malformed f m (i + 1)) (record { rule = f i; index = i })).rule ≡ 0 → f k ≡ 0
    by true t ih r = later (ltb i k) refl
      where
        later : (s : Bool) → ltb i k ≡ s → f k ≡ 0
        later true s = let q : i < k = ltb-true i k s in ih r (omega arith) (omega arith)
        later false s = let q : i ≡ k = omega (arith, ltb-false i k s) in rw (← q) (eqb-true (f i) 0 t)
    by false t ih r = absurd (eqb-false (f i) 0 t r)

-- ---- the fields

-- an integer of 0 to n
within_list : (n : ℕ) (z : ℤ) → lt_z z (pos 0) || lt_z (pos n) z ≡ false → (t : ℕ) × (t ≤ n) × (z ≡ pos t)
within_list n (pos t) e = (t, ltb-false n t (neither (ltb t 0) (ltb n t) e).1, refl)
within_list n (negsuc t) e = absurd (let z : ◌≡◌ {A = ℕ} 0 1 = cc in omega arith)

-- a place that is no branch destination is not exempt from rule 24
not_exempt : (place : ℕ) (b : Bool) → (place ≡ 1 → b ≡ false) → eqb place 1 && b ≡ false
not_exempt place b h = by (eqb place 1) refl
  where
    by : (t : Bool) → eqb place 1 ≡ t → t && b ≡ false
    by true e = h (eqb-true place 1 e)
    by false e = refl

module _ (lengths : Lengths) (opcode place : ℕ) (v : Varnode) (exempt : place ≡ 1 → branches opcode ≡ false)
    (e : breaks_range lengths opcode place v ≡ false) where
  not_beyond : beyond lengths v ≡ false
  unfolding breaks_range
  not_beyond = rw (not_exempt place (branches opcode) exempt) at e

  in_space_lem : 2 ≤ v.space → v.offset + v.size ≤ length_of lengths v.space
  unfolding beyond
  in_space_lem h =
      let e0 : eqb v.space 0 ≡ false = ne_eqb v.space 0 (λ z. let n : ⊥ = omega arith in n) in
      let e1 : eqb v.space 1 ≡ false = ne_eqb v.space 1 (λ z. let n : ⊥ = omega arith in n) in
      leb-true (v.offset + v.size) (length_of lengths v.space) (not-false _ (rw (e0, e1) at not_beyond))

  in_constant : v.space ≡ 1 → v.offset < 256 ^ v.size
  unfolding beyond
  in_constant h =
      let e0 : eqb v.space 0 ≡ false = ne_eqb v.space 0 (λ z. let n : ⊥ = omega arith in n) in
      ltb-true v.offset (256 ^ v.size) (not-false _ (rw (e0, eq-eqb v.space 1 h) at not_beyond))

module _ (list : List ℕ) (i place : ℕ) (e : breaks_shape_at list i place ≡ false) where
  shaped : cond (has_place (opcode_at list i) place) (describes_varnode (descriptor_at list i place)) (eqb (descriptor_at list i place) 0 && eqb (offset_at list i place) 0) ≡ true
  unfolding breaks_shape_at
  shaped = passed_shape (has_place (opcode_at list i) place) (descriptor_at list i place) (offset_at list i place) e

  is_present : has_place (opcode_at list i) place ≡ true
      → (1 ≤ (varnode_at list i place).space) × ((varnode_at list i place).space ≤ 4) × (1 ≤ (varnode_at list i place).size) × ((varnode_at list i place).size ≤ 8)
  unfolding varnode_at described_by
  is_present h = described (descriptor_at list i place) (rw h at shaped)

  is_absent : has_place (opcode_at list i) place ≡ false → varnode_at list i place ≡ absent
  unfolding varnode_at described_by absent
  is_absent h =
      let t = both (eqb (descriptor_at list i place) 0) (eqb (offset_at list i place) 0) (rw h at shaped) in
      rw (eqb-true (descriptor_at list i place) 0 t.0, eqb-true (offset_at list i place) 0 t.1)

is_target : (n i opcode : ℕ) (v : Varnode) → breaks_target n i opcode v ≡ false → branches opcode ≡ true → v.space ≡ 1
    → (t : ℕ) × (t ≤ n) × (relative_target i v.offset ≡ pos t)
unfolding breaks_target target_outside
is_target n i opcode v e b h = within_list n (relative_target i v.offset) (rw (b, eq-eqb v.space 1 h) at e)

-- ---- the law

pub no_rule_broken : (a : ℕ) (lengths : Lengths) (list : List ℕ) (i : ℕ) → lowest_rule a lengths list i ≡ 0 → WellFormed a lengths list i
unfolding lowest_rule any_place size_or_target breaks_head
no_rule_broken a lengths list i e =
    let t1 = passed (breaks_head list i) 21 _ (omega arith) e in
    let t2 = passed (any_place (breaks_shape_at list i)) 22 _ (omega arith) t1.1 in
    let t3 = passed (any_place (λ place. breaks_place (opcode_at list i) place (varnode_at list i place))) 23 _ (omega arith) t2.1 in
    let t4 = passed (any_place (λ place. breaks_range lengths (opcode_at list i) place (varnode_at list i place))) 24 _ (omega arith) t3.1 in
    let t5 = passed (breaks_size a (opcode_at list i) (varnode_at list i 0).size (varnode_at list i 1).size (varnode_at list i 2).size) 25 _ (omega arith) t4.1 in
    let t6 = passed (breaks_target (operation_count list) i (opcode_at list i) (varnode_at list i 1)) 26 0 (omega arith) t5.1 in
    let head = neither (not (leb 1 (opcode_at list i) && leb (opcode_at list i) last_opcode)) _ t1.0 in
    let range = both (leb 1 (opcode_at list i)) (leb (opcode_at list i) last_opcode) (not-false _ head.0) in
    let ranged : (place : ℕ) → place < most_inputs + 1 → breaks_range lengths (opcode_at list i) place (varnode_at list i place) ≡ false =
    λ place h. none_at (λ p. breaks_range lengths (opcode_at list i) p (varnode_at list i p)) (most_inputs + 1) place h t4.0 in
    record {
      opcode = (leb-true 1 (opcode_at list i) range.0, leb-true (opcode_at list i) last_opcode range.1);
      spare = eqb-true (spare_at list i) 0 (not-false _ head.1);
      present = λ place h. is_present list i place (none_at (breaks_shape_at list i) (most_inputs + 1) place (omega arith) t2.0);
      omitted = λ place h. is_absent list i place (none_at (breaks_shape_at list i) (most_inputs + 1) place (omega arith) t2.0);
      placed = λ place h. none_at (λ p. breaks_place (opcode_at list i) p (varnode_at list i p)) (most_inputs + 1) place (omega arith) t3.0;
      within = λ place h x. in_space_lem lengths (opcode_at list i) place (varnode_at list i place) x (ranged place (omega arith));
      constant = λ place h x. in_constant lengths (opcode_at list i) place (varnode_at list i place) x (ranged place (omega arith));
      sized = t5.0;
      target = is_target (operation_count list) i (opcode_at list i) (varnode_at list i 1) t6.0;
    }

pub verdict-zero : VerdictZero
unfolding verdict refusal_report malformed
verdict-zero settings lengths list e = by (settings_in_range settings) refl (lengths_in_range lengths list) refl
  where
    by : (s : Bool) → settings_in_range settings ≡ s → (l : Bool) → lengths_in_range lengths list ≡ l
        → (settings_in_range settings ≡ true) × (lengths_in_range lengths list ≡ true)
        × ((i : ℕ) → i < operation_count list → WellFormed settings.address_size lengths list i)
    by true s true l = (
      s,
      l,
      λ i h.
          no_rule_broken settings.address_size lengths list i
          (none_found (lowest_rule settings.address_size lengths list) (operation_count list) 0 (rw (s, l) at e) i (omega arith) (omega arith)),
    )
    by true s false l = absurd (let z : ◌≡◌ {A = ℕ} 11 0 = rw (s, l) at e in omega (arith, z))
    by false s l k = absurd (let z : ◌≡◌ {A = ℕ} 10 0 = rw s at e in omega (arith, z))
