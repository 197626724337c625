-- The verdict both ways.
use Prim.Native.Nat.{ℕ, zero, suc, ◌+◌, ◌-◌, ◌/◌, ◌%◌, ◌^◌, ◌≤◌, ◌<◌}
use mathlib.Core.Bool.{Bool, true, false, cond, not, ◌&&◌, ◌||◌, xor}
use mathlib.Core.List.{List}
use mathlib.Core.Path.{◌≡◌, refl, sym, ap, ◌∙◌}
use native.Mathlib.Omega.{arith}
use borrow.Author.Tests.{ltb-true, ltb-false, eqb-true, eqb-false, eq-eqb, ne_eqb, lt-ltb, le-ltb, le-leb}
use lib.Dec.{eqb, leb, ltb}
use lib.IntN.{ℤ, pos}
use lib.Signed.{lt_z}
use Rattle.word.specs.Word.{is_size}
use Rattle.arithmetic.specs.Opcodes.{most_inputs, last_opcode, has_place}
use Rattle.operation.specs.declared.layout.Varnode.{Varnode}
use Rattle.operation.specs.declared.layout.Settings.{Settings}
use Rattle.operation.specs.Spaces.{Lengths}
use Rattle.operation.specs.declared.report.Report.{Report}
use Rattle.operation.specs.Layout.{operation_count, spare_at, opcode_at, absent, descriptor_at, offset_at, described_by, varnode_at}
use Rattle.operation.specs.Rules.{branches, breaks_head, breaks_shape, breaks_shape_at, describes_varnode, breaks_place, length_of, beyond, breaks_range, relative_target, target_outside, breaks_target}
use Rattle.validation.specs.Verdict.{Malformed, settings_in_range, lengths_in_range, any_below, any_place, first_malformed, lowest_rule, malformed, refusal_report, size_or_target, verdict}
use Rattle.validation.specs.WellFormed.{WellFormed}
use Rattle.validation.specs.Exact.{breaks_rule, FirstBroken, ExactVerdict}
use Rattle.validation.proofs.Walk.{first_skip, first_start, left_at, left_at_end}
use Rattle.validation.proofs.WellFormed.{no_rule_broken, verdict-zero}

-- ---- a well-formed operation breaks no rule

-- a test that fails at every place fails
none_below : (f : ℕ → Bool) (n : ℕ) → ((k : ℕ) → k < n → f k ≡ false) → any_below n f ≡ false
unfolding any_below
none_below f zero h = refl
none_below f (suc n) h = rw (none_below f n (λ k l. h k (omega arith))) (h n (omega arith))

keeps_present : (d o : ℕ) → (1 ≤ d / 16) × (d / 16 ≤ 4) × (1 ≤ d % 16) × (d % 16 ≤ 8) → breaks_shape true d o ≡ false
unfolding breaks_shape describes_varnode is_size xor
keeps_present d o (s, t, u, v) =
    let z : eqb d 0 ≡ false = ne_eqb d 0 (λ e. let n : ⊥ = omega arith in n) in
    rw (z, le-leb 1 (d / 16) s, le-leb (d / 16) 4 t, le-leb 1 (d % 16) u, le-leb (d % 16) 8 v)

keeps_omitted : (d o : ℕ) → described_by d o ≡ absent → breaks_shape false d o ≡ false
unfolding breaks_shape xor described_by absent
keeps_omitted d o e =
    let s : d / 16 ≡ 0 = ap (λ (v : Varnode). v.space) e in
    let t : d % 16 ≡ 0 = ap (λ (v : Varnode). v.size) e in
    let z : d ≡ 0 = omega (arith, s, t) in
    rw (eq-eqb d 0 z, eq-eqb o 0 (ap (λ (v : Varnode). v.offset) e))

keeps_beyond : (lengths : Lengths) (v : Varnode) → (2 ≤ v.space → v.offset + v.size ≤ length_of lengths v.space)
    → (v.space ≡ 1 → v.offset < 256 ^ v.size) → beyond lengths v ≡ false
unfolding beyond
keeps_beyond lengths v within constant = by (eqb v.space 0) refl (eqb v.space 1) refl
  where
    by : (t : Bool) → eqb v.space 0 ≡ t → (s : Bool) → eqb v.space 1 ≡ s
        → cond t false (cond s (not (ltb v.offset (256 ^ v.size))) (not (leb (v.offset + v.size) (length_of lengths v.space)))) ≡ false
    by true t s e = refl
    by false t true e = rw (lt-ltb v.offset (256 ^ v.size) (constant (eqb-true v.space 1 e)))
    by false t false e =
        let n0 = eqb-false v.space 0 t in
        let n1 = eqb-false v.space 1 e in
        rw (le-leb (v.offset + v.size) (length_of lengths v.space) (within (omega (arith, n0, n1))))

inside_list : (n : ℕ) (z : ℤ) → (t : ℕ) × (t ≤ n) × (z ≡ pos t) → lt_z z (pos 0) || lt_z (pos n) z ≡ false
inside_list n z (t, h, e) = rw e (rw (le-ltb t 0 (omega arith), le-ltb n t h))

keeps_target : (n i opcode : ℕ) (v : Varnode)
    → (branches opcode ≡ true → v.space ≡ 1 → (t : ℕ) × (t ≤ n) × (relative_target i v.offset ≡ pos t))
    → breaks_target n i opcode v ≡ false
unfolding breaks_target target_outside
keeps_target n i opcode v h = by (branches opcode) refl (eqb v.space 1) refl
  where
    by : (b : Bool) → branches opcode ≡ b → (s : Bool) → eqb v.space 1 ≡ s
        → b && s && (lt_z (relative_target i v.offset) (pos 0) || lt_z (pos n) (relative_target i v.offset)) ≡ false
    by true e true q = inside_list n (relative_target i v.offset) (h e (eqb-true v.space 1 q))
    by true e false q = refl
    by false e s q = refl

module _ (a : ℕ) (lengths : Lengths) (list : List ℕ) (i : ℕ) (w : WellFormed a lengths list i) where
  keeps_head : breaks_head list i ≡ false
  unfolding breaks_head
  keeps_head =
      rw (le-leb 1 (opcode_at list i) w.opcode.0, le-leb (opcode_at list i) last_opcode w.opcode.1, eq-eqb (spare_at list i) 0 w.spare)

  keeps_shape : (place : ℕ) → place < most_inputs + 1 → breaks_shape_at list i place ≡ false
  unfolding breaks_shape_at varnode_at described_by
  keeps_shape place h = by (has_place (opcode_at list i) place) refl
    where
      by : (t : Bool) → has_place (opcode_at list i) place ≡ t → breaks_shape t (descriptor_at list i place) (offset_at list i place) ≡ false
      by true e = keeps_present (descriptor_at list i place) (offset_at list i place) (w.present place (omega arith) e)
      by false e = keeps_omitted (descriptor_at list i place) (offset_at list i place) (w.omitted place (omega arith) e)

  keeps_range : (place : ℕ) → place < most_inputs + 1 → breaks_range lengths (opcode_at list i) place (varnode_at list i place) ≡ false
  unfolding breaks_range
  keeps_range place h = by (eqb place 1 && branches (opcode_at list i)) refl
    where
      by : (t : Bool) → eqb place 1 && branches (opcode_at list i) ≡ t → cond t false (beyond lengths (varnode_at list i place)) ≡ false
      by true e = refl
      by false e =
          let exempt : place ≡ 1 → branches (opcode_at list i) ≡ false = λ q. rw (eq-eqb place 1 q) at e in
          keeps_beyond lengths (varnode_at list i place) (w.within place (omega arith) exempt) (w.constant place (omega arith) exempt)

  keeps_all : lowest_rule a lengths list i ≡ 0
  unfolding lowest_rule size_or_target any_place
  keeps_all =
      rw (
        keeps_head,
        none_below (breaks_shape_at list i) (most_inputs + 1) keeps_shape,
        none_below (λ place. breaks_place (opcode_at list i) place (varnode_at list i place)) (most_inputs + 1) (λ place h. w.placed place (omega arith)),
        none_below (λ place. breaks_range lengths (opcode_at list i) place (varnode_at list i place)) (most_inputs + 1) keeps_range,
        w.sized,
        keeps_target (operation_count list) i (opcode_at list i) (varnode_at list i 1) w.target,
      )

-- ---- the lowest rule that is broken

-- v is the lowest number that passes a test, none below m passes it, and 0 stands for none at all
record Lowest (m v : ℕ) (test : ℕ → Bool) : Type 0 where
  below : (r : ℕ) → r < m → test r ≡ false
  least : (v ≡ 0 → ⊥) → (test v ≡ true) × ((r : ℕ) → r < v → test r ≡ false)
  none : v ≡ 0 → (r : ℕ) → test r ≡ false

-- one more number is tested, before the others
lowest_more : (m : ℕ) (b : Bool) {v : ℕ} {test : ℕ → Bool} → 0 < m → Lowest (m + 1) v test → Lowest m (cond b m v) (λ k. cond (eqb k m) b (test k))
lowest_more m b {v} {test} positive rest = record { below = below b; least = least b; none = none b }
  where
    below : (b : Bool) (r : ℕ) → r < m → cond (eqb r m) b (test r) ≡ false
    below b r h = rw (ne_eqb r m (λ e. let z : ⊥ = omega arith in z)) (rest.below r (omega arith))

    skipped : (t s : Bool) → s ≡ false → cond t false s ≡ false
    skipped true s e = refl
    skipped false s e = e

    kept : (t : Bool) → eqb v m ≡ t → test v ≡ true → cond t false (test v) ≡ true
    kept true e h = let z = rest.below m (omega arith) in let q = eqb-true v m e in cc
    kept false e h = h

    least : (b : Bool) → (cond b m v ≡ 0 → ⊥)
        → (cond (eqb (cond b m v) m) b (test (cond b m v)) ≡ true) × ((r : ℕ) → r < cond b m v → cond (eqb r m) b (test r) ≡ false)
    least true h = (rw (eq-eqb m m refl), below true)
    least false h = let found = rest.least h in (kept (eqb v m) refl found.0, λ r l. skipped (eqb r m) (test r) (found.1 r l))

    none : (b : Bool) → cond b m v ≡ 0 → (r : ℕ) → cond (eqb r m) b (test r) ≡ false
    none true e r = absurd (let z : ⊥ = omega arith in z)
    none false e r = skipped (eqb r m) (test r) (rest.none e r)

lowest_none : Lowest 27 0 (λ k. false)
lowest_none = record { below = λ r h. refl; least = λ h. absurd (h refl); none = λ e r. refl }

-- no two numbers are lowest
lowest_is : (m v : ℕ) (test : ℕ → Bool) → Lowest m v test → (k : ℕ) → test k ≡ true → ((r : ℕ) → r < k → test r ≡ false) → v ≡ k
lowest_is m v test lowest k passes before = by (eqb v 0) refl (ltb k v) refl (ltb v k) refl
  where
    by : (z : Bool) → eqb v 0 ≡ z → (s : Bool) → ltb k v ≡ s → (t : Bool) → ltb v k ≡ t → v ≡ k
    by true z s es t et = let n = lowest.none (eqb-true v 0 z) k in cc
    by false z true es t et = let n = (lowest.least (eqb-false v 0 z)).1 k (ltb-true k v es) in cc
    by false z false es true et = let n = before v (ltb-true v k et) in let y = (lowest.least (eqb-false v 0 z)).0 in cc
    by false z false es false et = omega (arith, ltb-false k v es, ltb-false v k et)

-- the rule that the definition picks is the lowest that the operation breaks
ranked : (a : ℕ) (lengths : Lengths) (list : List ℕ) (i : ℕ) → Lowest 21 (lowest_rule a lengths list i) (breaks_rule a lengths list i)
unfolding lowest_rule size_or_target breaks_rule
ranked a lengths list i =
    lowest_more 21 _ (omega arith) (lowest_more 22 _ (omega arith) (lowest_more 23 _ (omega arith)
    (lowest_more 24 _ (omega arith) (lowest_more 25 _ (omega arith) (lowest_more 26 _ (omega arith) lowest_none)))))

-- ---- the operation that is found

-- index is the first of the numbers from i to n - 1 at which f is not 0, and rule is what f is there
record Found (f : ℕ → ℕ) (i n index rule : ℕ) : Type 0 where
  inside : index < n
  there : f index ≡ rule
  zeros : (j : ℕ) → i ≤ j → j < index → f j ≡ 0

-- what a walk that finds something has found
first_finds : (f : ℕ → ℕ) (m i index rule : ℕ) → (rule ≡ 0 → ⊥) → first_malformed f m i ≡ record { rule = rule; index = index } → Found f i (i + m) index rule
unfolding first_malformed
first_finds f zero i index rule nonzero e = absurd (nonzero (sym (ap (λ (x : Malformed). x.rule) e)))
first_finds f (suc m) i index rule nonzero e = by (eqb (f i) 0) refl (first_finds f m (i + 1) index rule nonzero) e
  where
    by : (t : Bool) → eqb (f i) 0 ≡ t → (first_malformed f m (i + 1) ≡ record { rule = rule; index = index } → Found f (i + 1) (i + 1 + m) index rule)
        → cond t (first_malformed f m (i + 1)) (record { rule = f i; index = i }) ≡ record { rule = rule; index = index } → Found f i (i + suc m) index rule
    by true t ih q = let later = ih q in record { inside = omega (arith, later.inside); there = later.there; zeros = λ j h l. at j h l (ltb i j) refl later }
      where
        at : (j : ℕ) → i ≤ j → j < index → (s : Bool) → ltb i j ≡ s → Found f (i + 1) (i + 1 + m) index rule → f j ≡ 0
        at j h l true s later = let g : i < j = ltb-true i j s in later.zeros j (omega arith) l
        at j h l false s later = let g : i ≡ j = omega (arith, ltb-false i j s) in rw (← g) (eqb-true (f i) 0 t)
    by false t ih q =
        let ei : i ≡ index = ap (λ (x : Malformed). x.index) q in
        let er : f i ≡ rule = ap (λ (x : Malformed). x.rule) q in
        record { inside = omega (arith, ei); there = rw (← ei) er; zeros = λ j h l. absurd (let z : ⊥ = omega (arith, ei) in z) }

-- ---- the verdict

module _ (a : ℕ) (lengths : Lengths) (list : List ℕ) where
  -- the walk comes to operation i where all before it are well-formed
  reached : (i : ℕ) → i ≤ operation_count list → ((j : ℕ) → j < i → WellFormed a lengths list j)
      → first_malformed (lowest_rule a lengths list) (operation_count list - i) i ≡ first_malformed (lowest_rule a lengths list) (operation_count list) 0
  reached zero h w = first_start (lowest_rule a lengths list) (operation_count list)
  reached (suc i) h w =
      let e : suc i ≡ i + 1 = omega arith in
      let skip = first_skip (lowest_rule a lengths list) (operation_count list) i (omega arith) (keeps_all a lengths list i (w i (omega arith))) in
      rw e (sym skip ∙ reached i (omega arith) (λ j l. w j (omega arith)))

  all_kept : ((i : ℕ) → i < operation_count list → WellFormed a lengths list i) → record { rule = 0; index = operation_count list } ≡ malformed a lengths list
  all_kept w = left_at_end a lengths list (operation_count list) (reached (operation_count list) (omega arith) w) refl

  numbered : (i k : ℕ) → breaks_rule a lengths list i k ≡ true → 0 < k
  numbered i k e = by (eqb k 0) refl
    where
      by : (t : Bool) → eqb k 0 ≡ t → 0 < k
      by true t = let z : k ≡ 0 = eqb-true k 0 t in let n = (ranked a lengths list i).below k (omega arith) in absurd (let q : ◌≡◌ {A = ℕ} 0 1 = cc in omega (arith, q))
      by false t = let z = eqb-false k 0 t in omega (arith, z)

  first_is : (i k : ℕ) → FirstBroken a lengths list i k → record { rule = k; index = i } ≡ malformed a lengths list
  first_is i k first =
      let is = lowest_is 21 (lowest_rule a lengths list i) (breaks_rule a lengths list i) (ranked a lengths list i) k first.broken first.lowest in
      left_at a lengths list i (reached i (omega (arith, first.listed)) first.before) k (sym is) (numbered i k first.broken) first.listed

  broken_there : (i k : ℕ) → (k ≡ 0 → ⊥) → malformed a lengths list ≡ record { rule = k; index = i } → FirstBroken a lengths list i k
  unfolding malformed
  broken_there i k nonzero e =
      let found = first_finds (lowest_rule a lengths list) (operation_count list) 0 i k nonzero e in
      let is : lowest_rule a lengths list i ≡ k = found.there in
      let least = (ranked a lengths list i).least (λ z. nonzero (sym is ∙ z)) in
      record {
        listed = omega (arith, found.inside);
        before = λ j h. no_rule_broken a lengths list j (found.zeros j (omega arith) h);
        broken = rw is at least.0;
        lowest = rw is at least.1;
      }

module _ (settings : Settings) (lengths : Lengths) (list : List ℕ) (s : settings_in_range settings ≡ true) (l : lengths_in_range lengths list ≡ true) where
  -- the verdict in range is what is found
  in_range : verdict settings lengths list
      ≡ refusal_report (malformed settings.address_size lengths list).rule (malformed settings.address_size lengths list).index
  unfolding verdict
  in_range = rw (s, l)

  answers : (k i : ℕ) → record { rule = k; index = i } ≡ malformed settings.address_size lengths list → verdict settings lengths list ≡ refusal_report k i
  answers k i e = in_range ∙ ap (λ (x : Malformed). refusal_report x.rule x.index) (sym e)

  answered : (k i : ℕ) → verdict settings lengths list ≡ refusal_report k i → malformed settings.address_size lengths list ≡ record { rule = k; index = i }
  unfolding refusal_report
  answered k i e = ap (λ (r : Report). record { rule = r.ending; index = r.index }) (sym in_range ∙ e)

pub exact_verdict : ExactVerdict
exact_verdict =
    record {
      zero = verdict-zero;
      only_zero = λ settings lengths list s l w.
          answers settings lengths list s l 0 (operation_count list) (all_kept settings.address_size lengths list w);
      named = λ settings lengths list s l i k nonzero e.
          broken_there settings.address_size lengths list i k nonzero (answered settings lengths list s l k i e);
      only_named = λ settings lengths list s l i k first. answers settings lengths list s l k i (first_is settings.address_size lengths list i k first);
    }
