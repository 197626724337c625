-- The refusals before anything runs.
use Prim.Native.Nat.{ℕ, zero, suc, ◌+◌, ◌≤◌, ◌<◌}
use native.Mathlib.Omega.{arith}
use mathlib.Core.Path.{◌≡◌, refl}
use mathlib.Core.Bool.{Bool, true, false, cond, not, ◌&&◌}
use mathlib.Core.List.{List}
use borrow.Author.Tests.{eqb-true, eqb-false, eq-eqb, le-ltb, ltb-false, not-true, not-false}
use lib.Dec.{eqb, ltb}
use Rattle.integer.proofs.Booleans.{both}
use Rattle.operation.specs.declared.layout.Settings.{Settings}
use Rattle.operation.specs.Spaces.{Lengths}
use Rattle.operation.specs.declared.report.Report.{Report}
use Rattle.operation.specs.Layout.{operation_count, opcode_at, varnode_at}
use Rattle.operation.specs.Rules.{breaks_head, breaks_shape_at, breaks_place, breaks_range, breaks_size, breaks_target}
use Rattle.validation.specs.Verdict.{Malformed, settings_in_range, lengths_in_range, any_place, size_or_target, lowest_rule, first_malformed, malformed, refusal_report}
use Rattle.machine.specs.Calls.{refusal}
use Rattle.machine.proofs.Cases.{either}

-- ---- the numbers of the refusals

-- 0, where nothing is refused; or a number in a range
pub data Known (low high : ℕ) : ℕ → Type 0 where
  none : Known low high 0
  known : (n : ℕ) → low ≤ n → n ≤ high → Known low high n

-- the rules are 21 to 26
rule_known : (a : ℕ) (lengths : Lengths) (list : List ℕ) (i : ℕ) → Known 21 26 (lowest_rule a lengths list i)
unfolding lowest_rule size_or_target
rule_known a lengths list i =
    either (Known 21 26) (breaks_head list i) 21 _ (known 21 (omega arith) (omega arith))
    (either (Known 21 26) (any_place (breaks_shape_at list i)) 22 _ (known 22 (omega arith) (omega arith))
    (either (Known 21 26) (any_place (λ place. breaks_place (opcode_at list i) place (varnode_at list i place))) 23 _ (known 23 (omega arith) (omega arith))
    (either (Known 21 26) (any_place (λ place. breaks_range lengths (opcode_at list i) place (varnode_at list i place))) 24 _ (known 24 (omega arith) (omega arith))
    (either (Known 21 26) (breaks_size a (opcode_at list i) (varnode_at list i 0).size (varnode_at list i 1).size (varnode_at list i 2).size) 25 _ (known 25 (omega arith) (omega arith))
    (either (Known 21 26) (breaks_target (operation_count list) i (opcode_at list i) (varnode_at list i 1)) 26 0 (known 26 (omega arith) (omega arith)) none)))))

first_known : (f : ℕ → ℕ) → ((i : ℕ) → Known 21 26 (f i)) → (m i : ℕ) → Known 21 26 (first_malformed f m i).rule
unfolding first_malformed
first_known f h zero i = none
first_known f h (suc m) i = either (λ (r : Malformed). Known 21 26 r.rule) (eqb (f i) 0) _ _ (first_known f h m (i + 1)) (h i)

pub found_known : (a : ℕ) (lengths : Lengths) (list : List ℕ) → Known 21 26 (malformed a lengths list).rule
unfolding malformed
found_known a lengths list = first_known _ (rule_known a lengths list) (operation_count list) 0

-- a report of a call in which nothing ran: its ending is 0 or a refusal's, 10 to 12 or 21 to 27
pub data Refuses : Report → Type 0 where
  early : (ending index : ℕ) → Known 10 12 ending → Refuses (refusal_report ending index)
  late : (ending index : ℕ) → Known 21 27 ending → Refuses (refusal_report ending index)

wider : {n : ℕ} → Known 21 26 n → Known 21 27 n
wider none = none
wider (known n l h) = known n l (omega arith)

pub refusal_refuses : (settings : Settings) (lengths : Lengths) (list : List ℕ) (start : ℕ) (fitting valid : Bool)
    → Refuses (refusal settings lengths list start fitting valid)
unfolding refusal
refusal_refuses settings lengths list start fitting valid =
    let found = malformed settings.address_size lengths list in
    either Refuses (not (settings_in_range settings)) _ _ (early 10 0 (known 10 (omega arith) (omega arith)))
    (either Refuses (not (lengths_in_range lengths list && fitting)) _ _ (early 11 0 (known 11 (omega arith) (omega arith)))
    (either Refuses (not valid) _ _ (early 12 0 (known 12 (omega arith) (omega arith)))
    (either Refuses (not (eqb found.rule 0)) _ _ (late found.rule found.index (wider (found_known settings.address_size lengths list)))
    (either Refuses (ltb (operation_count list) start) _ _ (late 27 0 (known 27 (omega arith) (omega arith))) (late 0 0 none)))))

pub refusal_report_lem : {r : Report} → Refuses r → (r.executed ≡ 0) × (r.logged ≡ 0) × (r.value ≡ 0)
unfolding refusal_report
refusal_report_lem (early e i h) = (refl, refl, refl)
refusal_report_lem (late e i h) = (refl, refl, refl)

pub not_stopped : {r : Report} → Refuses r → r.ending ≡ 2 → ⊥
unfolding refusal_report
not_stopped (early e i none) z = omega (arith, z)
not_stopped (early e i (known n l h)) z = omega (arith, l, z)
not_stopped (late e i none) z = omega (arith, z)
not_stopped (late e i (known n l h)) z = omega (arith, l, z)

-- ---- what a run that is not refused may rely on

pub record Accepted (settings : Settings) (lengths : Lengths) (list : List ℕ) (start : ℕ) (fitting valid : Bool) : Type 0 where
  pub settings_right : settings_in_range settings ≡ true
  pub lengths_right : lengths_in_range lengths list ≡ true
  pub labels_fit : fitting ≡ true
  pub labels_right : valid ≡ true
  pub well_formed : (malformed settings.address_size lengths list).rule ≡ 0
  pub start_inside : start ≤ operation_count list

-- a refusal that was not called for, and the refusals after it
not_called_for : (t : Bool) (n i : ℕ) (rest : Report) → (t ≡ true → n ≡ 0 → ⊥) → (cond t (refusal_report n i) rest).ending ≡ 0 → (t ≡ false) × (rest.ending ≡ 0)
unfolding refusal_report
not_called_for true n i rest h e = absurd (h refl e)
not_called_for false n i rest h e = (refl, e)

pub accepted : (settings : Settings) (lengths : Lengths) (list : List ℕ) (start : ℕ) (fitting valid : Bool)
    → eqb (refusal settings lengths list start fitting valid).ending 0 ≡ true → Accepted settings lengths list start fitting valid
unfolding refusal
accepted settings lengths list start fitting valid e =
    let found = malformed settings.address_size lengths list in
    let t1 = not_called_for (not (settings_in_range settings)) 10 0 _ (λ h z. omega (arith, z)) (eqb-true _ 0 e) in
    let t2 = not_called_for (not (lengths_in_range lengths list && fitting)) 11 0 _ (λ h z. omega (arith, z)) t1.1 in
    let t3 = not_called_for (not valid) 12 0 _ (λ h z. omega (arith, z)) t2.1 in
    let t4 = not_called_for (not (eqb found.rule 0)) found.rule found.index _ (λ h. eqb-false found.rule 0 (not-true _ h)) t3.1 in
    let t5 = not_called_for (ltb (operation_count list) start) 27 0 (refusal_report 0 0) (λ h z. omega (arith, z)) t4.1 in
    let l = both (lengths_in_range lengths list) fitting (not-false _ t2.0) in
    record {
      settings_right = not-false _ t1.0;
      lengths_right = l.0;
      labels_fit = l.1;
      labels_right = not-false valid t3.0;
      well_formed = eqb-true found.rule 0 (not-false _ t4.0);
      start_inside = ltb-false (operation_count list) start t5.0;
    }

-- so it is not refused at another start within the list
pub restarted : {settings : Settings} {lengths : Lengths} {list : List ℕ} {start : ℕ} {fitting valid : Bool} → Accepted settings lengths list start fitting valid
    → (again : ℕ) → again < operation_count list → refusal settings lengths list again fitting true ≡ refusal_report 0 0
unfolding refusal
restarted {list} a again h =
    rw (a.settings_right, a.lengths_right, a.labels_fit, eq-eqb _ 0 a.well_formed, le-ltb (operation_count list) again (omega (arith, h))) refl
