-- The verdict both ways: it is 0 exactly where every operation is well-formed, and it names an operation and a rule exactly where
-- that operation is the first that is not well-formed, and that rule the lowest that it breaks.
use Rattle.std.specs.Prelude.{ℕ, ◌<◌, Bool, true, false, cond, List, ◌≡◌, eqb}
use Rattle.operation.specs.declared.layout.Settings.{Settings}
use Rattle.operation.specs.Spaces.{Lengths}
use Rattle.operation.specs.Layout.{operation_count, opcode_at, varnode_at}
use Rattle.operation.specs.Rules.{breaks_head, breaks_shape_at, breaks_place, breaks_range, breaks_size, breaks_target}
use Rattle.validation.specs.Verdict.{settings_in_range, lengths_in_range, any_place, refusal_report, verdict}
use Rattle.validation.specs.WellFormed.{WellFormed, VerdictZero}

-- Operation i breaks the rule numbered k, by that rule's own test; no rule has a number other than 21 to 26.
unfoldable pub breaks_rule : (address_size : ℕ) → Lengths → List ℕ → (i k : ℕ) → Bool
breaks_rule address_size lengths list i k =
    cond (eqb k 21) (breaks_head list i)
    (cond (eqb k 22) (any_place (breaks_shape_at list i))
    (cond (eqb k 23) (any_place (λ place. breaks_place (opcode_at list i) place (varnode_at list i place)))
    (cond (eqb k 24) (any_place (λ place. breaks_range lengths (opcode_at list i) place (varnode_at list i place)))
    (cond (eqb k 25) (breaks_size address_size (opcode_at list i) (varnode_at list i 0).size (varnode_at list i 1).size (varnode_at list i 2).size)
    (cond (eqb k 26) (breaks_target (operation_count list) i (opcode_at list i) (varnode_at list i 1)) false)))))

-- Operation i is the first of a list that is not well-formed, and k is the lowest rule that it breaks.
pub record FirstBroken (address_size : ℕ) (lengths : Lengths) (list : List ℕ) (i k : ℕ) : Type 0 where
  pub listed : i < operation_count list
  pub before : (j : ℕ) → j < i → WellFormed address_size lengths list j
  pub broken : breaks_rule address_size lengths list i k ≡ true
  pub lowest : (r : ℕ) → r < k → breaks_rule address_size lengths list i r ≡ false

-- What the verdict says, and that it says so wherever this holds.
pub record ExactVerdict : Type 0 where
  -- 0: everything is in range, and every operation well-formed
  pub zero : VerdictZero
  pub only_zero : (settings : Settings) (lengths : Lengths) (list : List ℕ) → settings_in_range settings ≡ true → lengths_in_range lengths list ≡ true
      → ((i : ℕ) → i < operation_count list → WellFormed settings.address_size lengths list i)
      → verdict settings lengths list ≡ refusal_report 0 (operation_count list)
  -- any other, with settings and lengths in range: the first operation that is not well-formed, and the lowest rule that it breaks
  pub named : (settings : Settings) (lengths : Lengths) (list : List ℕ) → settings_in_range settings ≡ true → lengths_in_range lengths list ≡ true
      → (i k : ℕ) → (k ≡ 0 → ⊥) → verdict settings lengths list ≡ refusal_report k i
      → FirstBroken settings.address_size lengths list i k
  pub only_named : (settings : Settings) (lengths : Lengths) (list : List ℕ) → settings_in_range settings ≡ true → lengths_in_range lengths list ≡ true
      → (i k : ℕ) → FirstBroken settings.address_size lengths list i k
      → verdict settings lengths list ≡ refusal_report k i
