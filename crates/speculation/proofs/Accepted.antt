-- The refusals of a speculative run, and what a run that is not refused may rely on.
use Prim.Native.Nat.{ℕ, ◌≤◌}
use native.Mathlib.Omega.{arith}
use mathlib.Core.Bool.{Bool, true, false, cond, ◌&&◌, true≢false}
use mathlib.Core.List.{List}
use mathlib.Core.Path.{◌≡◌, refl, sym}
use borrow.Author.Tests.{eqb-true, leb-true, le-leb}
use lib.Dec.{eqb, leb}
use Rattle.operation.specs.declared.layout.Settings.{Settings}
use Rattle.operation.specs.Spaces.{Lengths}
use Rattle.validation.specs.Verdict.{refusal_report}
use Rattle.machine.specs.Calls.{refusal}
use Rattle.machine.proofs.Cases.{either}
use Rattle.machine.proofs.Refusals.{known, Refuses, early, refusal_refuses, accepted}
use Rattle.speculation.specs.Speculation.{most_ahead, journal_words, speculative_refusal}

module _ (settings : Settings) (lengths : Lengths) (list : List ℕ) (start window words : ℕ) (fitting valid : Bool) where
  pub ahead_refuses : Refuses (speculative_refusal settings lengths list start window words fitting valid)
  unfolding speculative_refusal
  ahead_refuses = either Refuses (leb window most_ahead) _ _ (refusal_refuses settings lengths list start _ valid) (early 10 0 (known 10 (omega arith) (omega arith)))

  -- with window and journal in range it is the labelled run's
  pub ahead-refusal : window ≤ most_ahead → journal_words window ≤ words
      → speculative_refusal settings lengths list start window words fitting valid ≡ refusal settings lengths list start fitting valid
  unfolding speculative_refusal
  ahead-refusal w j = rw (le-leb window most_ahead w, le-leb (journal_words window) words j) refl

  -- of a run that is not refused the labels fit the memory, the journal is long enough, and a labelled run is not refused
  pub ahead_accepted : eqb (speculative_refusal settings lengths list start window words fitting valid).ending 0 ≡ true
      → (fitting ≡ true) × (window ≤ most_ahead) × (journal_words window ≤ words) × (eqb (refusal settings lengths list start fitting valid).ending 0 ≡ true)
  unfolding speculative_refusal refusal_report
  ahead_accepted = by (leb window most_ahead) refl fitting (leb (journal_words window) words) refl
    where
      unfit : {A : Type 0} → eqb (refusal settings lengths list start false valid).ending 0 ≡ true → A
      unfit e = absurd (true≢false (sym (accepted settings lengths list start false valid e).labels_fit))

      by : (w : Bool) → leb window most_ahead ≡ w → (f j : Bool) → leb (journal_words window) words ≡ j
          → eqb (cond w (refusal settings lengths list start (j && f) valid) (refusal_report 10 0)).ending 0 ≡ true
          → (f ≡ true) × (window ≤ most_ahead) × (journal_words window ≤ words) × (eqb (refusal settings lengths list start f valid).ending 0 ≡ true)
      by true w true true j e = (refl, leb-true window most_ahead w, leb-true (journal_words window) words j, e)
      by true w false true j e = unfit e
      by true w f false j e = unfit e
      by false w f j k e = absurd (let z : ◌≡◌ {A = ℕ} 10 0 = eqb-true 10 0 e in omega (arith, z))
