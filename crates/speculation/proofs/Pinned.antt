-- The speculative call, field by field.
use borrow.Author.Tests.{eq-eqb, ne_eqb}
use mathlib.Core.Path.{refl}
use Rattle.machine.proofs.Pinned.{outcome_answers}
use Rattle.speculation.specs.Speculation.{called_ahead, speculative_run}
use Rattle.speculation.specs.Pinned.{SpeculativePinned}

pub speculative_pinned : SpeculativePinned
unfolding speculative_run called_ahead
speculative_pinned = record {
  accepted = λ settings list start budget window log journal labels m e. rw (eq-eqb _ 0 e) (outcome_answers log _);
  refused = λ settings list start budget window log journal labels m n. rw (ne_eqb _ 0 n) refl;
}
