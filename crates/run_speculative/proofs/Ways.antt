-- The tests and the answer of one turn, as the code finds them.
use Rattle.std.proofs.Common.{◌≡◌, ℕ, ◌+◌, ◌%◌, ◌^◌, ◌<◌, Bool, true, false, cond, not, ◌&&◌, ◌||◌, eqb, List, refl, ◌∙◌, add-one, eq-eqb, ne_eqb, arith}
use Rattle.integer.proofs.Booleans.{neither}
use Rattle.operation.specs.declared.report.Report.{Report}
use Rattle.operation.specs.declared.layout.Varnode.{Varnode}
use Rattle.operation.specs.Layout.{opcode_at, varnode_at}
use Rattle.run_speculative.specs.Ways.{opens_window, other_index, ending_ahead, answer_after}

module _ (i : ℕ) (done w r : Report) where
  pub answer_ended : (ahead : ℕ) → ending_ahead w.ending ≡ ahead → 0 < ahead → r ≡ record { ending = ahead; index = i; executed = 0; logged = w.logged; value = 0 }
      → r ≡ answer_after i done w
  unfolding answer_after
  answer_ended ahead a n e = e ∙ rw (a, ne_eqb ahead 0 (λ z. omega arith)) refl

  pub answer_goes_on : ending_ahead w.ending ≡ 0
      → record { ending = done.ending; index = done.index; executed = done.executed; logged = w.logged; value = done.value } ≡ answer_after i done w
  unfolding answer_after
  answer_goes_on z = rw (eq-eqb (ending_ahead w.ending) 0 z) refl

pub some_executed : (window executed : ℕ) (none : Bool) → none ≡ eqb window 0 || eqb executed 0 → none ≡ false → (eqb window 0 ≡ false) × (eqb executed 0 ≡ false)
some_executed window executed none en f = neither (eqb window 0) (eqb executed 0) (rw (← en) f)

module _ (list : List ℕ) (i window : ℕ) (done : Report) (none : Bool) (en : none ≡ eqb window 0 || eqb done.executed 0) where
  pub none_opened : none ≡ true → false ≡ opens_window list i window done
  unfolding opens_window
  none_opened t = rw (← en, t) refl

  pub looked : none ≡ false → (opcode : ℕ) → opcode ≡ opcode_at list i → (v : Varnode) → v ≡ varnode_at list i 1 → (leaves r : Bool)
      → leaves ≡ eqb done.index (i + 1) && not (eqb v.space 1) → r ≡ eqb opcode 5 && not leaves → r ≡ opens_window list i window done
  unfolding opens_window
  looked f opcode eo v ev leaves r el er = er ∙ rw (← en, f, el, eo, ev, add-one) refl

pub other_found : (list : List ℕ) (i next : ℕ) (v : Varnode) → v ≡ varnode_at list i 1 → (target r : ℕ) → target ≡ (i + v.offset) % 2 ^ 64
    → r ≡ cond (eqb next (i + 1)) target (i + 1) → r ≡ other_index list i next
unfolding other_index
other_found list i next v ev target r et er = er ∙ rw (et, ev, add-one) refl
