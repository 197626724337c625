-- What a speculative run divides does not depend on secret bytes.
use Prim.Native.Nat.{ℕ, zero, suc}
use mathlib.Core.Bool.{Bool, true, false, ◌&&◌, true≢false}
use mathlib.Core.List.{List, [], ◌∷◌, ◌++◌}
use mathlib.Core.Path.{◌≡◌, refl, sym, ap₂, ◌∙◌}
use lib.Dec.{eqb}
use Rattle.word.specs.Sum.{sum, tabulate, digit}
use Rattle.word.specs.Word.{part, significance, value_of}
use Rattle.integer.specs.Integers.{signed}
use Rattle.integer.proofs.Booleans.{and-false}
use Rattle.arithmetic.specs.Opcodes.{member}
use Rattle.arithmetic.specs.Operands.{divides}
use Rattle.operation.specs.Layout.{operation_count, word_at, head_byte, opcode_at, descriptor_at, offset_at, described_by, varnode_at, absent}
use Rattle.operation.specs.Rules.{branches, jumps, relative_target}
use Rattle.machine.specs.Program.{Program, big_endian}
use Rattle.machine.specs.Memory.{Memory, spaces, space_of, with_space, bytes_at, written, value_at}
use Rattle.machine.specs.Effect.{Operation, operation_at, kind_of, sinks, tested, resolved, sources, target, moves, values_of, bytes_written, any_secret, secret, labels_written}
use Rattle.machine.specs.Run.{Position, ending_of, logging, index_of, go_to, checked, decided, advanced, ended, resolved_value, apply_decision, execute_as, execute, stepped, continued, run}
use Rattle.machine.specs.Calls.{starting, unlabelled}
use Rattle.machine.specs.Divisions.{division_at, divided_after, divided}
use Rattle.machine.proofs.Pointwise.{Spaces}
use Rattle.machine.proofs.Secrecy.{Public, stepped-view}
use Rattle.machine.proofs.Noninterference.{spaces_from}
use Rattle.machine.proofs.Divisions.{finds_secret, leak_divides_nothing, step_view, divided-view}
use Rattle.speculation.specs.Window.{Way, way_of, other_way, ahead, window_of, with_words, right_way, reached, after_window, tried, passed, speculated}
use Rattle.speculation.specs.Divisions.{divided_ahead, divided_in_window, speculatively_divided, branch_and_divisions, branch_to_the_end, branches_and_division, SpeculativeDivisions}
use Rattle.speculation.proofs.Noninterference.{same_passed, same_reached, stepped_public, same_way, speculated-view}

-- ---- windows

module _ (program : Program) {labels m n : Memory} (r : Spaces Public labels m n) where
  ahead-view : (window room : ℕ) (way : Way) → divided_ahead program window room labels m way ≡ divided_ahead program window room labels n way
  unfolding divided_ahead
  ahead-view window room Way.outside = refl
  ahead-view window room (Way.inside i) = divided-view program window (starting i room) labels m n r

  window_view : (window : ℕ) (at : Position) → divided_in_window program window at labels m ≡ divided_in_window program window at labels n
  unfolding divided_in_window
  window_view window at = by (eqb op.opcode 5 && passed (stepped program at labels m)) refl
    where
      op : Operation
      op = operation_at program.list at.index

      by : (t : Bool) → eqb op.opcode 5 && passed (stepped program at labels m) ≡ t
          → divided_in_window program window at labels m ≡ divided_in_window program window at labels n
      by true e = rw (← (same_passed (stepped-view program r at)), e, same_way program r at e, same_reached (stepped-view program r at)) (ahead-view window _ _)
      by false e = rw (← (same_passed (stepped-view program r at)), e) refl

-- ---- the run

-- LEAK opens no window
leak_alone : (program : Program) (window : ℕ) (at : Position) (labels m : Memory) → finds_secret (operation_at program.list at.index) labels ≡ true
    → speculated program window at labels m ≡ stepped program at labels m
unfolding speculated
leak_alone program window at labels m g = rw (by (passed (stepped program at labels m)) refl, and-false) refl
  where
    by : (t : Bool) → passed (stepped program at labels m) ≡ t → passed (stepped program at labels m) ≡ false
    by true e = absurd (true≢false (sym g ∙ stepped_public program at labels m e))
    by false e = e

leak_divides : (division : List ℕ) (f : Position → Memory → Memory → List ℕ) (program : Program) (window : ℕ) (at : Position) (labels m : Memory)
    → finds_secret (operation_at program.list at.index) labels ≡ true → divided_after division f (speculated program window at labels m) ≡ []
leak_divides division f program window at labels m g = rw (leak_alone program window at labels m g) (leak_divides_nothing division f program at labels m g)

speculatively_view : (program : Program) (window budget : ℕ) (at : Position) (labels m n : Memory) → Spaces Public labels m n
    → speculatively_divided program window budget at labels m ≡ speculatively_divided program window budget at labels n
unfolding speculatively_divided
speculatively_view program window zero at labels m n r = refl
speculatively_view program window (suc budget) at labels m n r =
    let rest : Position → Memory → Memory → List ℕ = speculatively_divided program window budget in
    ap₂ ◌++◌ (window_view program r window at)
    (step_view program r at.index rest (λ at' l m' n' r'. speculatively_view program window budget at' l m' n' r') (speculated-view program r window at)
    (λ division g. (leak_divides division rest program window at labels m g, leak_divides division rest program window at labels n g)))

-- ---- known answers

known_answers : (speculatively_divided branch_and_divisions 1 2 (starting 0 1) unlabelled (spaces [] (0xf9 ∷ 0x02 ∷ 0xaa ∷ 0xaa ∷ []) [])
    ≡ 1 ∷ 0xf9 ∷ 0x02 ∷ 2 ∷ 0xaa ∷ 0x02 ∷ [])
    × (speculatively_divided branch_to_the_end 2 1 (starting 0 1) (spaces [] (0 ∷ 0 ∷ 0 ∷ 1 ∷ []) []) (spaces [] (0xf9 ∷ 0x02 ∷ 0xaa ∷ 0xbb ∷ []) [])
    ≡ 1 ∷ 0xf9 ∷ 0x02 ∷ [])
    × (speculatively_divided branches_and_division 2 1 (starting 0 1) unlabelled (spaces [] (0xf9 ∷ 0x02 ∷ 0xaa ∷ []) []) ≡ [])
unfolding sum tabulate digit part significance value_of signed member divides operation_count word_at head_byte opcode_at descriptor_at offset_at described_by
    varnode_at absent branches jumps relative_target space_of with_space bytes_at written value_at operation_at kind_of sinks tested resolved sources target
    values_of any_secret secret logging index_of go_to checked decided advanced ended resolved_value big_endian apply_decision execute_as execute stepped
    continued run starting unlabelled division_at divided_after divided way_of other_way ahead window_of with_words right_way reached after_window tried
    passed speculated divided_ahead divided_in_window speculatively_divided ending_of moves labels_written bytes_written
known_answers = (refl, refl, refl)

pub speculative_divisions : SpeculativeDivisions
speculative_divisions = record {
  window_first = known_answers.0;
  ending_window = known_answers.1;
  full_log = known_answers.2;
  same = λ program window budget at labels first second t l. speculatively_view program window budget at labels first second (spaces_from t l);
}
