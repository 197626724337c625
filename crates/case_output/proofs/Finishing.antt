-- At the end of the text: what is printed is what the definition says of the text.
use Rattle.std.proofs.Common.{ℕ, ◌≡◌, List, [], ◌∷◌, length, arith, sym, ap, ◌∙◌, refl, min}
use Rattle.case_printing.specs.Appended.{Appended}
use Rattle.case_printing.specs.Outcome.{outcome_text}
use Rattle.case_reader.specs.Case.{Case, Progress}
use Rattle.case_reader.specs.Lines.{rest_of, next_number}
use Rattle.case_reader.specs.Buffers.{case_in, progress_in}
use Rattle.case_reader.specs.Limits.{line_room}
use Rattle.case_reader.specs.Stream.{HasRead}
use Rattle.case_reader.specs.declared.buffers.Buffers.{Buffers}
use Rattle.case_reader.specs.declared.line.Stage.TheVariants.{Nothing, Reading, BadLine}
use Rattle.case_reader.specs.declared.stream.Reader.{Reader}
use Rattle.std.proofs.Math.Seq.{length-take-le}
use Rattle.case_reader.proofs.Lines.{held}
use Rattle.case_run.specs.Run.{outcome}
use Rattle.case_output.specs.Output.{bad_text, printed, printed_after, output_of}

printed_whole : (n : ℕ) (c : Case) (q : List ℕ) {held : ℕ} → held ≡ min line_room (length q) → held ≡ 0 → printed q n (Progress.reading c) ≡ outcome_text (outcome c)
unfolding printed
printed_whole n c [] e z = refl
printed_whole n c (b ∷ s) e z = absurd (let y : ⊥ = omega (arith, e, z) in y)

printed_rest : (n : ℕ) (c : Case) (q : List ℕ) {held : ℕ} → held ≡ min line_room (length q) → (held ≡ 0 → ⊥)
    → printed q n (Progress.reading c) ≡ bad_text (next_number n)
unfolding printed
printed_rest n c [] e z = absurd (z (omega (arith, e)))
printed_rest n c (b ∷ s) e z = refl

-- how much the reader holds of the unfinished line
held_used : {text : List ℕ} (r : Reader) → HasRead text r → r.line.used ≡ min line_room (length (rest_of [] text))
held_used r h = sym (length-take-le r.line.used r.line.bytes r.line.room) ∙ held h

module _ (text : List ℕ) (r : Reader) (h : HasRead text r) where
  read_printed : output_of text ≡ printed (rest_of [] text) r.number (progress_in r.stage)
  unfolding output_of printed_after
  read_printed = ap (printed_after (rest_of [] text)) (sym h.lines)

  module _ {before after : List ℕ} where
    by : {t : List ℕ} → output_of text ≡ t → Appended before t after → Appended before (output_of text) after
    by e p = rw e p

    pub nothing_printed : r.stage ≡ Nothing → {k : ℕ} → k ≡ next_number r.number → Appended before (bad_text k) after
        → Appended before (output_of text) after
    unfolding progress_in printed
    nothing_printed e k p = by (read_printed ∙ rw (e, ← k)) p

    pub bad_printed : {k : ℕ} → r.stage ≡ BadLine k → Appended before (bad_text k) after → Appended before (output_of text) after
    unfolding progress_in printed
    bad_printed e p = by (read_printed ∙ rw e) p

    pub run-printed : {b : Buffers} → r.stage ≡ Reading b → r.line.used ≡ 0 → Appended before (outcome_text (outcome (case_in b))) after
        → Appended before (output_of text) after
    unfolding progress_in
    run-printed {b} e z p = by (read_printed ∙ rw e (printed_whole r.number (case_in b) (rest_of [] text) (held_used r h) z)) p

    pub rest_printed : {b : Buffers} → r.stage ≡ Reading b → (r.line.used ≡ 0 → ⊥) → {k : ℕ} → k ≡ next_number r.number → Appended before (bad_text k) after
        → Appended before (output_of text) after
    unfolding progress_in
    rest_printed {b} e z k p = by (read_printed ∙ rw (e, k) (printed_rest r.number (case_in b) (rest_of [] text) (held_used r h) z)) p
