-- Laws of text put behind what a buffer holds: how much it grows, no text, a text behind a text, one character more, and one of a row of texts more.
use Rattle.std.proofs.Common.{◌≡◌, sym, ap, ◌∙◌, ℕ, ◌+◌, List, [], ◌∷◌, ◌++◌, length, append_assoc, append-nil, length-append, add-one}
use Rattle.case_printing.specs.Text.{concatenated}
use Rattle.case_printing.specs.Appended.{Appended}

module _ {o x a : List ℕ} (first : Appended o x a) where
  pub grown : length a ≡ length o + length x
  grown = ap length first.same ∙ length-append o x

  pub then : {y b : List ℕ} → Appended a y b → Appended o (x ++ y) b
  then {y} {b} second = record { same = second.same ∙ ap (λ l. l ++ y) first.same ∙ append_assoc o x y }

  pub then_one : (c : ℕ) {b : List ℕ} → b ≡ a ++ (c ∷ []) → Appended o (x ++ (c ∷ [])) b
  then_one c e = then (record { same = e })

-- a loop that puts the texts of a row one by one: before its first turn, and after one turn more
pub concatenated_none : (o : List ℕ) (f : ℕ → List ℕ) → Appended o (concatenated 0 f) o
unfolding concatenated
concatenated_none o f = record { same = sym (append-nil o) }

pub concatenated_then : {o a b : List ℕ} (i : ℕ) (f : ℕ → List ℕ) → Appended o (concatenated i f) a → Appended a (f i) b → Appended o (concatenated (i + 1) f) b
unfolding concatenated
concatenated_then i f first second = rw add-one (then first second)
