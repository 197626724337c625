-- A run in parts, of any run with a budget: each part begins where the one before it stopped, with its own count.
use Prim.Native.Nat.{ℕ, ◌+◌, ◌-◌, ◌≤◌}
use native.Mathlib.Nat.{add-zero}
use native.Mathlib.Omega.{arith}
use mathlib.Core.Path.{◌≡◌, refl, sym, ap, ◌∙◌}
use mathlib.Core.List.{List, [], ◌++◌}
use lib.ListN.{length, take, drop, length-append}
use lib.Seq.{length-take-le, take-append_seam, drop-append_seam, drop-drop}
use Rattle.machine.specs.Program.{Program}
use Rattle.machine.specs.Memory.{Memory, lengths_of}
use Rattle.machine.specs.Run.{Position, Ended, ended}
use Rattle.machine.specs.Calls.{log_after}
use Rattle.machine.proofs.Budget.{later, later_ended, fresh, fresh_later}
use Rattle.machine.proofs.Kept.{Kept}
use Rattle.machine.proofs.Limits.{log_length}
use Rattle.machine.proofs.Runs.{Runs}
use Rattle.run_execution.specs.Loops.{position}
use Rattle.run_execution.proofs.Running.{Log}

-- ---- the first part of a budget

module _ {program : Program} {R : ℕ → Position → Memory → Memory → Ended} (laws : Runs program R) (most left : ℕ) (l : most ≤ left) (at : Position) (labels m : Memory) where
  whole : most + (left - most) ≡ left
  whole = omega arith

  -- ended before its budget
  pub part-ended : ((R most at labels m).ending ≡ 2 → ⊥) → R left at labels m ≡ R most at labels m
  part-ended e = ap (λ (b : ℕ). R b at labels m) (sym whole) ∙ laws.done most (left - most) at labels m e

  -- stopped by it
  pub part_stopped : (let r = R most at labels m in r.ending ≡ 2 → R left at labels m ≡ R (left - most) r.position r.labels r.memory)
  part_stopped e = ap (λ (b : ℕ). R b at labels m) (sym whole) ∙ laws.more most (left - most) at labels m e

-- ---- the count of a part, and of all before it

count_from : (i k executed : ℕ) (log : List ℕ) → position i k executed log ≡ later executed [] (position i k 0 log)
unfolding position later
count_from i k executed log = rw add-zero refl

pub counted_on_lem : {program : Program} {R : ℕ → Position → Memory → Memory → Ended} (laws : Runs program R) (budget i k executed : ℕ) (log : List ℕ) (labels m : Memory)
    → R budget (position i k executed log) labels m ≡ later_ended executed [] (R budget (position i k 0 log) labels m)
counted_on_lem {R = R} laws budget i k executed log labels m =
    ap (λ (p : Position). R budget p labels m) (count_from i k executed log) ∙ laws.carried executed [] budget (position i k 0 log) labels m

-- ---- where a part leaves the log

module _ {program : Program} {R : ℕ → Position → Memory → Memory → Ended} (laws : Runs program R) (budget i k : ℕ) (log : List ℕ) (labels m : Memory)
    (h : k ≤ length log) where
  abbrev r : Ended
  r = R budget (position i k 0 log) labels m

  abbrev words : List ℕ
  words = r.position.log

  pub part_kept : Kept (length log) (lengths_of m) labels r.position r.labels r.memory
  unfolding position
  part_kept =
      laws.kept (length log) (lengths_of m) labels budget (position i k 0 log) labels m
      (record { log = rw (length-take-le k log h) (omega arith); memory = refl; lengths = refl; values = λ q. q })

  pub part-words : length words ≤ length log
  part-words = let e = part_kept.log in omega arith

  -- the words before it are still there
  pub part_grows : k ≤ length words
  unfolding position fresh later_ended later ended
  part_grows =
      let p : Position = position i k 0 log in
      let e : r ≡ later_ended 0 (take k log) (R budget (fresh p) labels m) =
      ap (λ (q : Position). R budget q labels m) (sym (fresh_later p)) ∙ laws.carried 0 (take k log) budget (fresh p) labels m in
      let w : words ≡ take k log ++ (R budget (fresh p) labels m).position.log = ap (λ (x : Ended). x.position.log) e in
      let n : length words ≡ k + length (R budget (fresh p) labels m).position.log = ap length w ∙ length-append (take k log) _ ∙ rw (length-take-le k log h) refl in
      omega arith

  pub part-position : r.position ≡ position r.position.index (length words) r.position.executed (log_after words log)
  unfolding position log_after
  part-position =
      let n = log_length words log part-words in
      let e = part_kept.log in
      let room : r.position.room ≡ length (log_after words log) - length words = rw n (omega arith) in
      rw (← room, take-append_seam words (drop (length words) log)) refl

  pub part_log : (log₀ : List ℕ) → Log log₀ log k → Log log₀ (log_after words log) (length words)
  unfolding log_after
  part_log log₀ g =
      let n : length (words ++ drop (length words) log) ≡ length log = log_length words log part-words in
      let d : k + (length words - k) ≡ length words = let z = part_grows in omega arith in
      let split : (x : List ℕ) → drop (length words) x ≡ drop (length words - k) (drop k x) = λ x. sym (drop-drop (length words - k) k x ∙ ap (λ (j : ℕ). drop j x) d) in
      record {
        place = rw n part-words;
        long = n ∙ g.long;
        rest = drop-append_seam words (drop (length words) log) ∙ split log ∙ ap (drop (length words - k)) g.rest ∙ sym (split log₀);
      }
