-- The log words of a window are marked.
use Prim.Native.Nat.{ℕ, zero, suc, ◌+◌, ◌-◌, ◌≤◌, ◌<◌}
use native.Mathlib.Nat.{add_comm, zero-add}
use native.Mathlib.Omega.{arith}
use mathlib.Core.Path.{◌≡◌, refl, sym, ap, ◌∙◌}
use mathlib.Core.Bool.{true}
use mathlib.Core.List.{List, ◌∷◌, ◌++◌, append_assoc}
use lib.ListN.{length, get_or, set, take, drop, length-append}
use lib.Seq.{sets, sets-eq, length-take-le, take-append_seam, drop-append_seam, drop-drop}
use Rattle.word.specs.Sum.{tabulate}
use Rattle.word.specs.Word.{part}
use Rattle.word.proofs.Laws.{part_at, stored-after}
use Rattle.word.proofs.Sums.{tabulate-length}
use Rattle.word.proofs.Stores.{Storing, storing_none, storing_more, storing_length, storing_all, entries}
use Rattle.validation.specs.Verdict.{lengths_in_range}
use Rattle.operation.specs.declared.report.Report.{Report}
use Rattle.machine.specs.Program.{Program}
use Rattle.machine.specs.Memory.{Memory, lengths_of}
use Rattle.machine.specs.Run.{Position, Ended, ended, run}
use Rattle.machine.specs.Calls.{Outcome, log_after, outcome_of, labelled_outcome, starting}
use Rattle.machine.proofs.Budget.{later, later_ended, fresh, fresh_later}
use Rattle.machine.proofs.Limits.{log_length}
use Rattle.speculation.specs.Window.{ahead, window_mark, marked}
use Rattle.speculation.proofs.Below.{Below, run_below, below_at}
use Rattle.speculation.proofs.Runs.{marked-length}
use Rattle.machine.proofs.Runs.{run_laws}
use Rattle.run_execution.specs.Loops.{position}
use Rattle.run_labelled.proofs.Parts.{part-words}
use Rattle.run_window.specs.Windows.{words_marked, window_outcome}

-- ---- the loop

marked-tabulate : (n : ℕ) (f : ℕ → ℕ) → marked (tabulate n f) ≡ tabulate n (λ i. window_mark + f i)
unfolding marked tabulate
marked-tabulate zero f = refl
marked-tabulate (suc n) f = ap (λ (l : List ℕ). (window_mark + f 0) ∷ l) (marked-tabulate n (λ i. f (suc i)))

-- the words passed are marked, and no other is stored
pub record Marking (log₀ : List ℕ) (from to : ℕ) (log : List ℕ) (k : ℕ) : Type 0 where
  pub passed : from ≤ k
  pub within : k ≤ to
  pub stored : Storing (λ j. window_mark + get_or log₀ (from + j) 0) (to - from) from log₀ log (k - from)

pub marking_none : (log : List ℕ) (from to : ℕ) → from ≤ to → Marking log from to log from
marking_none log from to h =
    let none : from - from ≡ 0 = omega arith in
    record { passed = omega arith; within = h; stored = rw none (storing_none _ (to - from) from log) }

module _ {log₀ : List ℕ} {from to : ℕ} {log : List ℕ} {k : ℕ} (g : Marking log₀ from to log k) where
  pub marking_length : length log ≡ length log₀
  marking_length = storing_length g.stored

  pub marking_all : to ≤ k → log ≡ words_marked log₀ from to
  unfolding words_marked part
  marking_all h = storing_all g.stored (omega arith) ∙ ap (sets log₀ from) (sym (marked-tabulate (to - from) (λ i. get_or log₀ (from + i) 0)))

  module _ (some : k < to) where
    place : from + (k - from) ≡ k
    place = let h : from ≤ k = g.passed in omega arith

    -- the word at k is still as it was
    unmarked_yet : get_or log k 0 ≡ get_or log₀ (from + (k - from)) 0
    unmarked_yet =
        let l = tabulate-length (k - from) (λ j. window_mark + get_or log₀ (from + j) 0) in
        rw (g.stored.stored, stored-after log₀ from (tabulate (k - from) (λ j. window_mark + get_or log₀ (from + j) 0)) k (rw (l, place) (omega arith)), place) refl

    pub marking_fits : ((j : ℕ) → j < to - from → get_or log₀ (from + j) 0 < window_mark) → get_or log k 0 < window_mark
    marking_fits h = let p : from ≤ k = g.passed in rw unmarked_yet (h (k - from) (omega arith))

    pub marking_more : Marking log₀ from to (set log k (get_or log k 0 + window_mark)) (k + 1)
    marking_more =
        let p : from ≤ k = g.passed in
        let next : k + 1 - from ≡ (k - from) + 1 = omega arith in
        let value : get_or log k 0 + window_mark ≡ window_mark + get_or log₀ (from + (k - from)) 0 = rw unmarked_yet (add_comm _ window_mark) in
        let more = storing_more g.stored (omega arith) value in
        record { passed = omega arith; within = omega arith; stored = rw next (rw place at more) }

-- ---- the words of a window

module _ (program : Program) (window start from : ℕ) (log : List ℕ) (labels m : Memory) (place : from ≤ length log) (went : Report) (m₁ labels₁ : Memory) (log₁ : List ℕ)
    (e : labelled_outcome went m₁ labels₁ log₁ ≡ outcome_of log (run program window (position start from 0 log) labels m)) where
  abbrev w : Ended
  w = ahead program window start (length log - from) labels m

  abbrev words : List ℕ
  words = w.position.log

  abbrev before : List ℕ
  before = take from log

  -- the run of the code is the window, with the words before it
  run_is : run program window (position start from 0 log) labels m ≡ later_ended 0 before w
  unfolding position fresh starting ahead
  run_is =
      let p : Position = position start from 0 log in
      ap (λ (q : Position). run program window q labels m) (sym (fresh_later p)) ∙ (run_laws program).carried 0 before window (fresh p) labels m

  outcome_is : labelled_outcome went m₁ labels₁ log₁ ≡ outcome_of log (later_ended 0 before w)
  outcome_is = e ∙ ap (outcome_of log) run_is

  before-length : length before ≡ from
  before-length = length-take-le from log place

  all_length : length (before ++ words) ≡ from + length words
  all_length = length-append before words ∙ rw before-length refl

  log_is : log₁ ≡ before ++ words ++ drop (from + length words) log
  unfolding outcome_of later_ended later ended log_after
  log_is = ap (λ (o : Outcome). o.log) outcome_is ∙ rw all_length refl

  logged_is : went.logged ≡ from + length words
  unfolding outcome_of later_ended later ended
  logged_is = ap (λ (o : Outcome). o.report.logged) outcome_is ∙ all_length

  fits : from + length words ≤ length log
  unfolding later_ended later ended
  fits =
      let l : length (run program window (position start from 0 log) labels m).position.log ≤ length log = part-words (run_laws program) window start from log labels m place in
      let n : length (before ++ words) ≤ length log = rw run_is at l in
      omega (arith, n, all_length)

  behind : drop from log₁ ≡ words ++ drop (from + length words) log
  behind =
      let d : drop (length before) (before ++ (words ++ drop (from + length words) log)) ≡ words ++ drop (from + length words) log =
      drop-append_seam before (words ++ drop (from + length words) log) in
      rw (log_is, append_assoc before words (drop (from + length words) log)) (rw before-length at d)

  same_length : length log₁ ≡ length log
  unfolding outcome_of later_ended later ended
  same_length = ap length (ap (λ (o : Outcome). o.log) outcome_is) ∙ log_length (before ++ words) log (rw all_length fits)

  words_there : part log₁ from (length words) ≡ words
  unfolding part
  words_there = entries log₁ from (length words) (rw same_length fits) ∙ rw behind (take-append_seam words (drop (from + length words) log))

  pub may_mark : lengths_in_range (lengths_of m) program.list ≡ true
      → (from ≤ went.logged) × (went.logged ≤ length log₁) × ((j : ℕ) → j < went.logged - from → get_or log₁ (from + j) 0 < window_mark)
  unfolding ahead starting
  may_mark range =
      let below : Below words = run_below program window (starting start (length log - from)) labels m range Below.none in (
        rw logged_is (omega arith),
        rw (logged_is, same_length) fits,
        λ j h. let k : j < length words = omega (arith, h, logged_is) in
            let there : get_or words j 0 ≡ get_or log₁ (from + j) 0 = rw words_there at (part_at log₁ from (length words) j k) in
            rw (← there) (below_at below j k),
      )

  marked-words : words_marked log₁ from went.logged ≡ log_after (before ++ marked words) log
  unfolding words_marked log_after
  marked-words =
      let n : went.logged - from ≡ length words = omega (arith, logged_is) in
      let stored : sets log₁ from (marked words) ≡ take from log₁ ++ marked words ++ drop (from + length (marked words)) log₁ =
      sets-eq (marked words) log₁ from (rw (marked-length words, same_length) fits) in
      let front : take from log₁ ≡ before = ap (take from) log_is ∙ rw (append_assoc before words (drop (from + length words) log)) (rw before-length at (take-append_seam before (words ++ drop (from + length words) log))) in
      let rest : drop (from + length words) log₁ ≡ drop (from + length words) log =
      sym (drop-drop (length words) from log₁) ∙ ap (drop (length words)) behind ∙ drop-append_seam words (drop (from + length words) log) in
      let l : length (before ++ marked words) ≡ from + length words = length-append before (marked words) ∙ rw (before-length, marked-length words) refl in
      rw (n, words_there, stored, marked-length words, front, rest, l) refl

  pub window_left : (m₂ labels₂ : Memory) → m₂ ≡ m → labels₂ ≡ labels
      → labelled_outcome went m₂ labels₂ (words_marked log₁ from went.logged) ≡ window_outcome from log labels m w
  unfolding window_outcome outcome_of later_ended later ended
  window_left m₂ labels₂ em el =
      let r : went ≡ record {
        ending = w.ending;
        index = w.position.index;
        executed = w.position.executed;
        logged = from + length words;
        value = w.value;
      } = ap (λ (o : Outcome). o.report) outcome_is ∙ rw (all_length, zero-add) refl in
      rw (em, el, marked-words, r) refl
