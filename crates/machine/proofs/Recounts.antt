-- The counts of every labelled call, and filling.
use Prim.Native.Nat.{ℕ, ◌+◌, ◌/◌, ◌^◌, ◌≤◌, ◌<◌}
use native.Mathlib.Omega.{arith}
use mathlib.Core.Bool.{Bool, true, false, cond, ◌&&◌, and-true}
use mathlib.Core.List.{List, []}
use mathlib.Core.Path.{◌≡◌, refl, sym, ◌∙◌}
use borrow.Author.Tests.{leb-true, lt-leb, le-leb}
use lib.Dec.{eqb}
use lib.ListN.{length, get_or}
use lib.Seq.{length-take-le, length_front}
use Rattle.integer.proofs.Booleans.{both, and-false}
use Rattle.secret_counts.specs.Recount.{blocks, count_words, recount, filled}
use Rattle.secret_counts.specs.Moved.{secret_weight}
use Rattle.secret_counts.specs.Laws.{Turned}
use Rattle.secret_counts.proofs.Recounting.{recount-length, turned_of, count_laws}
use Rattle.operation.specs.declared.layout.Settings.{Settings}
use Rattle.operation.specs.declared.report.Report.{Report}
use Rattle.validation.specs.Verdict.{settings_in_range, lengths_in_range, refusal_report}
use Rattle.machine.specs.Program.{Program, program_of}
use Rattle.machine.specs.Memory.{Memory, lengths_of, space_of}
use Rattle.machine.specs.Run.{Position, Ended, run}
use Rattle.machine.specs.Calls.{labelled_outcome, same_lengths, labels_in_range, outcome_of, starting, called, labelled_run}
use Rattle.machine.specs.Resume.{unused}
use Rattle.machine.specs.Counts.{run_counts, counts_fit, CountedOutcome, counted_outcome, counted_refusal, counted_run, Counting, counting_refusal, counts_filled, count_secrets}
use Rattle.machine.specs.MovedCounts.{MovedSpaces}
use Rattle.machine.specs.Recounts.{WordsOf, TurnedAll, TrueAll, SameCounts, CountsOfLabelledRuns, CountedNoninterference, SummedCounted, CountedResumes, Filling, EnoughFits}
use Rattle.machine.proofs.Ranges.{space_small}
use Rattle.machine.proofs.Refusals.{refusal_refuses, not_stopped, Accepted, accepted, restarted}
use Rattle.machine.proofs.Noninterference.{same_lengths_lem, noninterference}
use Rattle.machine.proofs.Kept.{all_at, all_space}
use Rattle.machine.proofs.Budget.{run_repeats}
use Rattle.machine.proofs.Counts.{not_refused}
use Rattle.machine.proofs.Order.{refusals_in_order}
use Rattle.machine.proofs.Runs.{stepped_laws, run_laws, started_kept}
use Rattle.machine.proofs.Resume.{outcome_resumed}
use Rattle.machine.proofs.Pinned.{lent_word}
use Rattle.machine.proofs.Conditions.{each_space}
use Rattle.machine.proofs.MovedCounts.{moved_spaces_lengths, counts_fit_lem, space_lengths, after_space}
use Rattle.machine.proofs.CountedRuns.{Turns, none, more, turns_lengths, turns_words, turns_moved, run-moves, run_turned, counts_restarted}

-- ---- of three spaces

turned_spaces : {before after counts counts' : Memory} → lengths_of after ≡ lengths_of before → MovedSpaces secret_weight before after counts counts'
    → TurnedAll before after counts counts'
unfolding space_of
turned_spaces {before} {after} {counts} {counts'} e p =
    let same = space_lengths after before e in
    each_space (λ (space : ℕ). Turned (space_of before space) (space_of after space) (space_of counts space) (space_of counts' space))
    (turned_of (same 2) p.unique) (turned_of (same 3) p.register) (turned_of (same 4) p.ram)

turns_true : {labels counts labels' counts' : Memory} (list : List ℕ) → lengths_in_range (lengths_of labels) list ≡ true → Turns labels counts labels' counts'
    → TrueAll labels counts → TrueAll labels' counts'
turns_true list r none t space low high = t space low high
turns_true list r (more {l} {c} p l' e) t space low high =
    let small : length (space_of l space) < 2 ^ 64 = omega (arith, space_small l list (rw (turns_lengths p) r) space) in
    rw (after_space l l' c space)
    (count_laws.kept (space_of l space) (space_of l' space) (space_of c space) (space_lengths l' l e space) small (turns_true list r p t space low high))

-- ---- a call

-- What is left of labels and counts.
pub record CountsLeft (labels labels' counts counts' : Memory) : Type 0 where
  pub lengths : lengths_of labels' ≡ lengths_of labels
  pub count_lengths : lengths_of counts' ≡ lengths_of counts
  pub turned : TurnedAll labels labels' counts counts'
  pub words : WordsOf counts → WordsOf counts'
  pub true_counts : TrueAll labels counts → TrueAll labels' counts'

-- refused
pub left_lent : (labels counts : Memory) → CountsLeft labels labels counts counts
left_lent labels counts = record {
  lengths = refl;
  count_lengths = refl;
  turned = λ space l h. record { same_length = refl; words = λ j k. refl; further = λ j k. refl };
  words = λ w. w;
  true_counts = λ t. t;
}

-- counts that fit the memory fit its labels
pub labels_fit : (labels m counts : Memory) → same_lengths (lengths_of labels) (lengths_of m) && counts_fit (lengths_of m) (lengths_of counts) ≡ true
    → (lengths_of labels ≡ lengths_of m) × (counts_fit (lengths_of labels) (lengths_of counts) ≡ true)
labels_fit labels m counts t =
    let b = both (same_lengths (lengths_of labels) (lengths_of m)) (counts_fit (lengths_of m) (lengths_of counts)) t in
    let e = same_lengths_lem (lengths_of labels) (lengths_of m) b.0 in
    let same : lengths_of labels ≡ lengths_of m = rw (e.0, e.1, e.2) refl in
    (same, rw same b.1)

-- run
pub left-run : {labels labels' counts counts' : Memory} (m : Memory) (list : List ℕ) → lengths_in_range (lengths_of m) list ≡ true
    → same_lengths (lengths_of labels) (lengths_of m) && counts_fit (lengths_of m) (lengths_of counts) ≡ true → Turns labels counts labels' counts'
    → CountsLeft labels labels' counts counts'
left-run {labels} {counts} m list r t p =
    let f = labels_fit labels m counts t in
    let q = turns_moved f.1 p in
    record {
      lengths = turns_lengths p;
      count_lengths = moved_spaces_lengths q;
      turned = turned_spaces (turns_lengths p) q;
      words = turns_words p;
      true_counts = turns_true list (rw f.0 r) p;
    }

-- counts that were true at the start of two calls which leave the same labels are the same at the end
pub same_counts : {labels labels' counts counts' first second : Memory} → CountsLeft labels labels' counts first → CountsLeft labels labels' counts' second
    → TrueAll labels counts → TrueAll labels counts' → SameCounts labels first second
same_counts {labels} {labels'} p q t s space l h =
    rw (← (space_lengths labels' labels p.lengths space)) (p.true_counts t space l h ∙ sym (q.true_counts s space l h))

-- counts with too few words for a space
pub counts_short : (m counts : Memory) (space : ℕ) → 2 ≤ space → space ≤ 4
    → length (space_of counts space) < (length (space_of m space) + 63) / 64 + 1 → counts_fit (lengths_of m) (lengths_of counts) ≡ false
unfolding counts_fit lengths_of space_of count_words blocks
counts_short m counts =
    each_space (λ (space : ℕ). length (space_of counts space) < (length (space_of m space) + 63) / 64 + 1 → counts_fit (lengths_of m) (lengths_of counts) ≡ false)
    (λ h. rw (lt-leb _ _ h) refl)
    (λ h. rw (lt-leb _ _ h, and-false _) refl)
    (λ h. rw (lt-leb _ _ h, and-false _) refl)

-- and with enough of them
pub enough_fits : EnoughFits
unfolding counts_fit lengths_of space_of count_words blocks
enough_fits m counts h =
    rw (le-leb _ _ (h 2 (omega arith) (omega arith)), le-leb _ _ (h 3 (omega arith) (omega arith)), le-leb _ _ (h 4 (omega arith) (omega arith))) refl

-- ---- the labelled call

module _ (settings : Settings) (list : List ℕ) (start budget : ℕ) (log : List ℕ) (labels m counts : Memory) where
  abbrev program : Program
  program = program_of settings list

  abbrev from : Position
  from = starting start (length log)

  abbrev refused : Report
  refused = counted_refusal settings list start labels m counts

  abbrev ran : Ended
  ran = run program budget from labels m

  abbrev ran_counts : Memory
  ran_counts = run_counts program budget from labels m counts

  abbrev call : CountedOutcome
  call = counted_run settings list start budget log labels m counts

  -- as it is left, by whether it runs
  abbrev left : Bool → CountedOutcome
  left t = record { outcome = cond t (outcome_of log ran) (labelled_outcome refused m labels log); counts = cond t ran_counts counts }

  call_others : counts_fit (lengths_of m) (lengths_of counts) ≡ true → call.outcome ≡ labelled_run settings list start budget log labels m
  unfolding counted_run counted_refusal labelled_run
  call_others t = rw (t, and-true (same_lengths (lengths_of labels) (lengths_of m))) refl

  call_setting : settings_in_range settings ≡ false → call ≡ counted_outcome (refusal_report 10 0) m labels counts log
  unfolding counted_run counted_refusal called refusal_report
  call_setting s =
      let fitting = same_lengths (lengths_of labels) (lengths_of m) && counts_fit (lengths_of m) (lengths_of counts) in
      rw ((refusals_in_order settings (lengths_of m) list start fitting (labels_in_range labels)).setting_refused s) refl

  call_short : counts_fit (lengths_of m) (lengths_of counts) ≡ false → settings_in_range settings ≡ true → call ≡ counted_outcome (refusal_report 11 0) m labels counts log
  unfolding counted_run counted_refusal called refusal_report
  call_short t s =
      let short = (refusals_in_order settings (lengths_of m) list start false (labels_in_range labels)).length_refused s (and-false (lengths_in_range (lengths_of m) list)) in
      rw (t, and-false (same_lengths (lengths_of labels) (lengths_of m)), short) refl

  call_accepted : eqb refused.ending 0 ≡ true
      → Accepted settings (lengths_of m) list start (same_lengths (lengths_of labels) (lengths_of m) && counts_fit (lengths_of m) (lengths_of counts)) (labels_in_range labels)
  unfolding counted_refusal
  call_accepted t = accepted settings (lengths_of m) list start _ (labels_in_range labels) t

  ran_left : eqb refused.ending 0 ≡ true → CountsLeft labels ran.labels counts ran_counts
  ran_left t = let a = call_accepted t in left-run m list a.lengths_right a.labels_fit (run_turned program budget from labels m counts)

  call_left : CountsLeft labels call.outcome.labels counts call.counts
  unfolding counted_run called outcome_of
  call_left = by (eqb refused.ending 0) refl
    where
      by : (t : Bool) → eqb refused.ending 0 ≡ t → CountsLeft labels (left t).outcome.labels counts (left t).counts
      by true t = ran_left t
      by false t = left_lent labels counts

  call_refused : 10 ≤ call.outcome.report.ending → call.outcome.report.ending ≤ 27 → call.counts ≡ counts
  unfolding counted_run called outcome_of
  call_refused = by (eqb refused.ending 0)
    where
      by : (t : Bool) → 10 ≤ (left t).outcome.report.ending → (left t).outcome.report.ending ≤ 27 → (left t).counts ≡ counts
      by true x y = absurd (not_refused ((run_laws program).counts budget from labels m).ending x y)
      by false x y = refl

  -- a call that goes on with what it left is not refused
  again_running : eqb refused.ending 0 ≡ true → ran.ending ≡ 2
      → counted_refusal settings list ran.position.index ran.labels ran.memory ran_counts ≡ refusal_report 0 0
  unfolding counted_refusal
  again_running t e =
      let a = call_accepted t in
      let k = started_kept (run_laws program) start budget log labels m in
      rw (k.memory, k.lengths, (ran_left t).count_lengths, k.values a.labels_right) (restarted a ran.position.index ((run_laws program).index budget from labels m e))

pub counts_of_labelled_runs : CountsOfLabelledRuns
counts_of_labelled_runs settings list start budget log labels m counts =
    let l = call_left settings list start budget log labels m counts in
    record {
      others = call_others settings list start budget log labels m counts;
      setting = call_setting settings list start budget log labels m counts;
      short = λ space x y few. call_short settings list start budget log labels m counts (counts_short m counts space x y few);
      turned = l.turned;
      words = l.words;
      kept = l.true_counts;
      refused = call_refused settings list start budget log labels m counts;
    }

-- ---- noninterference

pub counted_noninterference : CountedNoninterference
counted_noninterference settings list start budget log log' e labels first second l counts counts' t t' =
    let shown = noninterference settings list start budget log log' e labels first second l in
    let one = call_others settings list start budget log labels first counts t in
    let two = call_others settings list start budget log' labels second counts' t' in
    let runs = rw (← one, ← two) at shown.runs in
    record {
      runs = runs;
      first_plain = rw one shown.first_plain;
      second_plain = rw two shown.second_plain;
      same_counts = same_counts (call_left settings list start budget log labels first counts)
          (rw (← runs.labels) at (call_left settings list start budget log' labels second counts'));
    }

-- ---- resuming

pub counted_resumes : CountedResumes
unfolding counted_run counted_refusal called outcome_of refusal_report
counted_resumes settings list start b c log labels m counts = by (eqb (counted_refusal settings list start labels m counts).ending 0) refl
  where
    runs : (t : Bool) → ℕ → CountedOutcome
    runs t budget = left settings list start budget log labels m counts t

    by : (t : Bool) → eqb (counted_refusal settings list start labels m counts).ending 0 ≡ t → (runs t b).outcome.report.ending ≡ 2
        → SummedCounted (runs t b)
        (counted_run settings list (runs t b).outcome.report.index c (unused (runs t b).outcome) (runs t b).outcome.labels (runs t b).outcome.memory (runs t b).counts)
        (runs t (b + c))
    by true t e =
        let p = program_of settings list in
        rw (again_running settings list start b log labels m counts t e) (record {
          outcomes = outcome_resumed (run_laws p) start b c log labels m e;
          counts = counts_restarted (stepped_laws p) (run_repeats p) (run-moves p) (λ n words at l k d. refl) start b c log labels m counts e;
        })
    by false t e = absurd (not_stopped (refusal_refuses settings (lengths_of m) list start _ (labels_in_range labels)) e)

-- ---- filling

filled_further : (labels counts : List ℕ) (j : ℕ) → count_words (length labels) ≤ j → get_or (filled labels counts) j 0 ≡ get_or counts j 0
unfolding filled
filled_further labels counts j h = rw (recount-length labels) at (lent_word (recount labels) counts j (rw (recount-length labels) h))

filled-length : (labels counts : List ℕ) → count_words (length labels) ≤ length counts → length (filled labels counts) ≡ length counts
unfolding filled
filled-length labels counts h =
    let n = count_words (length labels) in
    length_front counts (recount labels) n (recount-length labels ∙ sym (length-take-le n counts h))

module _ (labels counts : Memory) where
  abbrev fit : Bool
  fit = lengths_in_range (lengths_of labels) [] && counts_fit (lengths_of labels) (lengths_of counts)

  fill_unfit : fit ≡ false → count_secrets labels counts ≡ record { report = refusal_report 11 0; counts = counts }
  unfolding count_secrets counting_refusal refusal_report
  fill_unfit e = rw e refl

  fill_labels : fit ≡ true → labels_in_range labels ≡ false → count_secrets labels counts ≡ record { report = refusal_report 12 0; counts = counts }
  unfolding count_secrets counting_refusal refusal_report
  fill_labels e f = rw (e, f) refl

  fill_accepted : fit ≡ true → labels_in_range labels ≡ true → (count_secrets labels counts).report ≡ refusal_report 0 0
  unfolding count_secrets counting_refusal refusal_report
  fill_accepted e f = rw (e, f) refl

  -- it is refused, or counts that fit are filled
  data Answer : Counting → Type 0 where
    refuses : {r : Report} → (r.ending ≡ 0 → ⊥) → Answer (record { report = r; counts = counts })
    fills : counts_fit (lengths_of labels) (lengths_of counts) ≡ true → Answer (record { report = refusal_report 0 0; counts = counts_filled labels counts })

  answer : Answer (count_secrets labels counts)
  unfolding count_secrets counting_refusal refusal_report
  answer = by fit refl (labels_in_range labels) refl
    where
      by : (s : Bool) → fit ≡ s → (t : Bool) → labels_in_range labels ≡ t → Answer (count_secrets labels counts)
      by false s t e = rw (fill_unfit s) (refuses {r = refusal_report 11 0} (λ z. omega (arith, z)))
      by true s false e = rw (fill_labels s e) (refuses {r = refusal_report 12 0} (λ z. omega (arith, z)))
      by true s true e = rw (s, e) (fills (both (lengths_in_range (lengths_of labels) []) (counts_fit (lengths_of labels) (lengths_of counts)) s).1)

  answer_report : {a : Counting} → Answer a → a.report.ending ≡ 0 → a.report ≡ refusal_report 0 0
  answer_report (refuses n) z = absurd (n z)
  answer_report (fills t) z = refl

  filled_space : (space : ℕ) → 2 ≤ space → space ≤ 4 → space_of (counts_filled labels counts) space ≡ filled (space_of labels space) (space_of counts space)
  unfolding counts_filled space_of
  filled_space = each_space (λ (space : ℕ). space_of (counts_filled labels counts) space ≡ filled (space_of labels space) (space_of counts space)) refl refl refl

  fit_space : counts_fit (lengths_of labels) (lengths_of counts) ≡ true → (space : ℕ) → 2 ≤ space → space ≤ 4
      → count_words (length (space_of labels space)) ≤ length (space_of counts space)
  unfolding lengths_of space_of
  fit_space t =
      let long = counts_fit_lem (lengths_of labels) (lengths_of counts) t in
      each_space (λ (space : ℕ). count_words (length (space_of labels space)) ≤ length (space_of counts space)) long.0 long.1 long.2

  answer_true : {a : Counting} → Answer a → a.report.ending ≡ 0 → TrueAll labels a.counts
  answer_true (refuses n) z space l h = absurd (n z)
  answer_true (fills t) z space l h = rw (filled_space space l h) (count_laws.fills (space_of labels space) (space_of counts space) (fit_space t space l h))

  answer_further : {a : Counting} → Answer a → (space j : ℕ) → 2 ≤ space → space ≤ 4 → count_words (length (space_of labels space)) ≤ j
      → get_or (space_of a.counts space) j 0 ≡ get_or (space_of counts space) j 0
  answer_further (refuses n) space j l h k = refl
  answer_further (fills t) space j l h k = rw (filled_space space l h) (filled_further (space_of labels space) (space_of counts space) j k)

  answer_lengths : {a : Counting} → Answer a → lengths_of a.counts ≡ lengths_of counts
  unfolding counts_filled lengths_of
  answer_lengths (refuses n) = refl
  answer_lengths (fills t) =
      let long = counts_fit_lem (lengths_of labels) (lengths_of counts) t in
      rw (filled-length labels.unique counts.unique long.0, filled-length labels.register counts.register long.1, filled-length labels.ram counts.ram long.2) refl

pub filling : Filling
filling labels counts = record {
  too_long = λ space h. fill_unfit labels counts (long space h (lengths_in_range (lengths_of labels) []) refl);
  too_short = λ space l h few. fill_unfit labels counts (rw (counts_short labels counts space l h few) (and-false (lengths_in_range (lengths_of labels) [])));
  bad_label = λ t space i h. fill_labels labels counts t (bad space i h (labels_in_range labels) refl);
  accepted = fill_accepted labels counts;
  report = answer_report labels counts (answer labels counts);
  true_counts = answer_true labels counts (answer labels counts);
  further = answer_further labels counts (answer labels counts);
  same_lengths = answer_lengths labels counts (answer labels counts);
}
  where
    long : (space : ℕ) → 65536 < length (space_of labels space) → (t : Bool) → lengths_in_range (lengths_of labels) [] ≡ t
        → lengths_in_range (lengths_of labels) [] && counts_fit (lengths_of labels) (lengths_of counts) ≡ false
    long space h true t = absurd (omega (arith, space_small labels [] t space))
    long space h false t = rw t refl

    bad : (space i : ℕ) → 1 < get_or (space_of labels space) i 0 → (t : Bool) → labels_in_range labels ≡ t → labels_in_range labels ≡ false
    bad space i h true t = absurd (omega (arith, leb-true (get_or (space_of labels space) i 0) 1 (all_at (space_of labels space) (all_space labels t space) i)))
    bad space i h false t = t
