-- What a call that is not refused may rely on, and what a call leaves.
use Prim.Native.Nat.{ℕ, ◌≤◌}
use mathlib.Core.Bool.{Bool, true, false, cond, not, ◌&&◌, true≢false}
use mathlib.Core.List.{List, []}
use mathlib.Core.Path.{◌≡◌, refl, sym, ap, subst, ◌∙◌}
use native.Mathlib.Nat.{sub-zero}
use native.Mathlib.Omega.{arith}
use borrow.Author.Tests.{eq-eqb, ne_eqb, eqb-true}
use lib.Dec.{eqb}
use lib.ListN.{length}
use Rattle.integer.proofs.Booleans.{both}
use Rattle.secret_counts.specs.Recount.{count_words, filled}
use Rattle.secret_counts.specs.Moved.{low_bit, secret_weight}
use Rattle.operation.specs.declared.layout.Settings.{Settings}
use Rattle.operation.specs.Spaces.{Lengths}
use Rattle.operation.specs.declared.report.Report.{Report}
use Rattle.operation.specs.declared.report.Refused.{Refused}
use Rattle.operation.specs.Numbers.{number_of}
use Rattle.operation.proofs.Numbers.{positive}
use Rattle.operation.specs.Layout.{operation_count}
use Rattle.validation.specs.Verdict.{settings_in_range, lengths_in_range, refusal_report, verdict}
use Rattle.validation.proofs.WellFormed.{verdict-zero}
use Rattle.machine.specs.Program.{Program, program_of}
use Rattle.machine.specs.Memory.{Memory, spaces, lengths_of, space_of}
use Rattle.machine.specs.Run.{Position, Ended, run}
use Rattle.machine.specs.Calls.{Outcome, unlabelled, plain_outcome, labelled_outcome, same_lengths, labels_in_range, refusal, starting, outcome_of, called}
use Rattle.machine.specs.Counts.{run_counts, counts_fit, counted_outcome, counted_refusal, counted_run, counting, counting_refusal, counts_filled, count_secrets}
use Rattle.machine.specs.MovedCounts.{MovedSpaces}
use Rattle.machine.specs.Recounts.{WordsOf}
use Rattle.machine.proofs.MovedCounts.{moved_spaces_told, moved_labels, counts_fit_lem}
use Rattle.machine.proofs.CountedRuns.{run_moved, run_counts-words}
use Rattle.machine.proofs.Runs.{run_laws, started_kept}
use Rattle.machine.proofs.Ranges.{space_small}
use Rattle.machine.proofs.Refusals.{accepted as nothing-refused}
use Rattle.machine.proofs.Resume.{no_labels}
use Rattle.speculation.specs.Speculation.{Speculation, speculate, journal_words, speculative_refusal, speculation, journal_after, called_ahead}
use Rattle.speculation.specs.Counts.{speculate_counts, counted_speculation, counted_speculative_refusal, counted_speculative_run}
use Rattle.speculation.proofs.Accepted.{ahead_accepted}
use Rattle.speculation.proofs.Recounts.{speculate-moved, speculate_counts-words}
use Rattle.speculation.proofs.Runs.{speculate_laws}
use Rattle.run_plan.specs.Valid.{Valid}
use Rattle.run_execution.specs.Loops.{position}
use Rattle.run_labelled.specs.Turns.{Fitting}
use Rattle.run_window.specs.Windows.{Spared}

-- the ending of a refusal
pub refused_ending : (r : Refused) {report : Report} → report ≡ refusal_report (number_of r.why) r.index → report.ending ≡ 0 → ⊥
unfolding refusal_report
refused_ending r e z = omega (arith, ap (λ (x : Report). x.ending) e, z, positive r.why)

-- of slices that hold what the buffers hold
pub plain_found : (settings : Settings) (list : List ℕ) (start : ℕ) {held m : Memory} {found : Report} → held ≡ m
    → found ≡ refusal settings (lengths_of held) list start true true → found ≡ refusal settings (lengths_of m) list start true true
plain_found settings list start em f = rw em at f

-- where nothing is refused, the loops may run, and no label calls for 11 or 12
pub accepted : (settings : Settings) (lengths : Lengths) (list : List ℕ) (start : ℕ) (fitting valid : Bool) (found : Report)
    → found ≡ refusal settings lengths list start fitting valid → found.ending ≡ 0
    → Valid lengths list × (start ≤ operation_count list) × (fitting ≡ true) × (valid ≡ true) × (settings_in_range settings ≡ true)
unfolding verdict refusal_report
accepted settings lengths list start fitting valid found f e =
    let a = nothing-refused settings lengths list start fitting valid (eq-eqb _ 0 (rw f at e)) in
    let zero : (verdict settings lengths list).ending ≡ 0 = rw (a.settings_right, a.lengths_right) a.well_formed in
    let v = verdict-zero settings lengths list zero in (
      record { address_size = settings.address_size; in_range = a.lengths_right; operations = v.2 },
      a.start_inside,
      a.labels_fit,
      a.labels_right,
      a.settings_right,
    )

-- ---- what a call leaves

module _ (settings : Settings) (list : List ℕ) (start budget : ℕ) (log : List ℕ) (labels m : Memory) (found refused : Report) (f : found ≡ refused) where
  pub leaves_as_lent : (found.ending ≡ 0 → ⊥)
      → record { report = found; memory = m; labels = labels; log = log } ≡ called settings list start budget log labels m refused
  unfolding called
  leaves_as_lent h = rw (← f, ne_eqb found.ending 0 h) refl

  pub leaves_run : found.ending ≡ 0
      → outcome_of log (run (program_of settings list) budget (position start 0 0 log) labels m) ≡ called settings list start budget log labels m refused
  unfolding called position starting
  leaves_run h = rw (← f, eq-eqb found.ending 0 h, sub-zero) refl

-- ---- labels

same_lengths_are : (a b : Lengths) → same_lengths a b ≡ true → a ≡ b
unfolding same_lengths
same_lengths_are a b e =
    let r = both (eqb a.unique b.unique && eqb a.register b.register) (eqb a.ram b.ram) e in
    let u = both (eqb a.unique b.unique) (eqb a.register b.register) r.0 in
    rw (eqb-true a.unique b.unique u.0, eqb-true a.register b.register u.1, eqb-true a.ram b.ram r.1) refl

pub labels_fit : {labels m : Memory} → same_lengths (lengths_of labels) (lengths_of m) ≡ true → Fitting true labels m
labels_fit e = record { lengths = λ t. same_lengths_are _ _ e; none = λ t. absurd (true≢false t) }

pub none_fit : {m : Memory} → Fitting false unlabelled m
none_fit = record { lengths = λ t. absurd (true≢false (sym t)); none = λ t. refl }

-- a run that was lent no labels is the plain run
pub plain_of : (report : Report) (m : Memory) (unique register ram log : List ℕ) (outcome : Outcome) → length unique ≡ 0 → length register ≡ 0 → length ram ≡ 0
    → labelled_outcome report m (spaces unique register ram) log ≡ outcome → plain_outcome report m log ≡ outcome
unfolding lengths_of unlabelled
plain_of report m unique register ram log outcome u r l e =
    rw (← no_labels (spaces unique register ram) (rw (u, r, l) refl)) e

-- ---- the speculative run

module _ (settings : Settings) (list : List ℕ) (start budget window : ℕ) (log journal : List ℕ) (labels m : Memory) (found refused : Report) (f : found ≡ refused) where
  -- the journal's further words stayed, and its first ones were cleared
  ran_ahead : found.ending ≡ 0 → (report : Report) (m' labels' : Memory) (log' journal' cleared : List ℕ)
      → labelled_outcome report m' labels' log' ≡ outcome_of log (speculate (program_of settings list) window budget (position start 0 0 log) labels m)
      → Spared window journal journal' → cleared ≡ journal_after window journal'
      → speculation report m' labels' log' cleared ≡ called_ahead settings list start budget window log journal labels m refused
  unfolding called_ahead position starting journal_after
  ran_ahead h report m' labels' log' journal' cleared e s c =
      ap (λ (o : Outcome). record { outcome = o; journal = cleared }) e ∙ rw (← f, eq-eqb found.ending 0 h, sub-zero, c, s.further) refl

-- ---- counts

-- counts that moved with the labels are what the definition gives, where labels are 0 or 1
counts_told : {labels labels' after counts counts' counted : Memory} → labels' ≡ after → labels_in_range labels ≡ true → labels_in_range after ≡ true
    → MovedSpaces low_bit labels labels' counts counts' → MovedSpaces secret_weight labels after counts counted → WordsOf counts' → WordsOf counted → counts' ≡ counted
counts_told {labels} {labels'} {after} {counts} {counts'} e before range moved turned w w' =
    moved_spaces_told w w' (moved_labels before range (subst (λ (l : Memory). MovedSpaces low_bit labels l counts counts') e moved)) turned

-- 11 for counts, as the code asks it
fits_found : (same : Bool) (lent : Bool) (lengths words : Lengths) (m counts : Memory) → lent ≡ counts_fit lengths words → lengths ≡ lengths_of m → words ≡ lengths_of counts
    → same && lent ≡ same && counts_fit (lengths_of m) (lengths_of counts)
fits_found same lent lengths words m counts e l w = rw (e, l, w) refl

-- counts long enough for the spaces are so for their labels
label_fits : (labels m counts : Memory) → lengths_of labels ≡ lengths_of m → counts_fit (lengths_of m) (lengths_of counts) ≡ true → counts_fit (lengths_of labels) (lengths_of counts) ≡ true
label_fits labels m counts e t = rw e t

started : (start : ℕ) (log : List ℕ) → position start 0 0 log ≡ starting start (length log)
unfolding position starting
started start log = rw sub-zero refl

-- ---- the labelled run with counts

-- of slices that hold what the buffers hold
pub counted_found : (settings : Settings) (list : List ℕ) (start : ℕ) (counts : Memory) {held_labels labels held m : Memory} {found : Report} {fitting : Bool} {lengths words : Lengths}
    → held_labels ≡ labels → held ≡ m
    → found ≡ refusal settings (lengths_of held) list start (same_lengths (lengths_of held_labels) (lengths_of held) && fitting) (labels_in_range held_labels)
    → fitting ≡ counts_fit lengths words → lengths ≡ lengths_of held → words ≡ lengths_of counts → found ≡ counted_refusal settings list start labels m counts
unfolding counted_refusal
counted_found settings list start counts {held_labels = labels₀} {held = m₀} {fitting = fitting} {lengths = lengths} {words = words} el em f e l w =
    rw (← el, ← em)
    (f ∙ ap (λ (t : Bool). refusal settings (lengths_of m₀) list start t (labels_in_range labels₀))
    (fits_found (same_lengths (lengths_of labels₀) (lengths_of m₀)) fitting lengths words m₀ counts e l w))

module _ (settings : Settings) (list : List ℕ) (start budget : ℕ) (log : List ℕ) (labels m counts : Memory) (found : Report) where
  module _ (f : found ≡ counted_refusal settings list start labels m counts) where
    pub counted_refused : (found.ending ≡ 0 → ⊥) → counted_outcome found m labels counts log ≡ counted_run settings list start budget log labels m counts
    unfolding counted_run called
    counted_refused h = rw (← f, ne_eqb found.ending 0 h) refl

    module _ (h : found.ending ≡ 0) where
      pub counted_accepted : Valid (lengths_of m) list × (start ≤ operation_count list) × Fitting true labels m × (labels_in_range labels ≡ true)
          × (settings_in_range settings ≡ true) × (counts_fit (lengths_of labels) (lengths_of counts) ≡ true)
      unfolding counted_refusal
      counted_accepted =
          let same : Bool = same_lengths (lengths_of labels) (lengths_of m) in
          let a = accepted settings (lengths_of m) list start (same && counts_fit (lengths_of m) (lengths_of counts)) (labels_in_range labels) found f h in
          let b = both same (counts_fit (lengths_of m) (lengths_of counts)) a.2 in
          (a.0, a.1, labels_fit b.0, a.3, a.4, label_fits labels m counts (same_lengths_are _ _ b.0) b.1)

      abbrev program : Program
      program = program_of settings list

      pub counted_ran : (done : Report) (m' labels' counts' : Memory) (log' : List ℕ)
          → labelled_outcome done m' labels' log' ≡ outcome_of log (run program budget (position start 0 0 log) labels m)
          → MovedSpaces low_bit labels labels' counts counts' → WordsOf counts → WordsOf counts'
          → counted_outcome done m' labels' counts' log' ≡ counted_run settings list start budget log labels m counts
      unfolding counted_run outcome_of
      counted_ran done m' labels' counts' log' e moved w w' =
          let at : Position = starting start (length log) in
          let r : Ended = run program budget at labels m in
          let here : run program budget (position start 0 0 log) labels m ≡ r = ap (λ (p : Position). run program budget p labels m) (started start log) in
          let a = counted_accepted in
          let told : counts' ≡ run_counts program budget at labels m counts =
          counts_told (ap (λ (o : Outcome). o.labels) e ∙ ap (λ (q : Ended). q.labels) here) a.3 ((started_kept (run_laws program) start budget log labels m).values a.3) moved
          (run_moved program budget at labels m counts a.5) w' (run_counts-words program budget at labels m counts w) in
          ap (λ (o : Outcome). record { outcome = o; counts = counts' })
          (e ∙ leaves_run settings list start budget log labels m found (counted_refusal settings list start labels m counts) f h)
          ∙ rw (told, ← f, eq-eqb found.ending 0 h) refl

-- ---- the speculative run with counts

pub counted_found_ahead : (settings : Settings) (list : List ℕ) (start window : ℕ) (journal : List ℕ) (counts : Memory) {held_labels labels held m : Memory} {found : Report} {fitting : Bool}
    {lengths words : Lengths} → held_labels ≡ labels → held ≡ m
    → found ≡ speculative_refusal settings (lengths_of held) list start window (length journal) (same_lengths (lengths_of held_labels) (lengths_of held) && fitting)
    (labels_in_range held_labels)
    → fitting ≡ counts_fit lengths words → lengths ≡ lengths_of held → words ≡ lengths_of counts
    → found ≡ counted_speculative_refusal settings list start window journal labels m counts
unfolding counted_speculative_refusal
counted_found_ahead settings list start window journal counts {held_labels = labels₀} {held = m₀} {fitting = fitting} {lengths = lengths} {words = words} el em f e l w =
    rw (← el, ← em)
    (f ∙ ap (λ (t : Bool). speculative_refusal settings (lengths_of m₀) list start window (length journal) t (labels_in_range labels₀))
    (fits_found (same_lengths (lengths_of labels₀) (lengths_of m₀)) fitting lengths words m₀ counts e l w))

module _ (settings : Settings) (list : List ℕ) (start budget window : ℕ) (log journal : List ℕ) (labels m counts : Memory) (found : Report) where
  module _ (f : found ≡ counted_speculative_refusal settings list start window journal labels m counts) where
    pub counted_refused_ahead : (found.ending ≡ 0 → ⊥)
        → counted_speculation found m labels counts log journal ≡ counted_speculative_run settings list start budget window log journal labels m counts
    unfolding counted_speculative_run called_ahead
    counted_refused_ahead h = rw (← f, ne_eqb found.ending 0 h) refl

    module _ (h : found.ending ≡ 0) where
      pub counted_accepted_ahead : Valid (lengths_of m) list × (start ≤ operation_count list) × (lengths_of labels ≡ lengths_of m) × (settings_in_range settings ≡ true)
          × (journal_words window ≤ length journal) × (counts_fit (lengths_of labels) (lengths_of counts) ≡ true) × (labels_in_range labels ≡ true)
      unfolding counted_speculative_refusal
      counted_accepted_ahead =
          let same : Bool = same_lengths (lengths_of labels) (lengths_of m) in
          let fitting : Bool = same && counts_fit (lengths_of m) (lengths_of counts) in
          let c = ahead_accepted settings (lengths_of m) list start window (length journal) fitting (labels_in_range labels) (eq-eqb _ 0 (rw f at h)) in
          let a = accepted settings (lengths_of m) list start fitting (labels_in_range labels) _ refl (eqb-true _ 0 c.3) in
          let b = both same (counts_fit (lengths_of m) (lengths_of counts)) a.2 in
          let e = same_lengths_are _ _ b.0 in
          (a.0, a.1, e, a.4, c.2, label_fits labels m counts e b.1, a.3)

      pub counted_ran_ahead : (report : Report) (m' labels' counts' : Memory) (log' journal' cleared : List ℕ)
          → labelled_outcome report m' labels' log' ≡ outcome_of log (speculate (program_of settings list) window budget (position start 0 0 log) labels m)
          → Spared window journal journal' → cleared ≡ journal_after window journal'
          → MovedSpaces low_bit labels labels' counts counts' → WordsOf counts → WordsOf counts'
          → counted_speculation report m' labels' counts' log' cleared ≡ counted_speculative_run settings list start budget window log journal labels m counts
      unfolding counted_speculative_run outcome_of
      counted_ran_ahead report m' labels' counts' log' journal' cleared e s c moved w w' =
          let program : Program = program_of settings list in
          let at : Position = starting start (length log) in
          let here : speculate program window budget (position start 0 0 log) labels m ≡ speculate program window budget at labels m =
          ap (λ (p : Position). speculate program window budget p labels m) (started start log) in
          let a = counted_accepted_ahead in
          let told : counts' ≡ speculate_counts program window budget at labels m counts =
          counts_told (ap (λ (o : Outcome). o.labels) e ∙ ap (λ (q : Ended). q.labels) here) a.6
          ((started_kept (speculate_laws program window) start budget log labels m).values a.6) moved
          (speculate-moved program window budget at labels m counts a.5) w' (speculate_counts-words program window budget at labels m counts w) in
          ap (λ (o : Speculation). record { speculation = o; counts = counts' })
          (ran_ahead settings list start budget window log journal labels m found (counted_speculative_refusal settings list start window journal labels m counts) f h report m' labels' log' journal' cleared e s c)
          ∙ rw (told, ← f, eq-eqb found.ending 0 h) refl

-- ---- filling

module _ (labels counts : Memory) (found : Report) where
  pub filling_found : (words : Lengths)
      → found ≡ cond (not (lengths_in_range (lengths_of labels) [] && counts_fit (lengths_of labels) words)) (refusal_report 11 0)
      (cond (not (labels_in_range labels)) (refusal_report 12 0) (refusal_report 0 0))
      → words ≡ lengths_of counts → found ≡ counting_refusal labels counts
  unfolding counting_refusal
  filling_found words f w = rw w at f

  module _ (f : found ≡ counting_refusal labels counts) where
    -- what filling asks for, in each space
    pub may_fill : found.ending ≡ 0
        → ((length labels.unique ≤ 65536) × (count_words (length labels.unique) ≤ length counts.unique))
        × ((length labels.register ≤ 65536) × (count_words (length labels.register) ≤ length counts.register))
        × ((length labels.ram ≤ 65536) × (count_words (length labels.ram) ≤ length counts.ram))
    unfolding counting_refusal refusal_report lengths_of space_of
    may_fill h =
        let b = both (lengths_in_range (lengths_of labels) []) (counts_fit (lengths_of labels) (lengths_of counts)) (by _ (labels_in_range labels) refl (rw f at h)) in
        let small = space_small labels [] b.0 in
        let w = counts_fit_lem (lengths_of labels) (lengths_of counts) b.1 in
        ((small 2, w.0), (small 3, w.1), (small 4, w.2))
      where
        by : (t v : Bool) → lengths_in_range (lengths_of labels) [] && counts_fit (lengths_of labels) (lengths_of counts) ≡ t
            → (cond (not t) (refusal_report 11 0) (cond (not v) (refusal_report 12 0) (refusal_report 0 0))).ending ≡ 0 → t ≡ true
        by true v e z = refl
        by false v e z = absurd (let y : ⊥ = omega (arith, z) in y)

    pub filled_all : found.ending ≡ 0 → (unique register ram : List ℕ) → unique ≡ filled labels.unique counts.unique → register ≡ filled labels.register counts.register
        → ram ≡ filled labels.ram counts.ram → counting found (spaces unique register ram) ≡ count_secrets labels counts
    unfolding count_secrets counts_filled
    filled_all h unique register ram u r m = rw (u, r, m, ← f, eq-eqb found.ending 0 h) refl

    pub filled_none : (found.ending ≡ 0 → ⊥) → counting found counts ≡ count_secrets labels counts
    unfolding count_secrets
    filled_none h = rw (← f, ne_eqb found.ending 0 h) refl
