-- Noninterference as one claim.
use Prim.Native.Nat.{ℕ}
use mathlib.Core.Path.{◌≡◌, refl, sym, ap, ◌∙◌}
use mathlib.Core.Bool.{Bool, true, false, cond, ◌&&◌}
use mathlib.Core.List.{List}
use borrow.Author.Tests.{eqb-true}
use lib.ListN.{length, take, drop}
use lib.Seq.{take-append_seam}
use lib.Dec.{eqb}
use Rattle.operation.specs.declared.layout.Settings.{Settings}
use Rattle.operation.specs.Spaces.{Lengths}
use Rattle.operation.specs.declared.report.Report.{Report}
use Rattle.integer.proofs.Booleans.{both}
use Rattle.machine.specs.Program.{program_of}
use Rattle.machine.specs.Memory.{Memory, lengths_of, space_of}
use Rattle.machine.specs.Run.{Position, Ended, run}
use Rattle.machine.specs.Calls.{Outcome, same_lengths, labels_in_range, refusal, log_after, outcome_of, starting, called, labelled_run, unlabelled, plain_run}
use Rattle.machine.specs.Noninterference.{LowEquivalent, Indistinguishable, Labelled, PlainAlike, Noninterference}
use Rattle.machine.proofs.Pointwise.{Spaces, each_from, each_at, spaces_space, spaces_lengths}
use Rattle.machine.proofs.Refusals.{refusal_refuses, refusal_report_lem, accepted}
use Rattle.machine.proofs.Secrecy.{Public, SameView, run-view}
use Rattle.machine.proofs.Plain.{SameRun, run_same}

-- ---- agreement at each place, from one telling to the other

view_of : {labels m n : Memory} → Spaces Public labels m n → LowEquivalent labels m n
view_of r = record { lengths = spaces_lengths r; bytes = λ space i k. each_at (λ e. refl) (spaces_space r space) i }

pub same_lengths_lem : (x y : Lengths) → same_lengths x y ≡ true → (x.unique ≡ y.unique) × (x.register ≡ y.register) × (x.ram ≡ y.ram)
unfolding same_lengths
same_lengths_lem x y t =
    let e = both (eqb x.unique y.unique && eqb x.register y.register) (eqb x.ram y.ram) t in
    let f = both (eqb x.unique y.unique) (eqb x.register y.register) e.0 in
    (eqb-true x.unique y.unique f.0, eqb-true x.register y.register f.1, eqb-true x.ram y.ram e.1)

pub spaces_from : {labels m n : Memory} → same_lengths (lengths_of labels) (lengths_of m) ≡ true → LowEquivalent labels m n → Spaces Public labels m n
unfolding lengths_of space_of
spaces_from {labels} {m} {n} t l =
    let e = same_lengths_lem (lengths_of labels) (lengths_of m) t in
    record {
      unique = each_from labels.unique m.unique n.unique e.0 (ap (λ (x : Lengths). x.unique) l.lengths) (l.bytes 2);
      register = each_from labels.register m.register n.register e.1 (ap (λ (x : Lengths). x.register) l.lengths) (l.bytes 3);
      ram = each_from labels.ram m.ram n.ram e.2 (ap (λ (x : Lengths). x.ram) l.lengths) (l.bytes 4);
    }

-- ---- the calls

pub logged-words : (words log : List ℕ) → take (length words) (log_after words log) ≡ words
unfolding log_after
logged-words words log = take-append_seam words (drop (length words) log)

pub outcome-view : (log log' : List ℕ) {r q : Ended} → SameView r q → Indistinguishable (outcome_of log r) (outcome_of log' q)
unfolding outcome_of
outcome-view log log' {r} {q} v = record {
  report = rw (v.ending, v.value, v.position);
  log = logged-words r.position.log log ∙ ap (λ (at : Position). at.log) v.position ∙ sym (logged-words q.position.log log');
  labels = v.labels;
  memory = view_of v.memory;
}

module _ (settings : Settings) (list : List ℕ) (start budget : ℕ) where
  called-view : (log log' : List ℕ) → length log ≡ length log' → (labels m n : Memory) (refused : Report) → refused.logged ≡ 0
      → LowEquivalent labels m n → (eqb refused.ending 0 ≡ true → Spaces Public labels m n)
      → Indistinguishable (called settings list start budget log labels m refused) (called settings list start budget log' labels n refused)
  unfolding called
  called-view log log' e labels m n refused none l r = by (eqb refused.ending 0) r
    where
      by : (t : Bool) → (t ≡ true → Spaces Public labels m n)
          → Indistinguishable
          (cond t (outcome_of log (run (program_of settings list) budget (starting start (length log)) labels m)) (record { report = refused; memory = m; labels = labels; log = log }))
          (cond t (outcome_of log' (run (program_of settings list) budget (starting start (length log')) labels n)) (record { report = refused; memory = n; labels = labels; log = log' }))
      by true k = rw e (outcome-view log log' (run-view (program_of settings list) budget (starting start (length log')) labels m n (k refl)))
      by false k = record { report = refl; log = rw none; labels = refl; memory = l }

  labelled-view : (log log' : List ℕ) → length log ≡ length log' → (labels m n : Memory) → LowEquivalent labels m n
      → Indistinguishable (labelled_run settings list start budget log labels m) (labelled_run settings list start budget log' labels n)
  unfolding labelled_run
  labelled-view log log' e labels m n l =
      rw (← l.lengths)
      (called-view log log' e labels m n _ (refusal_report_lem (refusal_refuses settings (lengths_of m) list start _ _)).1 l
      (λ z. spaces_from (accepted settings (lengths_of m) list start (same_lengths (lengths_of labels) (lengths_of m)) (labels_in_range labels) z).labels_fit l))

-- ---- the plain run

outcome_same : (log log' : List ℕ) {r q : Ended} → SameRun r q → PlainAlike (outcome_of log q) (outcome_of log' r)
unfolding outcome_of
outcome_same log log' {r} {q} v = record {
  report = rw (v.ending, v.value, v.position);
  log = logged-words r.position.log log' ∙ ap (λ (at : Position). at.log) v.position ∙ sym (logged-words q.position.log log);
  memory = v.memory;
}

module _ (settings : Settings) (list : List ℕ) (start budget : ℕ) where
  called_same : (log log' : List ℕ) → length log' ≡ length log → (labels m : Memory) (refused : Report) → refused.logged ≡ 0
      → ((called settings list start budget log labels m refused).report.ending ≡ 31 → ⊥)
      → PlainAlike (called settings list start budget log labels m refused) (called settings list start budget log' unlabelled m refused)
  unfolding called outcome_of
  called_same log log' e labels m refused none = by (eqb refused.ending 0)
    where
      lent : List ℕ → Memory → Outcome
      lent w l = record { report = refused; memory = m; labels = l; log = w }

      runs : List ℕ → Memory → Ended
      runs w l = run (program_of settings list) budget (starting start (length w)) l m

      by : (t : Bool) → ((cond t (outcome_of log (runs log labels)) (lent log labels)).report.ending ≡ 31 → ⊥)
          → PlainAlike (cond t (outcome_of log (runs log labels)) (lent log labels)) (cond t (outcome_of log' (runs log' unlabelled)) (lent log' unlabelled))
      by true ne = rw e (outcome_same log log' (run_same (program_of settings list) budget (starting start (length log)) labels m ne))
      by false ne = record { report = refl; log = rw none refl; memory = refl }

  plain_same : (log : List ℕ) (labels m : Memory) → Labelled labels m → ((labelled_run settings list start budget log labels m).report.ending ≡ 31 → ⊥)
      → (log' : List ℕ) → length log' ≡ length log
      → PlainAlike (labelled_run settings list start budget log labels m) (plain_run settings list start budget log' m)
  unfolding labelled_run plain_run
  plain_same log labels m l ne log' e =
      let none = (refusal_report_lem (refusal_refuses settings (lengths_of m) list start true true)).1 in
      rw (l.lengths, l.values) (called_same log log' e labels m (refusal settings (lengths_of m) list start true true) none (rw (l.lengths, l.values) at ne))

pub noninterference : Noninterference
noninterference settings list start budget log log' e labels first second l = record {
  runs = labelled-view settings list start budget log log' e labels first second l;
  first_plain = plain_same settings list start budget log labels first;
  second_plain = plain_same settings list start budget log' labels second;
}
