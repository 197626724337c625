-- The laws of a run with a budget that the loops rest on. The labelled run and the plain run, which is the one over no labels, have them,
-- and so has every run that repeats one operation of which some laws hold.
use Prim.Native.Nat.{ℕ, ◌+◌, ◌<◌}
use native.Mathlib.Omega.{arith}
use mathlib.Core.List.{List}
use mathlib.Core.Path.{◌≡◌, refl, sym, ap, ◌∙◌}
use lib.ListN.{length}
use Rattle.operation.specs.Spaces.{Lengths}
use Rattle.operation.specs.Layout.{operation_count}
use Rattle.machine.specs.Program.{Program}
use Rattle.machine.specs.Memory.{Memory, lengths_of}
use Rattle.machine.specs.Run.{Position, Ended, Stepped, stepped, run}
use Rattle.machine.specs.Calls.{starting}
use Rattle.machine.proofs.Budget.{Repeats, run_repeats, Ends, stepped_ends, Later, stepped_later, later_ended, later, fresh, fresh_later}
use Rattle.machine.proofs.Budget.{run_more, run_done, run_later, run_index}
use Rattle.machine.proofs.Kept.{Kept, KeptStep, stepped_kept, run_kept}
use Rattle.machine.proofs.Counts.{Counts, counts_goes, Stays, stepped_counts, Run, run_counts_lem}

pub record Runs (program : Program) (R : ℕ → Position → Memory → Memory → Ended) : Type 0 where
  -- budgets add up
  pub more : (b c : ℕ) (at : Position) (labels m : Memory) → (R b at labels m).ending ≡ 2
      → R (b + c) at labels m ≡ R c (R b at labels m).position (R b at labels m).labels (R b at labels m).memory
  -- a run that BUDGET did not stop is the same with a larger budget
  pub done : (b c : ℕ) (at : Position) (labels m : Memory) → ((R b at labels m).ending ≡ 2 → ⊥) → R (b + c) at labels m ≡ R b at labels m
  -- count and log are carried along
  pub carried : (c : ℕ) (words : List ℕ) (b : ℕ) (at : Position) (labels m : Memory) → R b (later c words at) labels m ≡ later_ended c words (R b at labels m)
  -- stopped by BUDGET, it has an operation before it
  pub index : (b : ℕ) (at : Position) (labels m : Memory) → (R b at labels m).ending ≡ 2 → (R b at labels m).position.index < operation_count program.list
  pub counts : (b : ℕ) (at : Position) (labels m : Memory) → Run at.executed b (R b at labels m)
  pub kept : (words : ℕ) (spaces : Lengths) (marks : Memory) (b : ℕ) (at : Position) (labels m : Memory) → Kept words spaces marks at labels m
      → Kept words spaces marks (R b at labels m).position (R b at labels m).labels (R b at labels m).memory

-- The laws of one operation that they follow from; P is what is left of a stopped one.
pub record Steps (program : Program) (P : Position → Memory → Memory → Ended → Type 0) (S : Position → Memory → Memory → Stepped) : Type 0 where
  pub ends : (at : Position) (labels m : Memory) → Ends program S at labels m
  pub carried : (c : ℕ) (words : List ℕ) (at : Position) (labels m : Memory) → Later c words (S (later c words at) labels m) (S at labels m)
  pub counts : (at : Position) (labels m : Memory) → Counts at (P at labels m) (S at labels m)
  pub kept : (words : ℕ) (spaces : Lengths) (marks : Memory) (at : Position) (labels m : Memory) → Kept words spaces marks at labels m
      → KeptStep words spaces marks (S at labels m)

pub repeated_laws : {program : Program} {P : Position → Memory → Memory → Ended → Type 0} {S : Position → Memory → Memory → Stepped} {R : ℕ → Position → Memory → Memory → Ended}
    → Steps program P S → Repeats program S R → Runs program R
repeated_laws s u = record {
  more = run_more u (λ at labels m. counts_goes (s.counts at labels m));
  done = run_done u (λ at labels m. counts_goes (s.counts at labels m)) s.ends;
  carried = λ c words. run_later c words u (s.carried c words);
  index = run_index u (λ at labels m. counts_goes (s.counts at labels m));
  counts = run_counts_lem u s.counts;
  kept = λ words spaces marks. run_kept words spaces marks u (s.kept words spaces marks);
}

pub stepped_laws : (program : Program) → Steps program Stays (stepped program)
stepped_laws program = record {
  ends = stepped_ends program;
  carried = λ c words. stepped_later c words program;
  counts = stepped_counts program;
  kept = λ words spaces marks. stepped_kept words spaces marks program;
}

pub run_laws : (program : Program) → Runs program (run program)
run_laws program = repeated_laws (stepped_laws program) (run_repeats program)

module _ {program : Program} {R : ℕ → Position → Memory → Memory → Ended} (laws : Runs program R) where
  -- two runs, the second begun anew, against one run
  pub resumed : (b c : ℕ) (at : Position) (labels m : Memory) → (R b at labels m).ending ≡ 2
      → R (b + c) at labels m
      ≡ later_ended (R b at labels m).position.executed (R b at labels m).position.log
      (R c (fresh (R b at labels m).position) (R b at labels m).labels (R b at labels m).memory)
  resumed b c at labels m e =
      let r = R b at labels m in
      laws.more b c at labels m e
      ∙ ap (λ (p : Position). R c p r.labels r.memory) (sym (fresh_later r.position))
      ∙ laws.carried r.position.executed r.position.log c (fresh r.position) r.labels r.memory

  -- a run keeps the lengths that it began with, and its labels stay labels
  pub started_kept : (start budget : ℕ) (log : List ℕ) (labels m : Memory)
      → (let r = R budget (starting start (length log)) labels m in
      Kept (length log) (lengths_of m) labels r.position r.labels r.memory)
  unfolding starting
  started_kept start budget log labels m =
      laws.kept (length log) (lengths_of m) labels budget (starting start (length log)) labels m
      (record { log = omega arith; memory = refl; lengths = refl; values = λ q. q })
