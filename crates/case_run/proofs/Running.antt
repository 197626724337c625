-- The labelled run of a case: what is asked of its buffers, and what is printed of it.
use Prim.Native.Nat.{ℕ, ◌+◌, ◌/◌, ◌≤◌}
use mathlib.Core.Bool.{true}
use mathlib.Core.Path.{◌≡◌, refl, sym, ap, subst, ◌∙◌}
use mathlib.Core.List.{List}
use native.Mathlib.Omega.{arith}
use borrow.Author.Tests.{le-leb}
use lib.Dec.{leb}
use lib.ListN.{length, replicate, length-replicate}
use Rattle.secret_counts.specs.Recount.{blocks, count_words}
use Rattle.operation.specs.declared.layout.Settings.{Settings}
use Rattle.operation.specs.declared.report.Report.{Report}
use Rattle.std.specs.Borrow.{MutBor}
use Rattle.operation.specs.declared.layout.Spaces.{Spaces}
use Rattle.machine.specs.Memory.{Memory, spaces, lengths_of}
use Rattle.machine.specs.Lent.{lent, SameBuffers}
use Rattle.machine.specs.Calls.{Outcome, labelled_outcome, labelled_run}
use Rattle.machine.specs.Counts.{counts_fit, CountedOutcome, counted_outcome, counted_run}
use Rattle.machine.proofs.Limits.{limits}
use Rattle.machine.proofs.Recounts.{counts_of_labelled_runs}
use Rattle.case_printing.specs.Appended.{Appended}
use Rattle.case_printing.specs.Outcome.{outcome_text}
use Rattle.case_reader.specs.Limits.{most_case_bytes, log_words, start_index, counts_room, Fits}

-- counts of zeros that have room for the longest space, of each space
abbrev pub no_counts : Memory
no_counts = spaces (replicate counts_room 0) (replicate counts_room 0) (replicate counts_room 0)

-- a buffer that is the same still is as long
pub still_fits : {before after : Spaces (MutBor (List ℕ))} → SameBuffers before after → Fits (lengths_of (lent before)) → Fits (lengths_of (lent after))
unfolding lengths_of
still_fits same f =
    record {
      unique = omega (arith, same.unique.size, f.unique);
      register = omega (arith, same.register.size, f.register);
      ram = omega (arith, same.ram.size, f.ram);
    }

enough : (n : ℕ) → n ≤ most_case_bytes → leb (count_words n) (length (replicate {A = ℕ} counts_room 0)) ≡ true
unfolding count_words blocks
enough n h = rw (length-replicate {A = ℕ} counts_room 0) (le-leb ((n + 63) / 64 + 1) counts_room (omega (arith, h)))

counts_enough : (m : Memory) → Fits (lengths_of m) → counts_fit (lengths_of m) (lengths_of no_counts) ≡ true
unfolding counts_fit lengths_of
counts_enough m f = rw (enough (length m.unique) f.unique, enough (length m.register) f.register, enough (length m.ram) f.ram) refl

-- with these counts it is the labelled run
pub as_labelled : (settings : Settings) (list : List ℕ) (budget : ℕ) (labels m : Memory) {report : Report} {m' labels' counts' : Memory} {log' : List ℕ} → Fits (lengths_of m)
    → counted_outcome report m' labels' counts' log' ≡ counted_run settings list start_index budget (replicate log_words 0) labels m no_counts
    → labelled_outcome report m' labels' log' ≡ labelled_run settings list start_index budget (replicate log_words 0) labels m
as_labelled settings list budget labels m f e =
    ap (λ (o : CountedOutcome). o.outcome) e
    ∙ (counts_of_labelled_runs settings list start_index budget (replicate log_words 0) labels m no_counts).others (counts_enough m f)

-- the log words written have their place in the log
pub logged_in : (settings : Settings) (list : List ℕ) (budget : ℕ) (labels m : Memory) {report : Report} {m' labels' : Memory} {log' : List ℕ}
    → labelled_outcome report m' labels' log' ≡ labelled_run settings list start_index budget (replicate log_words 0) labels m
    → (report.logged ≤ length log') × (length log' ≤ log_words)
logged_in settings list budget labels m {report} {m'} {labels'} {log'} e =
    let zeros : List ℕ = replicate log_words 0 in
    let l = limits.labelled_limited settings list start_index budget zeros labels m in
    let room : length log' ≡ log_words = ap (λ (o : Outcome). length o.log) e ∙ l.same_length ∙ length-replicate {A = ℕ} log_words 0 in
    let few : report.logged ≤ length zeros = subst (λ (k : ℕ). k ≤ length zeros) (sym (ap (λ (o : Outcome). o.report.logged) e)) l.logged in
    (omega (arith, few, room, length-replicate {A = ℕ} log_words 0), omega (arith, room))

-- what is printed of an outcome is printed of its equal
pub printed_as : {o o' : Outcome} {before after : List ℕ} → o ≡ o' → Appended before (outcome_text o) after → Appended before (outcome_text o') after
printed_as {o} {o'} {before} {after} e p = subst (λ (x : Outcome). Appended before (outcome_text x) after) e p
