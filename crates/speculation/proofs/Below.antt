-- Every log word of a labelled run is below 2^63.
use Prim.Native.Nat.{ℕ, zero, suc, ◌+◌, ◌*◌, ◌^◌, ◌≤◌, ◌<◌}
use native.Mathlib.Omega.{arith}
use mathlib.Core.Bool.{Bool, true, false, cond}
use mathlib.Core.List.{List, [], ◌∷◌, ◌++◌}
use mathlib.Core.Path.{◌≡◌, refl}
use borrow.Author.Tests.{leb-true, ltb-true}
use lib.Dec.{eqb, leb, ltb}
use lib.ListN.{length, drop, get_or, get_or-append}
use Rattle.operation.specs.declared.layout.Settings.{Settings}
use Rattle.operation.specs.declared.layout.Varnode.{Varnode}
use Rattle.operation.specs.declared.report.Report.{Report}
use Rattle.operation.specs.Layout.{operation_count}
use Rattle.validation.specs.Verdict.{most_operations, most_bytes, lengths_in_range}
use Rattle.machine.specs.Program.{Program, program_of}
use Rattle.machine.specs.Memory.{Memory, lengths_of, written}
use Rattle.machine.specs.Effect.{Operation, Kind, operation_at, target}
use Rattle.machine.specs.Run.{Stop, Decision, Position, Ended, Stepped, log_word, logging, go_to, access, checked, decided, advanced, ended, apply_decision, execute_as, execute}
use Rattle.machine.specs.Run.{stepped, continued, run}
use Rattle.machine.specs.Calls.{Outcome, same_lengths, labels_in_range, refusal, log_after, outcome_of, starting, called, labelled_run}
use Rattle.machine.proofs.Cases.{either}
use Rattle.machine.proofs.Ranges.{in_range, space_small}
use Rattle.machine.proofs.Kept.{written_lengths}
use Rattle.machine.proofs.Refusals.{refusal_refuses, refusal_report_lem, accepted}
use Rattle.speculation.specs.Window.{window_mark}

-- ---- words below 2^63

pub data Below : List ℕ → Type 0 where
  none : Below []
  more : {w : ℕ} {ws : List ℕ} → w < window_mark → Below ws → Below (w ∷ ws)

below_append : {a b : List ℕ} → Below a → Below b → Below (a ++ b)
below_append none q = q
below_append (more h p) q = more h (below_append p q)

pub below_at : {ws : List ℕ} → Below ws → (k : ℕ) → k < length ws → get_or ws k 0 < window_mark
below_at none k h = absurd (omega arith)
below_at (more w p) zero h = w
below_at (more w p) (suc k) h = below_at p k (omega arith)

-- ---- the words of one operation

data Writes : Decision → Type 0 where
  stops : {e : Stop} → Writes (Decision.stop e)
  nexts : {words : List ℕ} {i : ℕ} → Below words → Writes (Decision.next words i)
  exited : {words : List ℕ} {d : ℕ} → Below words → Writes (Decision.exit words d)

goto_writes : (i : ℕ) (v : Varnode) (words : List ℕ) → Below words → Writes (go_to i v words)
unfolding go_to
goto_writes i v words h = either Writes (eqb v.space 1) _ _ (nexts h) (exited h)

module _ (i extent : ℕ) (few : i < most_operations) (small : extent ≤ most_bytes) where
  logging_writes : (room low : ℕ) (d : List ℕ → Decision) → low ≤ most_bytes → ((words : List ℕ) → Below words → Writes (d words))
      → Writes (logging room (log_word i low) d)
  unfolding logging log_word window_mark
  logging_writes room low d l h =
      let w : i * 2 ^ 32 + low < window_mark = omega (arith, few, l) in
      either Writes (eqb room 0) _ _ stops (h _ (more w none))

  access_writes : (room offset size : ℕ) → Writes (access i extent room offset size)
  unfolding access
  access_writes room offset size = by (leb (offset + size) extent) refl
    where
      by : (t : Bool) → leb (offset + size) extent ≡ t → Writes (cond t (logging room (log_word i offset) (λ words. Decision.next words (suc i))) (Decision.stop Stop.bounds))
      by true e = logging_writes room offset _ (omega (arith, leb-true (offset + size) extent e, small)) (λ words h. nexts h)
      by false e = stops

  checked_writes : (k : Kind) (op : Operation) (room x : ℕ) → Writes (checked k op i extent room x)
  unfolding checked
  checked_writes Kind.copy op room x = nexts none
  checked_writes Kind.load op room x = access_writes room x _
  checked_writes Kind.store op room x = access_writes room x _
  checked_writes Kind.branch op room x = goto_writes i op.input0 [] none
  checked_writes Kind.cbranch op room x =
      either Writes (eqb x 0) _ _ (logging_writes room 0 _ (omega arith) (λ words h. nexts h)) (logging_writes room 1 _ (omega arith) (goto_writes i op.input0))
  checked_writes Kind.jump op room x = exited none
  checked_writes Kind.piece op room x = nexts none
  checked_writes Kind.subpiece op room x = nexts none
  checked_writes Kind.divide op room x = either Writes (eqb x 0) _ _ stops (nexts none)
  checked_writes Kind.compute op room x = nexts none

  decided_writes : (t : Bool) (k : Kind) (op : Operation) (room x : ℕ) → Writes (decided t k op i extent room x)
  unfolding decided
  decided_writes t k op room x = either Writes t _ _ stops (checked_writes k op room x)

-- ---- the run

module _ (program : Program) where
  abbrev InRange : Memory → Type 0
  InRange m = lengths_in_range (lengths_of m) program.list ≡ true

  written_range : (m : Memory) (v : Varnode) (bs : List ℕ) → InRange m → InRange (written m v bs)
  written_range m v bs e = rw (written_lengths m v bs) e

  data BelowStep : Stepped → Type 0 where
    halts : {r : Ended} → Below r.position.log → BelowStep (Stepped.halted r)
    goes : {at : Position} {labels m : Memory} → InRange m → Below at.log → BelowStep (Stepped.going at labels m)

  applied_below : (k : Kind) (op : Operation) (at : Position) (labels m : Memory) (x : ℕ) {d : Decision} → Writes d → InRange m → Below at.log
      → BelowStep (apply_decision program k op at labels m x d)
  unfolding apply_decision ended advanced
  applied_below k op at labels m x stops e h = halts h
  applied_below k op at labels m x (exited w) e h = halts (below_append h w)
  applied_below k op at labels m x (nexts w) e h = goes (written_range m (target k op x) _ e) (below_append h w)

  stepped_below : (at : Position) (labels m : Memory) → InRange m → Below at.log → BelowStep (stepped program at labels m)
  unfolding stepped execute execute_as ended
  stepped_below at labels m e h = by (ltb at.index (operation_count program.list)) refl
    where
      op : Operation
      op = operation_at program.list at.index

      by : (t : Bool) → ltb at.index (operation_count program.list) ≡ t
          → BelowStep (cond t (execute program op at labels m) (Stepped.halted (ended 0 0 at labels m)))
      by true t =
          let few : at.index < most_operations = omega (arith, ltb-true at.index (operation_count program.list) t, (in_range (lengths_of m) program.list e).0) in
          applied_below _ op at labels m _ (decided_writes at.index _ few (space_small m program.list e op.input0.offset) _ _ op _ _) e h
      by false t = halts h

  continued_below : (f : Position → Memory → Memory → Ended)
      → ((at : Position) (labels m : Memory) → InRange m → Below at.log → Below (f at labels m).position.log)
      → {a : Stepped} → BelowStep a → Below (continued f a).position.log
  unfolding continued
  continued_below f q (halts h) = h
  continued_below f q (goes {at} {labels} {m} e h) = q at labels m e h

  pub run_below : (budget : ℕ) (at : Position) (labels m : Memory) → InRange m → Below at.log → Below (run program budget at labels m).position.log
  unfolding run ended
  run_below zero at labels m e h = h
  run_below (suc budget) at labels m e h = continued_below _ (λ at' l m' e' h'. run_below budget at' l m' e' h') (stepped_below at labels m e h)

-- ---- the call

pub labelled_below : (settings : Settings) (list : List ℕ) (start budget : ℕ) (log : List ℕ) (labels m : Memory) (k : ℕ)
    → k < (labelled_run settings list start budget log labels m).report.logged
    → get_or (labelled_run settings list start budget log labels m).log k 0 < window_mark
unfolding labelled_run called outcome_of log_after starting
labelled_below settings list start budget log labels m k = by (eqb refused.ending 0) refl
  where
    fitting : Bool
    fitting = same_lengths (lengths_of labels) (lengths_of m)

    refused : Report
    refused = refusal settings (lengths_of m) list start fitting (labels_in_range labels)

    r : Ended
    r = run (program_of settings list) budget (starting start (length log)) labels m

    lent : Outcome
    lent = record { report = refused; memory = m; labels = labels; log = log }

    by : (t : Bool) → eqb refused.ending 0 ≡ t → k < (cond t (outcome_of log r) lent).report.logged → get_or (cond t (outcome_of log r) lent).log k 0 < window_mark
    by true t h =
        let l = (accepted settings (lengths_of m) list start fitting (labels_in_range labels) t).lengths_right in
        let w = run_below (program_of settings list) budget (starting start (length log)) labels m l none in
        rw (get_or-append r.position.log (drop (length r.position.log) log) 0 k h) (below_at w k h)
    by false t h = absurd (omega (arith, h, (refusal_report_lem (refusal_refuses settings (lengths_of m) list start fitting (labels_in_range labels))).1))
