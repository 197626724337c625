-- The call layer, field by field.
use Prim.Native.Nat.{ℕ, zero, suc, ◌+◌, ◌-◌, ◌≤◌}
use native.Mathlib.Omega.{arith}
use mathlib.Core.Path.{◌≡◌, refl, sym, ap, ◌∙◌}
use mathlib.Core.Bool.{Bool, true, false, not, ◌&&◌, true≢false}
use mathlib.Core.List.{List, [], ◌∷◌, ◌++◌}
use borrow.Author.Tests.{eq-eqb, ne_eqb}
use lib.Dec.{eqb, ltb, leb}
use lib.ListN.{length, get_or, drop, get_or-append}
use lib.Seq.{get_or-append-add, get_or-drop}
use Rattle.arithmetic.specs.Opcodes.{member}
use Rattle.operation.specs.declared.layout.Settings.{Settings}
use Rattle.operation.specs.Spaces.{Lengths}
use Rattle.operation.specs.declared.layout.Varnode.{Varnode}
use Rattle.operation.specs.declared.report.Report.{Report}
use Rattle.operation.specs.Layout.{operation_count}
use Rattle.validation.specs.Verdict.{settings_in_range, lengths_in_range, malformed, refusal_report}
use Rattle.machine.specs.Program.{Program, program_of}
use Rattle.machine.specs.Memory.{Memory, lengths_of}
use Rattle.machine.specs.Effect.{Operation, Kind, operation_at}
use Rattle.machine.specs.Run.{Stop, Decision, Position, Ended, Stepped, ending_of, logging, go_to, access, checked, decided, ended, apply_decision, execute_as, execute, stepped, continued, run}
use Rattle.machine.specs.Calls.{Outcome, unlabelled, labelled_outcome, refusal, log_after, outcome_of, starting, called, labelled_run, plain_run}
use Rattle.machine.specs.Pinned.{Answers, Pinned}
use Rattle.machine.proofs.Cases.{either}
use Rattle.machine.proofs.Plain.{nothing_secret, nothing_written}
use Rattle.machine.proofs.Refusals.{Known, none, known, found_known}
use Rattle.machine.proofs.Counts.{not_refused}
use Rattle.machine.proofs.Runs.{run_laws}

-- ---- accepted and refused

-- the words behind those written
pub lent_word : (words log : List ℕ) (k : ℕ) → length words ≤ k → get_or (words ++ drop (length words) log) k 0 ≡ get_or log k 0
lent_word words log k h =
    let e : k ≡ length words + (k - length words) = omega arith in
    ap (λ (n : ℕ). get_or (words ++ drop (length words) log) n 0) e
    ∙ get_or-append-add words (drop (length words) log) (k - length words) 0
    ∙ get_or-drop (length words) log (k - length words) 0
    ∙ ap (λ (n : ℕ). get_or log n 0) (sym e)

pub outcome_answers : (log : List ℕ) (r : Ended) → Answers log r (outcome_of log r)
unfolding outcome_of log_after
outcome_answers log r =
    let words : List ℕ = r.position.log in
    record {
      ending = refl;
      index = refl;
      executed = refl;
      logged = refl;
      value = refl;
      memory = refl;
      labels = refl;
      words = λ k h. get_or-append words (drop (length words) log) 0 k h;
      lent = λ k h. lent_word words log k h;
    }

module _ (settings : Settings) (list : List ℕ) (start budget : ℕ) (log : List ℕ) (labels m : Memory) (refused : Report) where
  called_answers : refused.ending ≡ 0
      → Answers log (run (program_of settings list) budget (starting start (length log)) labels m) (called settings list start budget log labels m refused)
  unfolding called
  called_answers e = rw (eq-eqb refused.ending 0 e) (outcome_answers log _)

  called_refused : (refused.ending ≡ 0 → ⊥) → called settings list start budget log labels m refused ≡ labelled_outcome refused m labels log
  unfolding called
  called_refused n = rw (ne_eqb refused.ending 0 n) refl

-- ---- the numbers of the rules

not_other : {n : ℕ} → Known 21 26 n → member n (10 ∷ 11 ∷ 12 ∷ 27 ∷ []) ≡ false
unfolding member
not_other none = refl
not_other (known n l h) =
    rw (ne_eqb n 10 (λ e. omega arith), ne_eqb n 11 (λ e. omega arith), ne_eqb n 12 (λ e. omega arith), ne_eqb n 27 (λ e. omega arith)) refl

not_leak : {n : ℕ} → Known 21 26 n → (n ≡ 31 → ⊥) × (n ≡ 12 → ⊥)
not_leak none = (λ e. omega arith, λ e. omega arith)
not_leak (known n l h) = (λ e. omega arith, λ e. omega arith)

no_index : (settings : Settings) (lengths : Lengths) (list : List ℕ) (start : ℕ) (fitting valid : Bool)
    → member (refusal settings lengths list start fitting valid).ending (10 ∷ 11 ∷ 12 ∷ 27 ∷ []) ≡ true
    → (refusal settings lengths list start fitting valid).index ≡ 0
unfolding refusal refusal_report
no_index settings lengths list start fitting valid =
    let found = malformed settings.address_size lengths list in
    let P : Report → Type 0 = λ r. member r.ending (10 ∷ 11 ∷ 12 ∷ 27 ∷ []) ≡ true → r.index ≡ 0 in
    either P (not (settings_in_range settings)) _ _ (λ e. refl)
    (either P (not (lengths_in_range lengths list && fitting)) _ _ (λ e. refl)
    (either P (not valid) _ _ (λ e. refl)
    (either P (not (eqb found.rule 0)) _ _ (λ e. absurd (true≢false (sym e ∙ not_other (found_known settings.address_size lengths list))))
    (either P (ltb (operation_count list) start) _ _ (λ e. refl) (λ e. refl)))))

-- ---- a plain run has no LEAK

-- another number is not LEAK's
not_31 : (n : ℕ) → eqb n 31 ≡ false → n ≡ 31 → ⊥
not_31 n f h = true≢false (sym (eq-eqb n 31 h) ∙ f)

data NoLeak : Decision → Type 0 where
  stops : {e : Stop} → (ending_of e ≡ 31 → ⊥) → NoLeak (Decision.stop e)
  nexts : {words : List ℕ} {i : ℕ} → NoLeak (Decision.next words i)
  exited : {words : List ℕ} {d : ℕ} → NoLeak (Decision.exit words d)

stop_bounds : NoLeak (Decision.stop Stop.bounds)
unfolding ending_of
stop_bounds = stops {e = Stop.bounds} (not_31 32 refl)

stop_zero : NoLeak (Decision.stop Stop.zero_divisor)
unfolding ending_of
stop_zero = stops {e = Stop.zero_divisor} (not_31 33 refl)

logging_public : (room word : ℕ) (d : List ℕ → Decision) → ((words : List ℕ) → NoLeak (d words)) → NoLeak (logging room word d)
unfolding logging ending_of
logging_public room word d h = either NoLeak (eqb room 0) _ _ (stops (not_31 34 refl)) (h (word ∷ []))

goto_public : (i : ℕ) (v : Varnode) (words : List ℕ) → NoLeak (go_to i v words)
unfolding go_to
goto_public i v words = either NoLeak (eqb v.space 1) _ _ nexts exited

access_public : (i extent room offset size : ℕ) → NoLeak (access i extent room offset size)
unfolding access
access_public i extent room offset size = either NoLeak (leb (offset + size) extent) _ _ (logging_public room _ _ (λ words. nexts)) stop_bounds

checked_public : (k : Kind) (op : Operation) (i extent room x : ℕ) → NoLeak (checked k op i extent room x)
unfolding checked
checked_public Kind.copy op i extent room x = nexts
checked_public Kind.load op i extent room x = access_public i extent room x _
checked_public Kind.store op i extent room x = access_public i extent room x _
checked_public Kind.branch op i extent room x = goto_public i op.input0 []
checked_public Kind.cbranch op i extent room x =
    either NoLeak (eqb x 0) _ _ (logging_public room _ _ (λ words. nexts)) (logging_public room _ _ (goto_public i op.input0))
checked_public Kind.jump op i extent room x = exited
checked_public Kind.piece op i extent room x = nexts
checked_public Kind.subpiece op i extent room x = nexts
checked_public Kind.divide op i extent room x = either NoLeak (eqb x 0) _ _ stop_zero nexts
checked_public Kind.compute op i extent room x = nexts

data Public : Stepped → Type 0 where
  halts : {r : Ended} → (r.ending ≡ 31 → ⊥) → Public (Stepped.halted r)
  goes : {at : Position} {m : Memory} → Public (Stepped.going at unlabelled m)

applied_public : (program : Program) (k : Kind) (op : Operation) (at : Position) (m : Memory) (x : ℕ) {d : Decision} → NoLeak d
    → Public (apply_decision program k op at unlabelled m x d)
unfolding apply_decision ended
applied_public program k op at m x (stops h) = halts h
applied_public program k op at m x nexts = rw nothing_written goes
applied_public program k op at m x exited = halts (not_31 1 refl)

stepped_public : (program : Program) (at : Position) (m : Memory) → Public (stepped program at unlabelled m)
unfolding stepped execute execute_as decided ended
stepped_public program at m =
    rw nothing_secret
    (either Public (ltb at.index (operation_count program.list)) _ _
    (applied_public program _ (operation_at program.list at.index) at m _ (checked_public _ (operation_at program.list at.index) at.index _ at.room _))
    (halts (not_31 0 refl)))

continued_public : (f : Position → Memory → Memory → Ended) → ((at : Position) (m : Memory) → (f at unlabelled m).ending ≡ 31 → ⊥)
    → {s : Stepped} → Public s → (continued f s).ending ≡ 31 → ⊥
unfolding continued
continued_public f h (halts n) = n
continued_public f h (goes {at} {m}) = h at m

run_public : (program : Program) (budget : ℕ) (at : Position) (m : Memory) → (run program budget at unlabelled m).ending ≡ 31 → ⊥
unfolding run ended
run_public program zero at m =
    either (λ (n : ℕ). n ≡ 31 → ⊥) (ltb at.index (operation_count program.list)) 2 0 (not_31 2 refl) (not_31 0 refl)
run_public program (suc budget) at m = continued_public _ (λ at' m'. run_public program budget at' m') (stepped_public program at m)

-- the refusals of a plain run
plain_refusals : (settings : Settings) (lengths : Lengths) (list : List ℕ) (start : ℕ)
    → ((refusal settings lengths list start true true).ending ≡ 31 → ⊥) × ((refusal settings lengths list start true true).ending ≡ 12 → ⊥)
unfolding refusal refusal_report
plain_refusals settings lengths list start =
    let found = malformed settings.address_size lengths list in
    let P : Report → Type 0 = λ r. (r.ending ≡ 31 → ⊥) × (r.ending ≡ 12 → ⊥) in
    either P (not (settings_in_range settings)) _ _ (λ e. omega arith, λ e. omega arith)
    (either P (not (lengths_in_range lengths list && true)) _ _ (λ e. omega arith, λ e. omega arith)
    (either P (not (eqb found.rule 0)) _ _ (not_leak (found_known settings.address_size lengths list))
    (either P (ltb (operation_count list) start) _ _ (λ e. omega arith, λ e. omega arith) (λ e. omega arith, λ e. omega arith))))

never_leaks : (settings : Settings) (list : List ℕ) (start budget : ℕ) (log : List ℕ) (m : Memory)
    → ((plain_run settings list start budget log m).report.ending ≡ 31 → ⊥) × ((plain_run settings list start budget log m).report.ending ≡ 12 → ⊥)
unfolding plain_run called outcome_of
never_leaks settings list start budget log m =
    let at = starting start (length log) in
    either (λ (o : Outcome). (o.report.ending ≡ 31 → ⊥) × (o.report.ending ≡ 12 → ⊥)) (eqb (refusal settings (lengths_of m) list start true true).ending 0) _ _
    (run_public (program_of settings list) budget at m, λ e. not_refused ((run_laws (program_of settings list)).counts budget at unlabelled m).ending (omega arith) (omega arith))
    (plain_refusals settings (lengths_of m) list start)

pub pinned : Pinned
unfolding labelled_run plain_run
pinned = record {
  labelled_accepted = λ settings list start budget log labels m. called_answers settings list start budget log labels m _;
  plain_accepted = λ settings list start budget log m. called_answers settings list start budget log unlabelled m _;
  labelled_refused = λ settings list start budget log labels m. called_refused settings list start budget log labels m _;
  plain_refused = λ settings list start budget log m. called_refused settings list start budget log unlabelled m _;
  no_index = no_index;
  never_leaks = never_leaks;
}
