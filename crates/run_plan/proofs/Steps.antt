-- From a plan to the machine's step.
use Rattle.std.proofs.Common.{◌≡◌, ℕ, ◌<◌, Bool, true, false, cond, ◌&&◌, eqb, List, [], ◌∷◌, Option, None, Some, is_some, unwrap_or, sym, refl, ◌∙◌, lt-ltb}
use Rattle.word.specs.Word.{bytes_of}
use Rattle.integer.proofs.Booleans.{and-false}
use Rattle.arithmetic.specs.Opcodes.{member}
use Rattle.operation.specs.declared.layout.Varnode.{Varnode}
use Rattle.operation.specs.declared.report.Ending.{Ending}
use Rattle.operation.specs.declared.report.Ending.TheVariants.{Bounds, Zero}
use Rattle.operation.specs.Layout.{operation_count}
use Rattle.machine.specs.Program.{Program, big_endian}
use Rattle.machine.specs.Memory.{Memory, OfBytes, lengths_of, written, value_at}
use Rattle.machine.specs.Effect.{Operation, operation_at}
use Rattle.machine.specs.Run.{Position, Stepped, log_word, advanced, ended, stepped}
use Rattle.machine.specs.Calls.{unlabelled}
use Rattle.machine.specs.Conditions.{has_secret, leaks, out_of_bounds, divides_by_zero, writes_log, log_word_of, exits, destination, next_index, destination_bytes, value_written}
use Rattle.machine.specs.Conditions.{operand1, position_after, exact_step_with, labels_after, exact_step, Words}
use Rattle.machine.proofs.Plain.{nothing_secret, nothing_written}
use Rattle.machine.proofs.Conditions.{formed, few_operations, meets, one_secret}
use Rattle.run_plan.specs.declared.Plan.{Plan}
use Rattle.run_plan.specs.Valid.{Valid}
use Rattle.operation.specs.Numbers.{ending_number}
use Rattle.run_plan.specs.Plans.{failure, control, stop_plan, log_due, exit_plan, next_plan, planned}

-- The log word of a plan.
unfoldable pub words_of : Plan → (i : ℕ) → List ℕ
words_of p i = cond (is_some p.log) (log_word i (unwrap_or p.log 0) ∷ []) []

-- The number of an ending, if there is one.
abbrev pub number_in : Option Ending → ℕ
number_in None = 0
number_in (Some why) = ending_number why

-- A plan carried out.
unfoldable pub applied : Program → Plan → Position → (labels marked memory : Memory) → Stepped
applied program p at labels marked m =
    cond (is_some (failure p.stop)) (Stepped.halted (ended (number_in (failure p.stop)) 0 at labels m))
    (cond (is_some p.log && eqb at.room 0) (Stepped.halted (ended 34 0 at labels m))
    (cond (is_some p.stop) (Stepped.halted (ended 1 p.value (advanced at at.index (words_of p at.index)) labels m))
    (Stepped.going (advanced at p.next (words_of p at.index)) marked
    (written m p.target (bytes_of (big_endian program.settings) p.target.size p.value)))))

-- What is told after LEAK is the plan carried out.
module _ (program : Program) (op : Operation) (a b : ℕ) (at : Position) (labels marked m : Memory) where
  abbrev leaving : Stepped
  leaving = Stepped.halted (ended 1 (destination op a) (position_after op b at at.index) labels m)

  abbrev onward : Stepped
  onward =
      Stepped.going (position_after op b at (next_index op at.index b)) marked
      (written m (destination_bytes op b) (bytes_of (big_endian program.settings) (destination_bytes op b).size (value_written program m op a b)))

  pub exact_step_applied : exact_step_with program op a b at labels marked m ≡ applied program (planned program m op at.index a b) at labels marked m
  unfolding exact_step_with position_after planned applied words_of exit_plan next_plan control log_due log_word log_word_of
  exact_step_applied = by (out_of_bounds m op b) (divides_by_zero op b) (writes_log op) refl (eqb at.room 0) refl (exits op b)
    where
      by : (o z w : Bool) → writes_log op ≡ w → (f : Bool) → eqb at.room 0 ≡ f → (x : Bool)
          → cond o (Stepped.halted (ended 32 0 at labels m))
          (cond z (Stepped.halted (ended 33 0 at labels m))
          (cond (writes_log op && eqb at.room 0) (Stepped.halted (ended 34 0 at labels m)) (cond x leaving onward)))
          ≡ applied program
          (cond o (stop_plan Bounds at.index)
          (cond z (stop_plan Zero at.index) (cond x (exit_plan op at.index a b) (next_plan op at.index b (value_written program m op a b)))))
          at labels marked m
      by true z w ew f ef x = refl
      by false true w ew f ef x = refl
      by false false true ew true ef true = rw (ew, ef) refl
      by false false true ew true ef false = rw (ew, ef) refl
      by false false true ew false ef true = rw (ew, ef) refl
      by false false true ew false ef false = rw (ew, ef) refl
      by false false false ew f ef true = rw ew refl
      by false false false ew f ef false = rw ew refl

-- nothing leaks without labels
no_leak : (op : Operation) → leaks unlabelled op ≡ false
unfolding leaks
no_leak op =
    rw (
      public op.input0,
      public op.input1,
      and-false (member op.opcode (2 ∷ 3 ∷ [])),
      and-false (eqb op.opcode 5),
      and-false (member op.opcode (6 ∷ 8 ∷ 9 ∷ [])),
      and-false (member op.opcode (35 ∷ 36 ∷ 37 ∷ 38 ∷ [])),
    ) refl
  where
    public : (v : Varnode) → has_secret unlabelled v ≡ false
    public v = sym (one_secret unlabelled v) ∙ nothing_secret (v ∷ [])

-- The step of a well-formed list.
module _ (program : Program) (at : Position) (labels m : Memory) (words : Words program.list) (bytes : OfBytes m)
    (v : Valid (lengths_of m) program.list) (within : at.index < operation_count program.list) where
  abbrev pub op : Operation
  op = operation_at program.list at.index

  abbrev pub a : ℕ
  a = value_at program.settings m op.input0

  abbrev pub b : ℕ
  b = operand1 program m op

  step_exact_step : stepped program at labels m ≡ exact_step program op at labels m
  unfolding stepped
  step_exact_step =
      let small = few_operations (lengths_of m) program.list v.in_range in
      let w = v.operations at.index within in
      rw (lt-ltb at.index (operation_count program.list) within)
      (meets program op at labels m bytes (formed program.settings v.address_size program.list at.index m words bytes small w))

  -- LEAK
  pub step_leak : leaks labels op ≡ true → stepped program at labels m ≡ Stepped.halted (ended 31 0 at labels m)
  unfolding exact_step
  step_leak e = step_exact_step ∙ rw e refl

  -- else the plan carried out
  pub step_applied : leaks labels op ≡ false
      → stepped program at labels m ≡ applied program (planned program m op at.index a b) at labels (labels_after (big_endian program.settings) labels op b) m
  unfolding exact_step
  step_applied e = step_exact_step ∙ rw e (exact_step_applied program op a b at labels (labels_after (big_endian program.settings) labels op b) m)

-- without labels nothing leaks, and nothing is marked
module _ (program : Program) (at : Position) (m : Memory) (words : Words program.list) (bytes : OfBytes m)
    (v : Valid (lengths_of m) program.list) (within : at.index < operation_count program.list) where
  pub step_plain : (let op = operation_at program.list at.index in
      stepped program at unlabelled m
      ≡ applied program (planned program m op at.index (value_at program.settings m op.input0) (operand1 program m op)) at unlabelled unlabelled m)
  unfolding labels_after
  step_plain = step_applied program at unlabelled m words bytes v within (no_leak _) ∙ rw nothing_written refl
