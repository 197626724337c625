-- What a plan keeps within: its next index, its target and its log word.
use Rattle.std.proofs.Common.{◌≡◌, ℕ, ◌+◌, ◌%◌, ◌^◌, ◌<◌, ◌≤◌, Bool, true, false, not, ◌&&◌, ◌||◌, eqb, leb, [], ◌∷◌, length, Option, unwrap_or, sym, refl, true≢false, arith, eq-eqb, eqb-true, leb-true}
use borrow.Author.Tests.{not-false}
use Rattle.word.proofs.Tests.{by_cond}
use Rattle.integer.proofs.Booleans.{both, neither, flag_lt}
use Rattle.arithmetic.specs.Opcodes.{member}
use Rattle.operation.specs.declared.layout.Varnode.{Varnode}
use Rattle.operation.specs.Layout.{operation_count, varnode_at, absent}
use Rattle.operation.specs.Rules.{accesses, branches, relative_target}
use Rattle.validation.specs.Verdict.{most_bytes}
use Rattle.validation.specs.WellFormed.{WellFormed}
use Rattle.machine.specs.Program.{Program}
use Rattle.machine.specs.Memory.{Memory, OfBytes, lengths_of, space_of}
use Rattle.machine.specs.Effect.{Operation, operation_at, pointee}
use Rattle.machine.specs.Run.{index_of}
use Rattle.machine.specs.Conditions.{exceeds_space, out_of_bounds, divides_by_zero, writes_log, taken, low_part, branch_taken, exits, next_index, destination_bytes, Words}
use Rattle.machine.proofs.Conditions.{Destination, formed, few_operations, when}
use Rattle.machine.proofs.Cases.{either}
use Rattle.machine.proofs.Ranges.{space_small}
use Rattle.run_memory.specs.Placed.{Placed}
use Rattle.run_plan.specs.declared.Plan.{Plan}
use Rattle.run_plan.specs.Valid.{Valid}
use Rattle.run_plan.specs.Plans.{control, log_due, exit_plan, next_plan, planned}
use Rattle.run_plan.proofs.Places.{placed, movable}

pub nowhere : (m : Memory) → Placed m absent
unfolding absent
nowhere m = record { size = omega arith; known = omega arith; nowhere = λ z. refl; within = λ l. absurd (let y : ⊥ = omega arith in y) }

-- an operation that branches is a branch
taken-branches : (n : ℕ) (t : Bool) → member n (4 ∷ 7 ∷ []) || (eqb n 5 && t) ≡ true → branches n ≡ true
unfolding branches member
taken-branches n t h =
    when n 4 (λ e. rw e refl) (λ n4. when n 5 (λ e. rw e refl) (λ n5. when n 7 (λ e. rw e refl) (λ n7. absurd (true≢false (sym (rw (n4, n5, n7) at h))))))

stores_access : (n : ℕ) → eqb n 3 ≡ true → accesses n ≡ true
unfolding accesses member
stores_access n e = let k : n ≡ 3 = eqb-true n 3 e in rw k refl

-- LOAD and STORE that are not out of bounds
module _ (m : Memory) (op : Operation) (b : ℕ) (o : out_of_bounds m op b ≡ false) where
  abbrev past : Varnode → Bool
  past v = not (leb (b + v.size) (length (space_of m op.input0.offset)))

  pub loaded_within : eqb op.opcode 2 ≡ true → b + op.output.size ≤ length (space_of m op.input0.offset)
  unfolding out_of_bounds exceeds_space pointee
  loaded_within k =
      let q : true && past op.output ≡ false = rw k at (neither (eqb op.opcode 2 && past op.output) (eqb op.opcode 3 && past op.input2) o).0 in
      leb-true _ _ (not-false _ q)

  pub stored_within : eqb op.opcode 3 ≡ true → b + op.input2.size ≤ length (space_of m op.input0.offset)
  unfolding out_of_bounds exceeds_space pointee
  stored_within k =
      let q : true && past op.input2 ≡ false = rw k at (neither (eqb op.opcode 2 && past op.output) (eqb op.opcode 3 && past op.input2) o).1 in
      leb-true _ _ (not-false _ q)

module _ (program : Program) (m : Memory) (i : ℕ) (v : Valid (lengths_of m) program.list) (h : i < operation_count program.list) where
  abbrev pub op : Operation
  op = operation_at program.list i

  w : WellFormed v.address_size (lengths_of m) program.list i
  w = v.operations i h

  -- ---- the next index is one of the list, or its end

  abbrev pub Within : Plan → Type 0
  Within p = p.next ≤ operation_count program.list

  abbrev InList : ℕ → Type 0
  InList n = n ≤ operation_count program.list

  -- a relative target of a well-formed branch is the sum modulo 2^64, and in the list
  pub relative-target : Words program.list → OfBytes m → branches op.opcode ≡ true → eqb op.input0.space 1 ≡ true
      → (index_of (relative_target i op.input0.offset) ≡ (i + op.input0.offset) % 2 ^ 64) × InList ((i + op.input0.offset) % 2 ^ 64)
  unfolding operation_at index_of
  relative-target words bytes k s =
      let small = few_operations (lengths_of m) program.list v.in_range in
      by ((formed program.settings v.address_size program.list i m words bytes small w).branch_to k)
    where
      by : Destination i (varnode_at program.list i 1) → (let t = (i + (varnode_at program.list i 1).offset) % 2 ^ 64 in
          (index_of (relative_target i (varnode_at program.list i 1).offset) ≡ t) × InList t)
      by (Destination.in_list s1 s4 e) =
          let t = w.target k (eqb-true (varnode_at program.list i 1).space 1 s) in
          (e, rw (← e, t.2) t.1)
      by (Destination.in_ram s1 s4) = absurd (let z : ◌≡◌ {A = ℕ} 0 1 = cc in omega arith)

  next_index_lem : Words program.list → OfBytes m → (b : ℕ) → InList (next_index op i b)
  unfolding next_index branch_taken taken
  next_index_lem words bytes b =
      by_cond InList (branch_taken op b && eqb op.input0.space 1) _ _
      (λ k. let t = both (branch_taken op b) (eqb op.input0.space 1) k in
      (relative-target words bytes (taken-branches op.opcode (not (eqb b 0)) t.0) t.1).1)
      (λ k. omega arith)

  pub next_within : Words program.list → OfBytes m → (a b : ℕ) → Within (planned program m op i a b)
  unfolding planned control exit_plan next_plan
  next_within words bytes a b =
      let here : i ≤ operation_count program.list = omega arith in
      either Within (out_of_bounds m op b) _ _ here (either Within (divides_by_zero op b) _ _ here (either Within (exits op b) _ _ here (next_index_lem words bytes b)))

  -- ---- the target may be written

  abbrev pub Writable : Plan → Type 0
  Writable p = Placed m p.target

  output_placed : Placed m op.output
  unfolding operation_at
  output_placed = placed m v.address_size program.list i w 0 (omega arith) (λ z. absurd (let y : ⊥ = omega arith in y))

  pub destination_placed : (b : ℕ) → out_of_bounds m op b ≡ false → Placed m (destination_bytes op b)
  unfolding destination_bytes pointee operation_at
  destination_placed b o =
      by_cond (Placed m) (eqb op.opcode 3) _ _
      (λ k. let a = movable m v.address_size program.list i w (stores_access op.opcode k) in
      record {
        size = a.stored.size;
        known = a.space.1;
        nowhere = λ z. absurd (let s : 2 ≤ op.input0.offset = a.space.0 in let y : ⊥ = omega arith in y);
        within = λ l. stored_within m op b o k;
      })
      (λ k. output_placed)

  pub target_writable : (a b : ℕ) → Writable (planned program m op i a b)
  unfolding planned control exit_plan next_plan
  target_writable a b =
      by_cond Writable (out_of_bounds m op b) _ _ (λ o. nowhere m)
      (λ o. either Writable (divides_by_zero op b) _ _ (nowhere m) (either Writable (exits op b) _ _ (nowhere m) (destination_placed b o)))

  -- ---- the low part of the log word is small

  abbrev Small : Option ℕ → Type 0
  Small low = unwrap_or low 0 ≤ most_bytes

  abbrev pub Low : Plan → Type 0
  Low p = Small p.log

  pub offset_small : (b : ℕ) → out_of_bounds m op b ≡ false → accesses op.opcode ≡ true → b ≤ most_bytes
  unfolding accesses member
  offset_small b o k =
      let s = space_small m program.list v.in_range op.input0.offset in
      when op.opcode 2 (λ e. let l = loaded_within m op b o (eq-eqb op.opcode 2 e) in omega arith) (λ n2.
      when op.opcode 3 (λ e. let l = stored_within m op b o (eq-eqb op.opcode 3 e) in omega arith) (λ n3. absurd (true≢false (sym (rw (n2, n3) at k)))))

  logs_access : (n : ℕ) → eqb n 5 ≡ false → member n (2 ∷ 3 ∷ 5 ∷ []) ≡ true → accesses n ≡ true
  unfolding accesses member
  logs_access n n5 k = when n 2 (λ e. rw e refl) (λ n2. when n 3 (λ e. rw e refl) (λ n3. absurd (true≢false (sym (rw (n2, n3, n5) at k)))))

  log_due_lem : (b : ℕ) → out_of_bounds m op b ≡ false → Small (log_due op b)
  unfolding log_due low_part writes_log
  log_due_lem b o =
      by_cond Small (writes_log op) _ _
      (λ k. by_cond (λ (n : ℕ). n ≤ most_bytes) (eqb op.opcode 5) _ _ (λ c. omega (arith, flag_lt (taken op b))) (λ n5. offset_small b o (logs_access op.opcode n5 k)))
      (λ k. omega arith)

  pub low_small : (a b : ℕ) → Low (planned program m op i a b)
  unfolding planned control exit_plan next_plan
  low_small a b =
      let none : 0 ≤ most_bytes = omega arith in
      by_cond Low (out_of_bounds m op b) _ _ (λ o. none)
      (λ o. either Low (divides_by_zero op b) _ _ none (either Low (exits op b) _ _ (log_due_lem b o) (log_due_lem b o)))
