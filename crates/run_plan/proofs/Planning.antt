-- What the code plans, path by path, is what the exact conditions say.
use Rattle.std.proofs.Common.{◌≡◌, ℕ, suc, ◌+◌, ◌%◌, ◌^◌, ◌<◌, ◌≤◌, Bool, true, false, cond, not, ◌&&◌, eqb, leb, length, Option, None, Some, sym, refl, ap, ◌∙◌, true≢false, add-one, arith, eq-eqb, ne_eqb, eqb-true, leb-true}
use borrow.Author.Tests.{eqb-false, not-true, not-false}
use Rattle.std.specs.Bool.{then_some}
use Rattle.integer.specs.Operations.{flag}
use Rattle.arithmetic.specs.Opcodes.{member}
use Rattle.arithmetic.specs.Operands.{divides, Operands}
use Rattle.arithmetic.specs.Result.{lookup, integer_results, result_of}
use Rattle.operation.specs.declared.layout.Varnode.{Varnode}
use Rattle.operation.specs.declared.report.Ending.TheVariants.{Exit, Bounds, Zero}
use Rattle.operation.specs.Rules.{accesses, jumps, length_of}
use Rattle.machine.specs.Program.{Program}
use Rattle.machine.specs.Memory.{Memory, lengths_of, space_of, value_at}
use Rattle.operation.specs.Layout.{absent}
use Rattle.machine.specs.Effect.{Operation, byte_offset, pointee}
use Rattle.machine.specs.Conditions.{exceeds_space, out_of_bounds, divides_by_zero, writes_log, taken, low_part, branch_taken, exits, destination, next_index, destination_bytes}
use Rattle.machine.specs.Conditions.{operand1, value_computed, value_moved, value_written}
use Rattle.machine.proofs.Wordsizes.{operand_access, operand_other}
use Rattle.run_memory.specs.Placed.{Placed}
use Rattle.run_plan.specs.declared.Plan.{Plan}
use Rattle.run_plan.specs.Plans.{control, stop_plan, log_due, exit_plan, next_plan, planned, move_plan, branch_plan, data_plan, Movable, Branching, Computable}
use Rattle.run_plan.proofs.Places.{space_length}
use Rattle.run_plan.proofs.Opcodes.{divides-member, each_branch, by_access, by_jump, by_branch, no_access, no_branch, no_jump, late_no_jump, late}

-- ---- BRANCH, CALL and CBRANCH

module _ (i b : ℕ) where
  abbrev Skips : Operation → Type 0
  Skips op = eqb op.opcode 5 && eqb b 0 ≡ true → control None (suc i) (Some 0) 0 ≡ branch_plan op i b

  abbrev Leaves : Operation → Type 0
  Leaves op = eqb op.opcode 5 && eqb b 0 ≡ false → eqb op.input0.space 4 ≡ true
      → control (Some Exit) i (then_some (eqb op.opcode 5) 1) op.input0.offset ≡ branch_plan op i b

  abbrev Follows : Operation → Type 0
  Follows op = eqb op.opcode 5 && eqb b 0 ≡ false → eqb op.input0.space 4 ≡ false → eqb op.input0.space 1 ≡ true
      → control None ((i + op.input0.offset) % 2 ^ 64) (then_some (eqb op.opcode 5) 1) 0 ≡ branch_plan op i b

  module _ (op : Operation) (h : Branching op) where
    pub skips : Skips op
    unfolding branch_plan exits branch_taken taken exit_plan next_plan next_index writes_log log_due low_part destination_bytes control member flag absent
    skips = by_branch Skips op h.opcode h.no_output (λ z. absurd (true≢false (sym z))) (λ z. rw z refl) (λ z. absurd (true≢false (sym z)))

    pub leaves : Leaves op
    unfolding branch_plan exits branch_taken taken exit_plan next_plan destination writes_log log_due low_part control member flag
    leaves = by_branch Leaves op h.opcode h.no_output (λ z s. rw s refl) (λ z s. rw (z, s) refl) (λ z s. rw s refl)

    pub follows : Follows op
    unfolding branch_plan exits branch_taken taken exit_plan next_plan next_index writes_log log_due low_part destination_bytes control member flag absent
    follows = by_branch Follows op h.opcode h.no_output (λ z s t. rw (s, t) refl) (λ z s t. rw (z, s, t) refl) (λ z s t. rw (s, t) refl)

-- ---- LOAD and STORE

-- what is moved: the output's bytes, or those of input2
abbrev pub moved : Operation → Varnode
moved op = cond (eqb op.opcode 2) op.output op.input2

abbrev fits : Memory → (b : ℕ) → Operation → Bool
fits m b op = leb (b + (moved op).size) (length (space_of m op.input0.offset))

module _ (program : Program) (m : Memory) (i b : ℕ) where
  abbrev Outside : Operation → Type 0
  Outside op = fits m b op ≡ false → stop_plan Bounds i ≡ move_plan program m op i b

  abbrev Moves : Operation → Type 0
  Moves op = fits m b op ≡ true
      → record {
        stop = None;
        next = suc i;
        log = Some b;
        target = cond (eqb op.opcode 2) op.output (pointee op b (moved op).size);
        value = value_at program.settings m (cond (eqb op.opcode 2) (pointee op b (moved op).size) op.input2);
      } ≡ move_plan program m op i b

  module _ (op : Operation) (h : Movable m op) where
    pub outside : Outside op
    unfolding move_plan out_of_bounds exceeds_space pointee
    outside = by_access Outside op h.opcode (λ f. rw f refl) (λ f. rw f refl)

    pub moves : Moves op
    unfolding move_plan out_of_bounds exceeds_space pointee next_plan next_index branch_taken taken writes_log log_due low_part destination_bytes value_moved member
    moves = by_access Moves op h.opcode (λ f. rw f refl) (λ f. rw f refl)

-- ---- all others

module _ (i a b : ℕ) where
  abbrev Jumps : Operation → Type 0
  Jumps op = control (Some Exit) i None a ≡ data_plan op i a b

  module _ (op : Operation) (h : Computable op a b) where
    pub jumped : jumps op.opcode ≡ true → Jumps op
    unfolding data_plan divides_by_zero exits branch_taken taken exit_plan destination writes_log log_due control member
    jumped j = by_jump Jumps op j refl refl refl

    pub by_zero : divides op.opcode && eqb b 0 ≡ true → stop_plan Zero i ≡ data_plan op i a b
    unfolding data_plan divides_by_zero
    by_zero z = rw (← divides-member op.opcode, z) refl

    pub computed : jumps op.opcode ≡ false → divides op.opcode && eqb b 0 ≡ false
        → record { stop = None; next = suc i; log = None; target = op.output; value = value_computed op a b } ≡ data_plan op i a b
    unfolding data_plan divides_by_zero exits branch_taken taken next_plan next_index writes_log log_due destination_bytes member
    computed j z =
        let na = no_access op.opcode h.no_access in
        let nb = no_branch op.opcode h.no_branch in
        let nj = no_jump op.opcode j in
        rw (← divides-member op.opcode, z, na.n2, na.n3, nb.n4, nb.n5, nb.n7, nj.n6, nj.n8, nj.n9) refl

-- ---- the plan, by opcode

module _ (program : Program) (m : Memory) (i a b : ℕ) where
  abbrev Moved : Operation → Type 0
  Moved op = move_plan program m op i b ≡ planned program m op i a b

  abbrev Branched : Operation → Type 0
  Branched op = branch_plan op i b ≡ planned program m op i a b

  module _ (op : Operation) where
    plans_move : Movable m op → Moved op
    unfolding move_plan planned divides_by_zero exits branch_taken taken value_written member
    plans_move h = by_access Moved op h.opcode refl refl

    plans_branch : Branching op → Branched op
    unfolding branch_plan planned out_of_bounds divides_by_zero exit_plan destination value_written value_computed result_of integer_results lookup member
    plans_branch h = by_branch Branched op h.opcode h.no_output refl refl refl

    plans_data : accesses op.opcode ≡ false → data_plan op i a b ≡ planned program m op i a b
    unfolding data_plan planned out_of_bounds value_written member
    plans_data h = let na = no_access op.opcode h in rw (na.n2, na.n3) refl

-- by the value b of input1
module _ (program : Program) (m : Memory) (i a b : ℕ) (op : Operation) (e : b ≡ value_at program.settings m op.input1) where
  abbrev Plans : Plan → Type 0
  Plans p = p ≡ planned program m op i a (operand1 program m op)

  pub planned-access : Movable m op → Plans (move_plan program m op i (byte_offset program.settings op b))
  planned-access h =
      plans_move program m i a _ op h ∙ ap (planned program m op i a) (rw e (sym (operand_access program m op h.opcode)))

  planned_value : accesses op.opcode ≡ false → Plans (planned program m op i a b)
  planned_value f = ap (planned program m op i a) (e ∙ sym (operand_other program m op f))

  pub planned_branch : Branching op → Plans (branch_plan op i b)
  unfolding accesses member
  planned_branch h = plans_branch program m i a b op h ∙ planned_value (each_branch (λ k. accesses k ≡ false) refl refl refl op.opcode h.opcode)

  pub planned_data : accesses op.opcode ≡ false → Plans (data_plan op i a b)
  planned_data f = plans_data program m i a b op f ∙ planned_value f

-- ---- as the code finds it: n is the opcode, and v0, v1, out are varnodes, that it decoded

module _ (op : Operation) (i b n : ℕ) (v0 : Varnode) (en : n ≡ op.opcode) (e0 : v0 ≡ op.input0) (h : Branching op) (r : Plan) where
  untaken : {t : Bool} → eqb n 5 && eqb b 0 ≡ t → eqb op.opcode 5 && eqb b 0 ≡ t
  untaken k = rw (← en) k

  pub code_skips : eqb n 5 && eqb b 0 ≡ true → r ≡ control None (i + 1) (Some 0) 0 → r ≡ branch_plan op i b
  code_skips k e = e ∙ rw add-one (skips i b op h (untaken k))

  module _ (log : Option ℕ) (el : log ≡ then_some (eqb n 5) 1) (f : eqb n 5 && eqb b 0 ≡ false) where
    pub code_leaves : v0.space ≡ 4 → r ≡ control (Some Exit) i log v0.offset → r ≡ branch_plan op i b
    code_leaves k e =
        let away : eqb op.input0.space 4 ≡ true = rw (← e0) (eq-eqb v0.space 4 k) in
        e ∙ rw (el, en, e0) (leaves i b op h (untaken f) away)

    pub code_follows : (v0.space ≡ 4 → ⊥) → (next : ℕ) → next ≡ (i + v0.offset) % 2 ^ 64 → r ≡ control None next log 0 → r ≡ branch_plan op i b
    code_follows k next en' e =
        let stays : eqb op.input0.space 4 ≡ false = rw (← e0) (ne_eqb v0.space 4 k) in
        e ∙ rw (en', el, en, e0) (follows i b op h (untaken f) stays (h.relative ∙ rw stays refl))

module _ (op : Operation) (a b n : ℕ) (en : n ≡ op.opcode) (h : Computable op a b) where
  written_as : jumps op.opcode ≡ false → divides op.opcode && eqb b 0 ≡ false → (i : ℕ) (r : Plan) (x : ℕ) (out : Varnode) → out ≡ op.output
      → value_computed op a b ≡ x → r ≡ record { stop = None; next = i + 1; log = None; target = out; value = x } → r ≡ data_plan op i a b
  written_as nj nz i r x out eo ex e = e ∙ rw (eo, ← ex, add-one) (computed i a b op h nj nz)

  -- the opcodes below 10: an exit, or COPY
  module _ (j : Bool) (ej : j ≡ jumps n) where
    jumping : {t : Bool} → j ≡ t → jumps op.opcode ≡ t
    jumping k = rw (← en) (sym ej ∙ k)

    pub code_jumps : (i : ℕ) (r : Plan) → j ≡ true → r ≡ control (Some Exit) i None a → r ≡ data_plan op i a b
    code_jumps i r k e = e ∙ jumped i a b op h (jumping k)

    copy : n < 10 → j ≡ false → op.opcode ≡ 1
    copy l f = by (eqb op.opcode 1) refl
      where
        by : (t : Bool) → eqb op.opcode 1 ≡ t → op.opcode ≡ 1
        by true e = eqb-true op.opcode 1 e
        by false e =
            absurd (let t = late op.opcode h.known (eqb-false op.opcode 1 e) h.no_access h.no_branch (jumping f) in let z : ⊥ = omega arith in z)

    pub code_copies : n < 10 → j ≡ false → (i : ℕ) (r : Plan) (out : Varnode) → out ≡ op.output
        → r ≡ record { stop = None; next = i + 1; log = None; target = out; value = a } → r ≡ data_plan op i a b
    unfolding value_computed divides
    code_copies l f i r out eo e =
        let k = copy l f in
        written_as (jumping f) (rw k refl) i r a out eo (rw (eq-eqb op.opcode 1 k) refl) e

  -- the others
  module _ (l : 10 ≤ n) (d : Bool) (ed : d ≡ divides n) where
    dividing : {t : Bool} → d && eqb b 0 ≡ t → divides op.opcode && eqb b 0 ≡ t
    dividing k = rw (← en, ← ed) k

    pub code_by_zero : (i : ℕ) (r : Plan) → d && eqb b 0 ≡ true → r ≡ control (Some Zero) i None 0 → r ≡ data_plan op i a b
    code_by_zero i r k e = e ∙ by_zero i a b op h (dividing k)

    module _ (g : d && eqb b 0 ≡ false) (out v0 v1 : Varnode) (eo : out ≡ op.output) (e0 : v0 ≡ op.input0) (e1 : v1 ≡ op.input1) where
      no_jumping : jumps op.opcode ≡ false
      no_jumping = rw (← en) (late_no_jump n l)

      no_copy : op.opcode ≡ 1 → ⊥
      no_copy e = omega arith

      -- the arithmetic may be asked
      pub may_compute : Operands n out.size v0.size v1.size a b
      may_compute = rw (en, eo, e0, e1) (h.operands no_jumping no_copy (λ q. positive (eqb b 0) refl q))
        where
          positive : (t : Bool) → eqb b 0 ≡ t → divides op.opcode ≡ true → 0 < b
          positive true e q = absurd (true≢false (sym (rw (q, e) refl) ∙ dividing g))
          positive false e q = let p : b ≡ 0 → ⊥ = eqb-false b 0 e in omega arith

      pub code_computes : (i : ℕ) (r : Plan) (x : ℕ) → x ≡ result_of n out.size v0.size v1.size a b
          → r ≡ record { stop = None; next = i + 1; log = None; target = out; value = x } → r ≡ data_plan op i a b
      unfolding value_computed
      code_computes i r x ex e =
          written_as no_jumping (dividing g) i r x out eo (rw (ne_eqb op.opcode 1 no_copy) (sym (ex ∙ rw (en, eo, e0, e1) refl))) e

module _ (m : Memory) (op : Operation) (b n : ℕ) (output input0 input2 sized : Varnode) (en : n ≡ op.opcode) (eo : output ≡ op.output)
    (e0 : input0 ≡ op.input0) (e2 : input2 ≡ op.input2) (es : sized ≡ cond (eqb n 2) output input2) (h : Movable m op)
    (extent : ℕ) (ee : extent ≡ length_of (lengths_of m) input0.offset) (t : Bool) (et : t ≡ leb (b + sized.size) extent) where
  sized_as : sized ≡ moved op
  sized_as = es ∙ rw (en, eo, e2) refl

  fits_as : {k : Bool} → t ≡ k → fits m b op ≡ k
  fits_as k = sym (et ∙ rw (ee, e0, space_length m op.input0.offset, sized_as) refl) ∙ k

  there : record { space = input0.offset; offset = b; size = sized.size } ≡ pointee op b (moved op).size
  unfolding pointee
  there = rw (e0, sized_as) refl

  pub code_outside : (program : Program) (i : ℕ) (r : Plan) → not t ≡ true → r ≡ control (Some Bounds) i None 0 → r ≡ move_plan program m op i b
  code_outside program i r k e = e ∙ outside program m i b op h (fits_as (not-true t k))

  module _ (k : not t ≡ false) (from : Varnode) (ef : from ≡ cond (eqb n 2) (record { space = input0.offset; offset = b; size = sized.size }) input2) where
    source : from ≡ cond (eqb op.opcode 2) (pointee op b (moved op).size) op.input2
    source = ef ∙ rw (there, en, e2) refl

    pub may_read : Placed m from
    unfolding pointee
    may_read = rw source (by (eqb op.opcode 2) refl)
      where
        by : (loads : Bool) → eqb op.opcode 2 ≡ loads → Placed m (cond loads (pointee op b (moved op).size) op.input2)
        by true e =
            let l : moved op ≡ op.output = rw e refl in
            record {
              size = rw l h.loaded;
              known = h.space.1;
              nowhere = λ z. absurd (let s : 2 ≤ op.input0.offset = h.space.0 in let y : ⊥ = omega arith in y);
              within = λ z. leb-true _ _ (fits_as (not-false t k));
            }
        by false e = h.stored

    pub code_moves : (program : Program) (i : ℕ) (r : Plan) (x : ℕ) → x ≡ value_at program.settings m from
        → (to : Varnode) → to ≡ cond (eqb n 2) output (record { space = input0.offset; offset = b; size = sized.size })
        → r ≡ record { stop = None; next = i + 1; log = Some b; target = to; value = x } → r ≡ move_plan program m op i b
    code_moves program i r x ex to eto e =
        let sink : to ≡ cond (eqb op.opcode 2) op.output (pointee op b (moved op).size) = eto ∙ rw (there, en, eo) refl in
        let value : x ≡ value_at program.settings m (cond (eqb op.opcode 2) (pointee op b (moved op).size) op.input2) = ex ∙ ap (value_at program.settings m) source in
        e ∙ rw (sink, value, add-one) (moves program m i b op h (fits_as (not-false t k)))
