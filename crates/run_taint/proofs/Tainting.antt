-- What the code looks at in the labels is what the exact conditions say.
use Prim.Native.Nat.{ℕ, ◌≤◌, ◌<◌}
use native.Mathlib.Omega.{arith}
use mathlib.Core.Path.{◌≡◌, refl, sym, ◌∙◌}
use mathlib.Core.Bool.{Bool, true, false, cond, ◌&&◌, ◌||◌, true≢false}
use mathlib.Core.List.{List}
use borrow.Author.Tests.{eqb-true, ne_eqb, leb-true}
use lib.Dec.{eqb, leb}
use Rattle.word.proofs.Tests.{by_cond}
use Rattle.integer.proofs.Booleans.{or_false, or_commutes, both}
use Rattle.arithmetic.specs.Opcodes.{first_integer, most_inputs, member}
use Rattle.arithmetic.specs.Operands.{divides}
use Rattle.operation.specs.declared.layout.Varnode.{Varnode}
use Rattle.operation.specs.Layout.{operation_count, opcode_at, varnode_at, absent}
use Rattle.operation.specs.Rules.{accesses, branches, jumps}
use Rattle.machine.specs.Memory.{Memory, lengths_of}
use Rattle.machine.specs.Effect.{Operation, operation_at, pointee}
use Rattle.machine.specs.Conditions.{has_secret, leaks, destination_bytes}
use Rattle.machine.proofs.Conditions.{absent_public}
use Rattle.run_memory.specs.Placed.{Placed}
use Rattle.run_plan.specs.Valid.{Valid}
use Rattle.run_plan.proofs.Bounds.{nowhere}
use Rattle.run_plan.proofs.Opcodes.{divides-member, each_access, each_jump, late_no_access, late_no_branch, late_no_jump}
use Rattle.run_plan.proofs.Places.{placed}

-- ---- opcodes of one class are of no other

access_no_jump : (n : ℕ) → accesses n ≡ true → jumps n ≡ false
unfolding jumps member
access_no_jump n a = each_access (λ k. jumps k ≡ false) refl refl n a

condition_no_jump : (n : ℕ) → eqb n 5 ≡ true → jumps n ≡ false
unfolding jumps member
condition_no_jump n e = rw (eqb-true n 5 e) refl

jump_no_access : (n : ℕ) → jumps n ≡ true → accesses n ≡ false
unfolding accesses member
jump_no_access n j = each_jump (λ k. accesses k ≡ false) refl refl refl n j

jump_no_branch : (n : ℕ) → jumps n ≡ true → branches n ≡ false
unfolding branches member
jump_no_branch n j = each_jump (λ k. branches k ≡ false) refl refl refl n j

jump_no_condition : (n : ℕ) → jumps n ≡ true → eqb n 5 ≡ false
jump_no_condition n j = each_jump (λ k. eqb k 5 ≡ false) refl refl refl n j

division_late : (n : ℕ) → divides n ≡ true → first_integer ≤ n
unfolding divides
division_late n d =
    let l = leb-true 35 n (both (leb 35 n) (leb n 38) d).0 in
    omega arith

pub early_no_division : (n : ℕ) → n < first_integer → divides n ≡ false
early_no_division n l = by (divides n) refl
  where
    by : (t : Bool) → divides n ≡ t → t ≡ false
    by true d = absurd (let h = division_late n d in let z : ⊥ = omega arith in z)
    by false d = refl

pub division_no_branch : (n : ℕ) → divides n ≡ true → branches n ≡ false
division_no_branch n d = late_no_branch n (division_late n d)

-- ---- LEAK, by the class of the opcode

leaks_by : (labels : Memory) (op : Operation)
    → leaks labels op
    ≡ (accesses op.opcode && has_secret labels op.input1) || (eqb op.opcode 5 && has_secret labels op.input1)
    || (jumps op.opcode && has_secret labels op.input0)
    || (divides op.opcode && has_secret labels op.input1) || (divides op.opcode && has_secret labels op.input0)
unfolding leaks accesses jumps
leaks_by labels op = rw (divides-member op.opcode) refl

-- a division: both operands
leaks_division : (labels : Memory) (op : Operation) → divides op.opcode ≡ true
    → has_secret labels op.input0 || has_secret labels op.input1 ≡ leaks labels op
leaks_division labels op d =
    let l = division_late op.opcode d in
    or_commutes (has_secret labels op.input0) (has_secret labels op.input1)
    ∙ sym (leaks_by labels op ∙ rw (late_no_access op.opcode l, ne_eqb op.opcode 5 (λ e. omega arith), late_no_jump op.opcode l, d) refl)

pub operands_tell : (labels : Memory) (list : List ℕ) (i : ℕ) → divides (opcode_at list i) ≡ true
    → has_secret labels (varnode_at list i 1) || has_secret labels (varnode_at list i 2) ≡ leaks labels (operation_at list i)
unfolding operation_at
operands_tell labels list i d = leaks_division labels (operation_at list i) d

-- any other operation: one varnode, which may be absent
abbrev watched : (opcode : ℕ) (input0 input1 : Varnode) → Varnode
watched n v0 v1 = cond (jumps n) v0 (cond (accesses n || eqb n 5) v1 absent)

module _ (n : ℕ) (v0 v1 : Varnode) where
  watched_late : first_integer ≤ n → watched n v0 v1 ≡ absent
  watched_late l = rw (late_no_jump n l, late_no_access n l, ne_eqb n 5 (λ e. omega arith)) refl

  pub watched_tested : accesses n || eqb n 5 ≡ true → watched n v0 v1 ≡ v1
  watched_tested h = by (accesses n) refl (eqb n 5) refl
    where
      by : (p : Bool) → accesses n ≡ p → (c : Bool) → eqb n 5 ≡ c → watched n v0 v1 ≡ v1
      by true e c f = rw (access_no_jump n e, e) refl
      by false e true f = rw (condition_no_jump n f, e, f) refl
      by false e false f = absurd (true≢false (sym h ∙ rw (e, f) refl))

-- p and c look at the label s
by_one : (p c s : Bool) → (p && s) || (c && s) ≡ cond (p || c) s false
by_one true true true = refl
by_one true true false = refl
by_one true false true = refl
by_one true false false = refl
by_one false true s = refl
by_one false false s = refl

leaks_watched : (labels : Memory) (op : Operation) → divides op.opcode ≡ false
    → leaks labels op ≡ has_secret labels (watched op.opcode op.input0 op.input1)
leaks_watched labels op d = leaks_by labels op ∙ rw d (or_false _ ∙ or_false _ ∙ by (jumps n) refl)
  where
    n : ℕ
    n = op.opcode

    tested : (t : Bool) → has_secret labels (cond t op.input1 absent) ≡ cond t (has_secret labels op.input1) false
    tested true = refl
    tested false = absent_public labels absent refl

    by : (j : Bool) → jumps n ≡ j
        → (accesses n && has_secret labels op.input1) || (eqb n 5 && has_secret labels op.input1) || (jumps n && has_secret labels op.input0)
        ≡ has_secret labels (watched n op.input0 op.input1)
    by true e = rw (jump_no_access n e, jump_no_condition n e, e) refl
    by false e = rw (e, tested (accesses n || eqb n 5)) (or_false _ ∙ by_one (accesses n) (eqb n 5) (has_secret labels op.input1))

-- an integer operation that is no division: nothing
pub late_public : (labels : Memory) (list : List ℕ) (i : ℕ) → first_integer ≤ opcode_at list i → divides (opcode_at list i) ≡ false → leaks labels (operation_at list i) ≡ false
unfolding operation_at
late_public labels list i l d =
    leaks_watched labels (operation_at list i) d ∙ rw (watched_late (opcode_at list i) (varnode_at list i 1) (varnode_at list i 2) l) (absent_public labels absent refl)

-- ---- what is written to

module _ (op : Operation) (b : ℕ) where
  pub stores : eqb op.opcode 3 ≡ true → pointee op b op.input2.size ≡ destination_bytes op b
  unfolding destination_bytes
  stores e = rw e refl

  pub outputs : eqb op.opcode 3 ≡ false → op.output ≡ destination_bytes op b
  unfolding destination_bytes
  outputs e = rw e refl

-- ---- where the code may look

module _ (labels : Memory) (list : List ℕ) (v : Valid (lengths_of labels) list) (i : ℕ) (h : i < operation_count list) where
  pub place : (k : ℕ) → k ≤ most_inputs → (k ≡ 1 → branches (opcode_at list i) ≡ false) → Placed labels (varnode_at list i k)
  place k l exempt = placed labels v.address_size list i (v.operations i h) k l exempt

  place_watched : Placed labels (watched (opcode_at list i) (varnode_at list i 1) (varnode_at list i 2))
  place_watched =
      by_cond (Placed labels) (jumps (opcode_at list i)) _ _ (λ j. place 1 (omega arith) (λ z. jump_no_branch (opcode_at list i) j))
      (λ j. by_cond (Placed labels) (accesses (opcode_at list i) || eqb (opcode_at list i) 5) _ _
      (λ k. place 2 (omega arith) (λ z. absurd (let y : ⊥ = omega arith in y))) (λ k. nowhere labels))

-- a varnode that the code found, for any labels
module _ (list : List ℕ) (i : ℕ) (d : divides (opcode_at list i) ≡ false)
    (v : Varnode) (e : v ≡ watched (opcode_at list i) (varnode_at list i 1) (varnode_at list i 2)) where
  pub sink_tells : ((labels : Memory) → has_secret labels v ≡ leaks labels (operation_at list i))
      × ((labels : Memory) → Valid (lengths_of labels) list → i < operation_count list → Placed labels v)
  unfolding operation_at
  sink_tells = (λ labels. rw e (sym (leaks_watched labels (operation_at list i) d)), λ labels w h. rw e (place_watched labels list w i h))
