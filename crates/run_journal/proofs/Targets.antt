-- What an operation writes to, found before it is executed.
use Prim.Native.Nat.{ℕ, ◌+◌, ◌*◌, ◌≤◌, ◌<◌}
use native.Mathlib.Omega.{arith}
use mathlib.Core.Path.{◌≡◌, refl, sym, ap, ◌∙◌}
use mathlib.Core.Bool.{Bool, true, false, cond, not, ◌&&◌}
use mathlib.Core.List.{List}
use borrow.Author.Tests.{eq-eqb, ne_eqb, eqb-true, eqb-false, not-false}
use lib.Dec.{eqb, leb, ltb}
use lib.ListN.{length}
use Rattle.word.specs.Word.{value_of}
use Rattle.word.proofs.Tests.{by_cond}
use Rattle.arithmetic.specs.Opcodes.{member}
use Rattle.operation.specs.declared.layout.Settings.{Settings}
use Rattle.operation.specs.declared.layout.Varnode.{Varnode}
use Rattle.operation.specs.Layout.{wordsize_of, operation_count, opcode_at, varnode_at, absent}
use Rattle.operation.specs.Rules.{accesses, length_of}
use Rattle.validation.specs.Verdict.{settings_in_range}
use Rattle.validation.specs.WellFormed.{WellFormed}
use Rattle.machine.specs.Program.{Program, program_of, big_endian}
use Rattle.machine.specs.Memory.{Memory, lengths_of, space_of, bytes_at, value_at}
use Rattle.machine.specs.Effect.{Operation, operation_at, byte_offset, pointee}
use Rattle.machine.specs.Conditions.{operand1, exceeds_space, out_of_bounds, destination_bytes}
use Rattle.machine.proofs.Wordsizes.{operand_access}
use Rattle.run_memory.specs.Placed.{Placed}
use Rattle.run_plan.specs.Valid.{Valid}
use Rattle.run_plan.specs.Plans.{Addressable}
use Rattle.run_plan.proofs.Bounds.{nowhere, destination_placed}
use Rattle.run_plan.proofs.Places.{space_length, placed, movable, addressable}
use Rattle.run_plan.proofs.Pointers.{product_fits, product_is}
use Rattle.run_journal.specs.Journal.{target_before}

-- ---- STORE

module _ (settings : Settings) (m : Memory) (list : List ℕ) (i : ℕ) (v : Valid (lengths_of m) list) (inside : i < operation_count list)
    (s : settings_in_range settings ≡ true) (stores : eqb (opcode_at list i) 3 ≡ true) where
  abbrev op : Operation
  op = operation_at list i

  abbrev b : ℕ
  b = operand1 (program_of settings list) m op

  w : WellFormed v.address_size (lengths_of m) list i
  w = v.operations i inside

  is_store : opcode_at list i ≡ 3
  is_store = eqb-true (opcode_at list i) 3 stores

  access : accesses (opcode_at list i) ≡ true
  unfolding accesses member
  access = rw is_store refl

  pub at_pointer : Addressable settings m op
  at_pointer = addressable settings m list i s v inside (movable m v.address_size list i w access)

  pub pointer_placed : (input1 : Varnode) → input1 ≡ varnode_at list i 2 → Placed m input1
  pointer_placed input1 e = rw e (placed m v.address_size list i w 2 (omega arith) (λ z. absurd (let y : ⊥ = omega arith in y)))

  -- the byte offset, by the pointer's value
  offset_is : b ≡ byte_offset settings op (value_at settings m (varnode_at list i 2))
  unfolding operation_at
  offset_is = operand_access (program_of settings list) m op access

  target_is : destination_bytes op b ≡ pointee op b (varnode_at list i 3).size
  unfolding destination_bytes operation_at
  target_is = rw stores refl

  -- as the code finds it
  module _ (input0 input1 input2 : Varnode) (e0 : input0 ≡ varnode_at list i 1) (e1 : input1 ≡ varnode_at list i 2) (e2 : input2 ≡ varnode_at list i 3)
      (pointer extent offset : ℕ) (ep : pointer ≡ cond (eqb input1.space 1) input1.offset (value_of (eqb settings.order 1) (bytes_at m input1)))
      (ee : extent ≡ length_of (lengths_of m) input0.offset)
      (eo : offset ≡ cond (ltb pointer extent) pointer extent * wordsize_of settings.wordsizes input0.offset)
      (fits : Bool) (ef : fits ≡ leb (offset + input2.size) extent) where
    value_is : pointer ≡ value_at settings m (varnode_at list i 2)
    unfolding value_at big_endian
    value_is = ep ∙ rw e1 refl

    sized : input2 ≡ cond (eqb (opcode_at list i) 2) (varnode_at list i 0) input2
    sized = rw is_store refl

    by_offset : byte_offset settings op pointer ≡ b
    by_offset = ap (byte_offset settings op) value_is ∙ sym offset_is

    -- BOUNDS is found as the code finds it
    outside_is : exceeds_space m (destination_bytes op b) ≡ not fits
    unfolding exceeds_space pointee operation_at
    outside_is =
        let f = product_fits settings m op at_pointer (opcode_at list i) (varnode_at list i 0) input0 input2 input2 refl refl e0 e2 sized pointer extent offset ee eo in
        let l : extent ≡ length (space_of m (varnode_at list i 1).offset) = ee ∙ rw (e0, space_length m (varnode_at list i 1).offset) refl in
        rw (target_is, ef, f, by_offset, l, e2) refl

    pub stored_outside : not fits ≡ true → absent ≡ cond (exceeds_space m (destination_bytes op b)) absent (destination_bytes op b)
    stored_outside t = rw (outside_is, t) refl

    pub stored_inside : not fits ≡ false
        → record { space = input0.offset; offset = offset; size = input2.size } ≡ cond (exceeds_space m (destination_bytes op b)) absent (destination_bytes op b)
    unfolding pointee operation_at
    stored_inside t =
        let o : offset ≡ b =
        product_is settings m op at_pointer (opcode_at list i) (varnode_at list i 0) input0 input2 input2 refl refl e0 e2 sized pointer extent offset ee eo
        (sym ef ∙ not-false fits t) ∙ by_offset in
        rw (outside_is, t, target_is, o, e0, e2) refl

-- ---- any operation, and the end of the list

-- an index that is not the end
pub not_the_end : {i count : ℕ} (list : List ℕ) → count ≡ operation_count list → i ≤ operation_count list → (i ≡ count → ⊥) → i < operation_count list
not_the_end list e l n = omega arith

module _ (settings : Settings) (m : Memory) (list : List ℕ) (i : ℕ) where
  abbrev target : Varnode
  target = destination_bytes (operation_at list i) (operand1 (program_of settings list) m (operation_at list i))

  pub before_end : i ≡ operation_count list → absent ≡ target_before (program_of settings list) m i
  unfolding target_before
  before_end e = rw (eq-eqb i (operation_count list) e) refl

  module _ (within : i ≡ operation_count list → ⊥) where
    pub before-store : eqb (opcode_at list i) 3 ≡ true → cond (exceeds_space m target) absent target ≡ target_before (program_of settings list) m i
    unfolding target_before operation_at
    before-store e = rw (ne_eqb i (operation_count list) within, e) refl

    pub before_other : eqb (opcode_at list i) 3 ≡ false → varnode_at list i 0 ≡ target_before (program_of settings list) m i
    unfolding target_before operation_at destination_bytes
    before_other e = rw (ne_eqb i (operation_count list) within, e) refl

-- a STORE is out of bounds where its target is
store_bounds : (m : Memory) (op : Operation) (b : ℕ) → eqb op.opcode 3 ≡ true → exceeds_space m (destination_bytes op b) ≡ false → out_of_bounds m op b ≡ false
unfolding out_of_bounds destination_bytes
store_bounds m op b e o = let k : op.opcode ≡ 3 = eqb-true op.opcode 3 e in rw k (rw k at o)

module _ (program : Program) (m : Memory) (i : ℕ) (v : Valid (lengths_of m) program.list) where
  abbrev there : Varnode
  there = destination_bytes (operation_at program.list i) (operand1 program m (operation_at program.list i))

  there_placed : i < operation_count program.list → (s : Bool) → eqb (opcode_at program.list i) 3 ≡ s → s && exceeds_space m there ≡ false → Placed m there
  unfolding operation_at destination_bytes
  there_placed inside true s o = destination_placed program m i v inside _ (store_bounds m (operation_at program.list i) _ s o)
  there_placed inside false s o =
      rw s (placed m v.address_size program.list i (v.operations i inside) 0 (omega arith) (λ z. absurd (let y : ⊥ = omega arith in y)))

  -- an operation's target can be written
  pub target_placed : i ≤ operation_count program.list → Placed m (target_before program m i)
  unfolding target_before operation_at
  target_placed h =
      by_cond (Placed m) (eqb i (operation_count program.list)) _ _ (λ e. nowhere m)
      (λ e. let inside : i < operation_count program.list = let n = eqb-false i (operation_count program.list) e in omega arith in
      by_cond (Placed m) (eqb (opcode_at program.list i) 3 && exceeds_space m there) _ _ (λ t. nowhere m)
      (there_placed inside (eqb (opcode_at program.list i) 3) refl))
