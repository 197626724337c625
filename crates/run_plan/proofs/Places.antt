-- What a well-formed operation gives the code: where it may read, what it may move and what it may compute.
use Rattle.std.proofs.Common.{◌≡◌, ℕ, ◌+◌, ◌*◌, ◌^◌, ◌<◌, ◌≤◌, Bool, true, false, cond, not, ◌&&◌, eqb, leb, List, [], length, sym, refl, subst, div-mul-le_self, arith}
use borrow.Author.Tests.{not-false}
use Rattle.word.specs.Word.{is_size}
use Rattle.integer.proofs.Booleans.{both, one_to_eight}
use Rattle.arithmetic.specs.Opcodes.{most_inputs, opcodes, row_of, outputs, inputs, has_place, member}
use Rattle.arithmetic.specs.Operands.{sizes_agree}
use Rattle.operation.specs.declared.layout.Varnode.{Varnode}
use Rattle.operation.specs.declared.layout.Settings.{Settings}
use Rattle.operation.specs.Spaces.{Lengths}
use Rattle.operation.specs.Layout.{wordsize_of, words_per_operation, operation_count, opcode_at, varnode_at, absent}
use Rattle.operation.specs.Rules.{accesses, branches, names_space, breaks_place, length_of, breaks_size}
use Rattle.arithmetic.proofs.Table.{data_shape}
use Rattle.validation.specs.Verdict.{most_operations, wordsizes_in_range, settings_in_range}
use Rattle.validation.specs.WellFormed.{WellFormed}
use Rattle.machine.specs.Memory.{Memory, OfBytes, lengths_of, space_of, value_at}
use Rattle.machine.specs.Effect.{operation_at}
use Rattle.machine.specs.Conditions.{Words}
use Rattle.machine.proofs.Conditions.{Destination, Formed, formed, names_bytes, each_space}
use Rattle.machine.proofs.Ranges.{in_range, space_small}
use Rattle.run_memory.specs.Placed.{Placed}
use Rattle.run_plan.specs.Valid.{Valid}
use Rattle.run_plan.specs.Plans.{Movable, Addressable, Branching, Computable}
use Rattle.run_plan.proofs.Opcodes.{each_access, each_branch, access_no_branch, late}

-- a list is valid by the lengths of the spaces alone
pub valid_with : {a b : Lengths} {list : List ℕ} → a ≡ b → Valid b list → Valid a list
valid_with {list = list} e v = subst (λ (l : Lengths). Valid l list) (sym e) v

pub space_length : (m : Memory) (space : ℕ) → length_of (lengths_of m) space ≡ length (space_of m space)
unfolding length_of lengths_of space_of
space_length m space = by (eqb space 2) (eqb space 3) (eqb space 4)
  where
    by : (p q r : Bool) → cond p (length m.unique) (cond q (length m.register) (cond r (length m.ram) 0)) ≡ length (cond p m.unique (cond q m.register (cond r m.ram [])))
    by true q r = refl
    by false true r = refl
    by false false true = refl
    by false false false = refl

module _ (m : Memory) (address_size : ℕ) (list : List ℕ) (i : ℕ) (w : WellFormed address_size (lengths_of m) list i) where
  pub placed : (place : ℕ) → place ≤ most_inputs → (place ≡ 1 → branches (opcode_at list i) ≡ false) → Placed m (varnode_at list i place)
  unfolding absent
  placed place h exempt = by (has_place (opcode_at list i) place) refl
    where
      by : (t : Bool) → has_place (opcode_at list i) place ≡ t → Placed m (varnode_at list i place)
      by true e =
          let p = w.present place h e in
          record {
            size = p.3;
            known = p.1;
            nowhere = λ z. absurd (let s : 1 ≤ (varnode_at list i place).space = p.0 in let y : ⊥ = omega arith in y);
            within = λ l. rw (sym (space_length m (varnode_at list i place).space)) (w.within place h exempt l);
          }
      by false e =
          let a : varnode_at list i place ≡ absent = w.omitted place h e in
          rw a (record { size = omega arith; known = omega arith; nowhere = λ z. refl; within = λ l. absurd (let y : ⊥ = omega arith in y) })

  -- rule 23 of LOAD and STORE
  pub movable : accesses (opcode_at list i) ≡ true → Movable m (operation_at list i)
  unfolding operation_at breaks_place
  movable a =
      let f = access_no_branch (opcode_at list i) a in
      let p = w.placed 1 (omega arith) in
      let q : not (names_space (varnode_at list i 1)) ≡ false = rw a at p in
      let n = names_bytes (varnode_at list i 1) (not-false _ q) in
      record {
        opcode = a;
        space = (n.1, n.2);
        loaded = (placed 0 (omega arith) (λ z. f)).size;
        stored = placed 3 (omega arith) (λ z. f);
      }

  -- rule 25
  sizes : sizes_agree address_size (opcode_at list i) (varnode_at list i 0).size (varnode_at list i 1).size (varnode_at list i 2).size ≡ true
  unfolding breaks_size
  sizes = not-false _ w.sized

  pub computable : (settings : Settings) → Words list → OfBytes m → operation_count list < 2 ^ 64 → accesses (opcode_at list i) ≡ false → branches (opcode_at list i) ≡ false
      → (a b : ℕ) → a ≡ value_at settings m (varnode_at list i 1) → b ≡ value_at settings m (varnode_at list i 2) → Computable (operation_at list i) a b
  unfolding operation_at
  computable settings words bytes small na nb a b ea eb = record {
    known = w.opcode.0;
    no_access = na;
    no_branch = nb;
    operands = λ j n1 d.
        let shape = data_shape (opcode_at list i) (late (opcode_at list i) w.opcode.0 n1 na nb j) w.opcode.1 in
        let out = w.present 0 (omega arith) shape.0 in
        let in0 = w.present 1 (omega arith) shape.1 in
        let f : Formed settings m i (operation_at list i) = formed settings address_size list i m words bytes small w in
        record {
          some = out.2;
          most = out.3;
          some0 = in0.2;
          most0 = in0.3;
          most1 = (placed 2 (omega arith) (λ z. nb)).size;
          below0 = rw ea (f.fits0 nb);
          below1 = rw eb f.fits1;
          address_size = address_size;
          sizes = sizes;
          divisor = d;
        };
  }

  -- the rules 22 and 23 of BRANCH, CBRANCH and CALL
  pub branching : Settings → Words list → OfBytes m → operation_count list < 2 ^ 64 → branches (opcode_at list i) ≡ true → Branching (operation_at list i)
  unfolding operation_at branches member has_place outputs row_of opcodes
  branching settings words bytes small b =
      let f : Formed settings m i (operation_at list i) = formed settings address_size list i m words bytes small w in
      record {
        opcode = b;
        relative = by (f.branch_to b);
        no_output = f.no_output (each_branch (λ k. has_place k 0 ≡ false) refl refl refl (opcode_at list i) b);
      }
    where
      by : Destination i (varnode_at list i 1) → eqb (varnode_at list i 1).space 1 ≡ not (eqb (varnode_at list i 1).space 4)
      by (Destination.in_list s f l) = rw (s, f) refl
      by (Destination.in_ram s f) = rw (s, f) refl

-- ---- settings, lengths and indices

-- the wordsize of a space with bytes
wordsize_in_range : (settings : Settings) → settings_in_range settings ≡ true → (space : ℕ) → 2 ≤ space → space ≤ 4
    → is_size (wordsize_of settings.wordsizes space) ≡ true
unfolding settings_in_range wordsizes_in_range wordsize_of
wordsize_in_range settings e space low high =
    let w = settings.wordsizes in
    let all = (both (leb settings.order 1 && is_size settings.address_size) (is_size w.unique && is_size w.register && is_size w.ram) e).1 in
    let two = both (is_size w.unique && is_size w.register) (is_size w.ram) all in
    let one = both (is_size w.unique) (is_size w.register) two.0 in
    each_space (λ n. is_size (wordsize_of w n) ≡ true) one.0 one.1 two.1 space low high

-- LOAD has an output and STORE an input2, each of at least one byte
moves_some : (n : ℕ) → accesses n ≡ true → (output input2 : Varnode) → (has_place n 0 ≡ true → 1 ≤ output.size) → (has_place n 3 ≡ true → 1 ≤ input2.size)
    → 1 ≤ (cond (eqb n 2) output input2).size
unfolding has_place outputs inputs row_of opcodes
moves_some n a output input2 =
    each_access (λ k. (has_place k 0 ≡ true → 1 ≤ output.size) → (has_place k 3 ≡ true → 1 ≤ input2.size) → 1 ≤ (cond (eqb k 2) output input2).size)
    (λ f g. f refl) (λ f g. g refl) n a

-- LOAD and STORE at a pointer
pub addressable : (settings : Settings) (m : Memory) (list : List ℕ) (i : ℕ) → settings_in_range settings ≡ true → (v : Valid (lengths_of m) list)
    → i < operation_count list → Movable m (operation_at list i) → Addressable settings m (operation_at list i)
unfolding operation_at
addressable settings m list i s v inside h = record {
  wordsize = one_to_eight _ (wordsize_in_range settings s (varnode_at list i 1).offset h.space.0 h.space.1);
  extent = space_small m list v.in_range (varnode_at list i 1).offset;
  some = moves_some (opcode_at list i) h.opcode (varnode_at list i 0) (varnode_at list i 3) (λ e. (w.present 0 (omega arith) e).2) (λ e. (w.present 3 (omega arith) e).2);
}
  where
    w : WellFormed v.address_size (lengths_of m) list i
    w = v.operations i inside

module _ (lengths : Lengths) (list : List ℕ) (v : Valid lengths list) (i : ℕ) (h : i < operation_count list) where
  pub in_words : words_per_operation * i + words_per_operation ≤ length list
  unfolding operation_count
  in_words = omega (arith, div-mul-le_self (length list) words_per_operation)

  pub index_small : i < most_operations
  index_small = omega (arith, (in_range lengths list v.in_range).0)
