-- What a run divides does not depend on secret bytes.
use Prim.Native.Nat.{ℕ, zero, suc}
use mathlib.Core.Path.{◌≡◌, refl, sym, ap, ◌∙◌}
use mathlib.Core.Bool.{Bool, true, false, cond, true≢false}
use mathlib.Core.List.{List, [], ◌∷◌, ◌++◌}
use borrow.Author.Tests.{lt-ltb}
use lib.Dec.{ltb}
use Rattle.integer.proofs.Booleans.{or_commutes}
use Rattle.word.specs.Sum.{sum, tabulate, digit}
use Rattle.word.specs.Word.{part, significance, value_of, bytes_of}
use Rattle.integer.specs.Operations.{int_div}
use Rattle.arithmetic.specs.Opcodes.{member}
use Rattle.arithmetic.specs.Operands.{divides}
use Rattle.arithmetic.specs.Result.{lookup, integer_results, result_of}
use Rattle.operation.specs.declared.layout.Varnode.{Varnode}
use Rattle.operation.specs.Layout.{operation_count, word_at, head_byte, opcode_at, descriptor_at, offset_at, described_by, varnode_at}
use Rattle.operation.specs.Rules.{branches, jumps}
use Rattle.machine.specs.Program.{Program, big_endian}
use Rattle.machine.specs.Memory.{Memory, spaces, space_of, with_space, bytes_at, written, value_at}
use Rattle.machine.specs.Effect.{Operation, Kind, operation_at, kind_of, sinks, tested, resolved, sources, target, moves, values_of, computed, bytes_written}
use Rattle.machine.specs.Effect.{any_secret, secret, labels_written}
use Rattle.machine.specs.Run.{Position, Ended, Stepped, ending_of, checked, decided, advanced, ended, resolved_value, apply_decision, execute_as, execute, stepped, continued, run}
use Rattle.machine.specs.Calls.{starting, unlabelled}
use Rattle.machine.specs.Conditions.{has_secret}
use Rattle.machine.specs.Divisions.{division_at, divided_after, divided, two_divisions, PublicDivisions}
use Rattle.machine.proofs.Cases.{either}
use Rattle.machine.proofs.Pointwise.{Spaces}
use Rattle.machine.proofs.Secrecy.{Public, public_values, stepped-view}
use Rattle.machine.proofs.Secrecy as secrecy
use Rattle.machine.proofs.Plain.{stepped_same}
use Rattle.machine.proofs.Plain as plain
use Rattle.machine.proofs.Noninterference.{spaces_from}
use Rattle.machine.proofs.Conditions.{when, no_division, two_secret, division_secret}

-- ---- a division's operands must be public

division_kind : (n : ℕ) → divides n ≡ true → kind_of n ≡ Kind.divide
unfolding kind_of branches jumps divides member
division_kind n d =
    when n 35 (λ e. rw e refl) (λ n35. when n 36 (λ e. rw e refl) (λ n36. when n 37 (λ e. rw e refl) (λ n37. when n 38 (λ e. rw e refl) (λ n38.
    absurd (true≢false (sym d ∙ no_division n n35 n36 n37 n38))))))

-- a secret byte is in what an operation must find public
abbrev pub finds_secret : Operation → Memory → Bool
finds_secret op labels = secret labels (sinks (kind_of op.opcode) op)

division_finds : (labels : Memory) (op : Operation) → divides op.opcode ≡ true → finds_secret op labels ≡ secret labels (op.input0 ∷ op.input1 ∷ [])
division_finds labels op d =
    ap (λ (k : Kind). secret labels (sinks k op)) (division_kind op.opcode d)
    ∙ division_secret labels op ∙ or_commutes (has_secret labels op.input1) (has_secret labels op.input0)
    ∙ sym (two_secret labels op.input0 op.input1)

division_view : {labels m n : Memory} → Spaces Public labels m n → (program : Program) (i : ℕ)
    → finds_secret (operation_at program.list i) labels ≡ false → division_at program i m ≡ division_at program i n
unfolding division_at
division_view {labels} {m} {n} r program i h = by (divides op.opcode) refl
  where
    op : Operation
    op = operation_at program.list i

    operands : List Varnode
    operands = op.input0 ∷ op.input1 ∷ []

    by : (t : Bool) → divides op.opcode ≡ t
        → cond t (i ∷ values_of program.settings m operands) [] ≡ cond t (i ∷ values_of program.settings n operands) []
    by false d = refl
    by true d = ap (λ (vs : List ℕ). i ∷ vs) (public_values r program.settings operands (sym (division_finds labels op d) ∙ h))

-- LEAK is looked at first
leak_halts : (program : Program) (at : Position) (labels m : Memory) → finds_secret (operation_at program.list at.index) labels ≡ true
    → execute program (operation_at program.list at.index) at labels m ≡ Stepped.halted (ended 31 0 at labels m)
unfolding execute execute_as decided apply_decision ending_of
leak_halts program at labels m h = rw h refl

-- ---- two memories

pub leak_divides_nothing : (division : List ℕ) (f : Position → Memory → Memory → List ℕ) (program : Program) (at : Position) (labels m : Memory)
    → finds_secret (operation_at program.list at.index) labels ≡ true → divided_after division f (stepped program at labels m) ≡ []
unfolding divided_after stepped
leak_divides_nothing division f program at labels m h =
    either (λ (s : Stepped). divided_after division f s ≡ []) (ltb at.index (operation_count program.list)) _ _
    (rw (leak_halts program at labels m h) refl) refl

after-view : (division : List ℕ) (f : Position → Memory → Memory → List ℕ)
    → ((at : Position) (labels m n : Memory) → Spaces Public labels m n → f at labels m ≡ f at labels n)
    → {a b : Stepped} → secrecy.SameSteps a b → divided_after division f a ≡ divided_after division f b
unfolding divided_after
after-view division f h (secrecy.halts v) = refl
after-view division f h (secrecy.goes {at} {labels} {m} {n} r) = ap (λ (rest : List ℕ). division ++ rest) (h at labels m n r)

-- an operation that leaks divides nothing, any other divides the same; `a` and `b` are what it does in the two memories
pub step_view : (program : Program) {labels m n : Memory} → Spaces Public labels m n → (i : ℕ) (f : Position → Memory → Memory → List ℕ)
    → ((at : Position) (labels m n : Memory) → Spaces Public labels m n → f at labels m ≡ f at labels n)
    → {a b : Stepped} → secrecy.SameSteps a b
    → ((division : List ℕ) → finds_secret (operation_at program.list i) labels ≡ true → (divided_after division f a ≡ []) × (divided_after division f b ≡ []))
    → divided_after (division_at program i m) f a ≡ divided_after (division_at program i n) f b
step_view program {labels} {m} {n} r i f h {a} {b} s none = by (finds_secret (operation_at program.list i) labels) refl
  where
    by : (t : Bool) → finds_secret (operation_at program.list i) labels ≡ t → divided_after (division_at program i m) f a ≡ divided_after (division_at program i n) f b
    by true g = (none (division_at program i m) g).0 ∙ sym (none (division_at program i n) g).1
    by false g = rw (division_view r program i g) (after-view _ f h s)

pub divided-view : (program : Program) (budget : ℕ) (at : Position) (labels m n : Memory) → Spaces Public labels m n
    → divided program budget at labels m ≡ divided program budget at labels n
unfolding divided
divided-view program zero at labels m n r = refl
divided-view program (suc budget) at labels m n r =
    step_view program r at.index (divided program budget) (λ at' l m' n' r'. divided-view program budget at' l m' n' r') (stepped-view program r at)
    (λ division g. (leak_divides_nothing division (divided program budget) program at labels m g, leak_divides_nothing division (divided program budget) program at labels n g))

-- ---- the plain run

after_same : (division : List ℕ) (f : Position → Memory → Memory → List ℕ) (g : Position → Memory → Memory → Ended)
    → ((at : Position) (labels m : Memory) → ((g at labels m).ending ≡ 31 → ⊥) → f at unlabelled m ≡ f at labels m)
    → {a b : Stepped} → plain.SameSteps a b → ((continued g b).ending ≡ 31 → ⊥) → divided_after division f a ≡ divided_after division f b
unfolding divided_after continued
after_same division f g h (plain.leaks e) ne = absurd (ne e)
after_same division f g h (plain.halts v) ne = refl
after_same division f g h (plain.goes {at} {labels} {m}) ne = ap (λ (rest : List ℕ). division ++ rest) (h at labels m ne)

divided_same : (program : Program) (budget : ℕ) (at : Position) (labels m : Memory) → ((run program budget at labels m).ending ≡ 31 → ⊥)
    → divided program budget at unlabelled m ≡ divided program budget at labels m
unfolding divided run
divided_same program zero at labels m ne = refl
divided_same program (suc budget) at labels m ne =
    after_same _ (divided program budget) (run program budget) (λ at' l m' ne'. divided_same program budget at' l m' ne') (stepped_same program labels m at) ne

-- ---- what is told is what is read, in order

division_reads : (program : Program) (i offset : ℕ) (m : Memory)
    → (let op = operation_at program.list i in
    divides op.opcode ≡ true → division_at program i m ≡ i ∷ values_of program.settings m (sources (kind_of op.opcode) op offset))
unfolding division_at sources
division_reads program i offset m d = rw (d, division_kind (operation_at program.list i).opcode d) refl

in_order : divided two_divisions 2 (starting 0 0) unlabelled (spaces [] (0xf9 ∷ 0x02 ∷ 0xaa ∷ 0xaa ∷ []) [])
    ≡ 0 ∷ 0xf9 ∷ 0x02 ∷ 1 ∷ 0x7c ∷ 0x02 ∷ []
unfolding sum tabulate digit part significance value_of bytes_of int_div member divides lookup integer_results result_of operation_count word_at head_byte
    opcode_at descriptor_at offset_at described_by varnode_at branches jumps space_of with_space bytes_at written value_at operation_at kind_of sinks tested
    resolved sources target moves values_of computed bytes_written any_secret secret labels_written checked decided advanced resolved_value big_endian
    apply_decision execute_as execute stepped starting unlabelled division_at divided_after divided
in_order = refl

pub public_divisions : PublicDivisions
unfolding run stepped continued
public_divisions = record {
  reads = division_reads;
  in_order = in_order;
  stops = λ program budget at labels m l d s.
      rw (lt-ltb at.index (operation_count program.list) l, leak_halts program at labels m (division_finds labels (operation_at program.list at.index) d ∙ s)) refl;
  labelled = λ program budget at labels first second t l. divided-view program budget at labels first second (spaces_from t l);
  plain = divided_same;
}
