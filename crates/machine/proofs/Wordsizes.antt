-- What input1 stands for; wordsize 1 gives the old answers, and others their known ones.
use Prim.Native.Nat.{ℕ, ◌*◌, ◌-◌, ◌<◌}
use native.Mathlib.Omega.{arith}
use mathlib.Core.Path.{◌≡◌, refl, sym, ap, ◌∙◌}
use mathlib.Core.Bool.{Bool, true, false, cond, ◌&&◌, true≢false, xor}
use mathlib.Core.List.{List, [], ◌∷◌}
use borrow.Author.Tests.{leb-false}
use lib.Dec.{eqb, leb}
use Rattle.word.specs.Sum.{sum, tabulate, digit}
use Rattle.word.specs.Word.{is_size, part, significance, value_of, bytes_of}
use Rattle.integer.specs.Operations.{flag}
use Rattle.arithmetic.specs.Opcodes.{opcodes, row_of, outputs, inputs, sizes_of, has_place, member}
use Rattle.arithmetic.specs.Operands.{divides, agree, sizes_agree}
use Rattle.operation.specs.declared.layout.Settings.{Settings}
use Rattle.operation.specs.Spaces.{Lengths}
use Rattle.operation.specs.Layout.{all_one, wordsize_of, operation_count, word_at, head_byte, spare_at, opcode_at, descriptor_at, offset_at, described_by, varnode_at, absent}
use Rattle.operation.specs.Rules.{breaks_head, describes_varnode, breaks_shape, breaks_shape_at, accesses, branches, jumps, names_space, is_destination, breaks_place, length_of}
use Rattle.operation.specs.Rules.{beyond, breaks_range, breaks_size, relative_target, target_outside, breaks_target}
use Rattle.validation.specs.Verdict.{wordsizes_in_range, settings_in_range, lengths_in_range, any_below, any_place, size_or_target, lowest_rule, first_malformed, refusal_report, malformed, verdict}
use Rattle.validation.proofs.WellFormed.{verdict-zero}
use Rattle.machine.specs.Program.{Program, big_endian}
use Rattle.machine.specs.Memory.{Memory, OfBytes, lengths_of, space_of, with_space, bytes_at, written, value_at, ordered, digits_at}
use Rattle.machine.specs.Effect.{Operation, operation_at, kind_of, sinks, tested, byte_offset, resolved, pointee, sources, target, moves, dropped, origin, entry_from, moved, digits_of, sign_fill, values_of, computed}
use Rattle.machine.specs.Effect.{bytes_written, any_secret, secret, labels_of, label_fill, labels_written}
use Rattle.machine.specs.Run.{ending_of, log_word, logging, access, checked, decided, Position, Stepped, advanced, ended, resolved_value, apply_decision, execute_as, execute, stepped, continued, run}
use Rattle.machine.specs.Calls.{same_lengths, all_labels, labels_in_range, refusal, log_after, outcome_of, starting, called, unlabelled, plain_run, labelled_run}
use Rattle.machine.specs.Conditions.{exceeds_space, low_part, log_word_of, operand1, exact_step, exact_step_within, Words}
use Rattle.machine.specs.Wordsizes.{bytewise_step, bytewise_step_within, AtWordsizeOne, OldAnswers, KnownAnswers}
use Rattle.machine.proofs.Conditions.{names, names_bytes, when, each_space, exact_conditions}

-- ---- what input1 stands for

module _ (program : Program) (m : Memory) (op : Operation) where
  -- of LOAD and STORE
  pub operand_access : accesses op.opcode ≡ true → operand1 program m op ≡ byte_offset program.settings op (value_at program.settings m op.input1)
  unfolding operand1 accesses byte_offset
  operand_access e = rw e refl

  -- of any other
  pub operand_other : accesses op.opcode ≡ false → operand1 program m op ≡ value_at program.settings m op.input1
  unfolding operand1 accesses
  operand_other e = rw e refl

-- ---- wordsize 1

by_one : (settings : Settings) (op : Operation) (pointer : ℕ) → wordsize_of settings.wordsizes op.input0.offset ≡ 1
    → byte_offset settings op pointer ≡ pointer
unfolding byte_offset
by_one settings op pointer e = rw e (let z : pointer * 1 ≡ pointer = omega arith in z)

at_wordsize_one : (settings : Settings) (op : Operation) (pointer : ℕ) → wordsize_of settings.wordsizes op.input0.offset ≡ 1
    → AtWordsizeOne settings op pointer
unfolding pointee exceeds_space log_word_of low_part member
at_wordsize_one settings op pointer e =
    let o = by_one settings op pointer e in
    record {
      offset = o;
      bytes = λ size. rw o refl;
      bounds = λ m size. rw o refl;
      word = λ a i. rw (o, no_condition a) refl;
    }
  where
    no_condition : member op.opcode (2 ∷ 3 ∷ []) ≡ true → eqb op.opcode 5 ≡ false
    no_condition a = when op.opcode 5 (λ f. absurd (let z : true ≡ false = sym a ∙ rw f refl in true≢false z)) (λ n. n)

-- what input1 stands for with wordsize 1 is its value
old_operand : (program : Program) (m : Memory) (op : Operation)
    → (accesses op.opcode ≡ true → wordsize_of program.settings.wordsizes op.input0.offset ≡ 1)
    → operand1 program m op ≡ value_at program.settings m op.input1
old_operand program m op h = by (accesses op.opcode) refl
  where
    by : (t : Bool) → accesses op.opcode ≡ t → operand1 program m op ≡ value_at program.settings m op.input1
    by true e = operand_access program m op e ∙ by_one program.settings op _ (h e)
    by false e = operand_other program m op e

old_step : (program : Program) (op : Operation) (at : Position) (labels m : Memory)
    → (accesses op.opcode ≡ true → wordsize_of program.settings.wordsizes op.input0.offset ≡ 1)
    → exact_step program op at labels m ≡ bytewise_step program op at labels m
unfolding exact_step bytewise_step
old_step program op at labels m h = rw (old_operand program m op h) refl

-- LOAD and STORE of a well-formed list name a space with bytes
named_one : (settings : Settings) (lengths : Lengths) (list : List ℕ) → (verdict settings lengths list).ending ≡ 0 → settings.wordsizes ≡ all_one
    → (i : ℕ) → i < operation_count list → accesses (operation_at list i).opcode ≡ true
    → wordsize_of settings.wordsizes (operation_at list i).input0.offset ≡ 1
unfolding operation_at wordsize_of
named_one settings lengths list v one i inside a =
    let w = (verdict-zero settings lengths list v).2 i inside in
    let n = names_bytes (varnode_at list i 1) (names (opcode_at list i) (varnode_at list i 1) (w.placed 1 (omega arith)) a) in
    rw one (each_space (λ space. wordsize_of all_one space ≡ 1) refl refl refl (varnode_at list i 1).offset n.1 n.2)

old_run : (program : Program) (budget : ℕ) (at : Position) (labels m : Memory) → program.settings.wordsizes ≡ all_one
    → Words program.list → OfBytes m → (verdict program.settings (lengths_of m) program.list).ending ≡ 0
    → run program budget at labels m ≡ continued (run program (budget - 1)) (bytewise_step_within program budget at labels m)
unfolding exact_step_within bytewise_step_within
old_run program budget at labels m one words bytes v =
    exact_conditions program budget at labels m words bytes v ∙ ap (continued (run program (budget - 1))) (by (leb (operation_count program.list) at.index) refl)
  where
    op : Operation
    op = operation_at program.list at.index

    by : (t : Bool) → leb (operation_count program.list) at.index ≡ t
        → cond t (Stepped.halted (ended 0 0 at labels m)) (cond (eqb budget 0) (Stepped.halted (ended 2 0 at labels m)) (exact_step program op at labels m))
        ≡ cond t (Stepped.halted (ended 0 0 at labels m)) (cond (eqb budget 0) (Stepped.halted (ended 2 0 at labels m)) (bytewise_step program op at labels m))
    by true e = refl
    by false e =
        let inside = leb-false (operation_count program.list) at.index e in
        rw (old_step program op at labels m (named_one program.settings (lengths_of m) program.list v one at.index inside)) refl

old_setting : (settings : Settings) → settings.wordsizes ≡ all_one → settings_in_range settings ≡ (leb settings.order 1 && is_size settings.address_size)
unfolding settings_in_range wordsizes_in_range is_size
old_setting settings one = rw one (by (leb settings.order 1 && is_size settings.address_size))
  where
    by : (t : Bool) → t && true ≡ t
    by true = refl
    by false = refl

pub old_answers : OldAnswers
old_answers = record { pointers = at_wordsize_one; operations = old_step; runs = old_run; setting = old_setting }

-- ---- other wordsizes

pub known_answers : KnownAnswers
unfolding xor sum tabulate digit part significance value_of bytes_of flag member divides agree sizes_agree operation_count
    word_at head_byte opcode_at descriptor_at offset_at described_by varnode_at spare_at is_size opcodes row_of outputs inputs sizes_of has_place breaks_head describes_varnode breaks_shape
    breaks_shape_at accesses branches jumps names_space is_destination breaks_place length_of beyond breaks_range breaks_size relative_target target_outside
    breaks_target settings_in_range wordsizes_in_range wordsize_of lengths_in_range any_below any_place size_or_target lowest_rule first_malformed refusal_report malformed lengths_of space_of
    with_space bytes_at written value_at ordered digits_at operation_at absent kind_of sinks tested byte_offset resolved pointee sources target moves dropped origin entry_from
    moved digits_of sign_fill values_of computed bytes_written any_secret secret labels_of label_fill labels_written ending_of log_word logging access checked decided advanced ended resolved_value big_endian apply_decision
    execute_as execute stepped continued run same_lengths all_labels labels_in_range refusal log_after outcome_of starting called unlabelled plain_run labelled_run
known_answers = record {
  load_unique = refl;
  load_register = refl;
  load_ram = refl;
  store_unique = refl;
  store_register = refl;
  store_ram = refl;
  past_unique = refl;
  past_register = refl;
  past_ram = refl;
  wrapped = refl;
  at-2^64 = refl;
  largest = refl;
  stored_label = refl;
  loaded_label = refl;
}
