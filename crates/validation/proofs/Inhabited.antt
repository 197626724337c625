-- Every opcode has a well-formed operation, by computation.
use Prim.Native.Nat.{ℕ, suc, ◌-◌, ◌<◌}
use native.Mathlib.Omega.{arith}
use mathlib.Core.Path.{◌≡◌, refl, sym, ap, ◌∙◌}
use mathlib.Core.Bool.{xor}
use mathlib.Core.List.{List}
use lib.ListN.{get_or}
use Rattle.word.specs.Sum.{tabulate, digit}
use Rattle.word.specs.Word.{is_size}
use Rattle.word.proofs.Sums.{tabulate_at}
use Rattle.integer.specs.Integers.{signed}
use Rattle.arithmetic.specs.Opcodes.{last_opcode, opcodes, row_of, outputs, inputs, sizes_of, has_place, member}
use Rattle.arithmetic.specs.Operands.{agree, sizes_agree}
use Rattle.operation.specs.Layout.{all_one, operation_count, word_at, head_byte, spare_at, opcode_at, descriptor_at, offset_at, described_by, varnode_at}
use Rattle.operation.specs.Rules.{breaks_head, describes_varnode, breaks_shape, breaks_shape_at, accesses, branches, jumps, names_space, is_destination, breaks_place, length_of}
use Rattle.operation.specs.Rules.{beyond, breaks_range, breaks_size, relative_target, target_outside, breaks_target}
use Rattle.validation.specs.Verdict.{settings_in_range, lengths_in_range, any_below, any_place, size_or_target, lowest_rule, first_malformed, refusal_report, malformed, verdict, wordsizes_in_range}
use Rattle.validation.specs.Inhabited.{output_descriptor, part_of_head, example, Inhabited}

-- the ending of an opcode's example
abbrev ending : (opcode : ℕ) → ℕ
ending opcode = (verdict (record { order = 0; address_size = 1; wordsizes = all_one }) (record { unique = 0; register = 2; ram = 0 }) (example opcode)).ending

all_zero : tabulate last_opcode (λ k. ending (suc k)) ≡ tabulate last_opcode (λ k. 0)
unfolding xor tabulate digit is_size signed opcodes row_of outputs inputs sizes_of has_place member agree sizes_agree operation_count word_at head_byte spare_at
    opcode_at descriptor_at offset_at described_by varnode_at breaks_head describes_varnode breaks_shape breaks_shape_at accesses branches jumps names_space
    is_destination breaks_place length_of beyond breaks_range breaks_size relative_target target_outside breaks_target settings_in_range wordsizes_in_range lengths_in_range any_below
    any_place size_or_target lowest_rule first_malformed refusal_report malformed verdict output_descriptor part_of_head example
all_zero = refl

pub inhabited : Inhabited
inhabited opcode low high =
    let h : opcode - 1 < last_opcode = omega arith in
    let e : opcode ≡ suc (opcode - 1) = omega arith in
    ap ending e ∙ sym (tabulate_at last_opcode (λ k. ending (suc k)) (opcode - 1) h) ∙ ap (λ (l : List ℕ). get_or l (opcode - 1) 0) all_zero
    ∙ tabulate_at last_opcode (λ k. 0) (opcode - 1) h
