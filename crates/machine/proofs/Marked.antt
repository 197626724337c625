-- The marked results, by computation.
use mathlib.Core.Path.{refl}
use mathlib.Core.Bool.{xor}
use Rattle.word.specs.Sum.{sum, tabulate, digit}
use Rattle.word.specs.Word.{is_size, part, significance, value_of, bytes_of}
use Rattle.integer.specs.Integers.{signed, wrap, negative, overflows, with_sign, quotient, remainder}
use Rattle.integer.specs.Operations.{flag, piece, subpiece, popcount, int_add, int_sub, int_carry, int_scarry, int_sborrow, int_left, int_sright, int_sdiv, int_srem}
use Rattle.arithmetic.specs.Opcodes.{opcodes, row_of, outputs, inputs, sizes_of, has_place, member}
use Rattle.arithmetic.specs.Operands.{divides, agree, sizes_agree}
use Rattle.arithmetic.specs.Result.{lookup, integer_results, result_of}
use Rattle.operation.specs.Layout.{operation_count, word_at, head_byte, spare_at, opcode_at, descriptor_at, offset_at, described_by, varnode_at, absent}
use Rattle.operation.specs.Rules.{breaks_head, describes_varnode, breaks_shape, breaks_shape_at, accesses, branches, jumps, names_space, is_destination, breaks_place, length_of}
use Rattle.operation.specs.Rules.{beyond, breaks_range, breaks_size, relative_target, target_outside, breaks_target}
use Rattle.validation.specs.Verdict.{settings_in_range, lengths_in_range, any_below, any_place, size_or_target, lowest_rule, first_malformed, refusal_report, malformed, wordsizes_in_range}
use Rattle.machine.specs.Program.{big_endian}
use Rattle.machine.specs.Memory.{lengths_of, space_of, with_space, bytes_at, written, value_at, ordered, digits_at}
use Rattle.machine.specs.Effect.{operation_at, kind_of, sinks, tested, resolved, pointee, sources, target, moves, dropped, origin, entry_from, moved, digits_of, sign_fill, values_of, computed, bytes_written}
use Rattle.machine.specs.Effect.{any_secret, secret, labels_of, label_fill, labels_written}
use Rattle.machine.specs.Run.{ending_of, index_of, go_to, checked, decided, advanced, ended, resolved_value, apply_decision, execute_as, execute, stepped, continued, run}
use Rattle.machine.specs.Calls.{refusal, log_after, outcome_of, starting, called, unlabelled, plain_run}
use Rattle.machine.specs.Marked.{Marked}

pub marked : Marked
unfolding xor sum tabulate digit part significance value_of bytes_of signed wrap negative overflows with_sign quotient remainder flag piece subpiece
    popcount int_add int_sub int_carry int_scarry int_sborrow int_left int_sright int_sdiv int_srem member divides agree sizes_agree lookup integer_results result_of operation_count
    word_at head_byte opcode_at descriptor_at offset_at described_by varnode_at spare_at is_size opcodes row_of outputs inputs sizes_of has_place breaks_head describes_varnode breaks_shape
    breaks_shape_at accesses branches jumps names_space is_destination breaks_place length_of beyond breaks_range breaks_size relative_target target_outside
    breaks_target settings_in_range wordsizes_in_range lengths_in_range any_below any_place size_or_target lowest_rule first_malformed refusal_report malformed lengths_of space_of
    with_space bytes_at written value_at ordered digits_at operation_at absent kind_of sinks pointee sources target moves dropped origin entry_from
    moved digits_of sign_fill values_of computed bytes_written any_secret secret labels_of label_fill labels_written ending_of index_of go_to checked decided advanced ended resolved_value resolved tested big_endian apply_decision
    execute_as execute stepped continued run refusal log_after outcome_of starting called unlabelled plain_run
marked = record {
  add_wraps = (refl, refl);
  add_carries = (refl, refl);
  add_has_no_signed_carry = (refl, refl);
  add_to_the_sign = (refl, refl);
  signed_carry = (refl, refl);
  sub_from_the_sign = (refl, refl);
  signed_borrow = (refl, refl);
  signed_quotient = (refl, refl);
  signed_remainder = (refl, refl);
  least_quotient = (refl, refl);
  least_remainder = (refl, refl);
  left_by_31 = (refl, refl);
  left_by_32 = (refl, refl);
  signed_right_by_14 = (refl, refl);
  signed_right_by_16 = (refl, refl);
  subpiece_drops_1 = (refl, refl);
  subpiece_drops_4 = (refl, refl);
  piece = (refl, refl);
  popcount = (refl, refl);
  branch = (refl, refl);
  copy_overlapping = (refl, refl);
}
