use Rattle.std.proofs.Common.{◌≡◌, length, get_or, arith, rules}
use Rattle.case_printing.specs.Text.{word_line, word_line_length, log_text}
use Rattle.case_printing.proofs.Appending.{grown, concatenated_none, concatenated_then}
use Rattle.case_printing.proofs.Lengths.{length_word, length_log, concatenated_most}
use Rattle.case_printing.proofs.text.put_log.Goals as goal

pub loop-word-init : goal.loop-word-init
loop-word-init g c = concatenated_none _ _

pub put_word-requires : goal.put_word-requires
put_word-requires g c =
    let words = c.args.words.now in
    let l = c.loop-word in
    let so_far = concatenated_most word_line_length l.word-index (λ i. word_line (get_or words i 0)) (λ i. omega (arith, length_word (get_or words i 0))) in
    (search rules, omega (arith, grown l.invariant, so_far))

pub loop-word-preserved : goal.loop-word-preserved
loop-word-preserved g c = concatenated_then _ _ c.loop-word.invariant c.put_word.ensures

pub returns : goal.returns
unfolding log_text
returns g c =
    let words = c.args.words.now in
    let e : c.loop-word.word-index ≡ length words = omega arith in
    let put = rw e at c.loop-word.invariant in
    record {
      appended = put;
      upper_bound = omega (arith, grown put, length_log words);
    }
