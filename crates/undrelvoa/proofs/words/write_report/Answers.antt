use mathlib.Core.Path.{sym}
use native.Mathlib.Omega.{arith}
use Rattle.std.proofs.lemmas.List.Edits.{sets-eq}
use Rattle.undrelvoa.specs.Buffers.{report_words}
use Rattle.undrelvoa.proofs.words.write_report.Goals as goal

pub returns : goal.returns
unfolding report_words
returns c =
    rw (c.copy_from_slice.ensures.after, c.into-numbers.ensures) (sym (sets-eq (report_words c.args.report) c.args.words.now 0 (omega arith)))
