use Rattle.std.proofs.Common.{Some, sym, ap, arith, ◌∙◌}
use Rattle.std.proofs.lemmas.Result.{err_from_is_err_and}
use Rattle.case_reader.specs.Buffers.{case_in}
use Rattle.case_reader.proofs.Feeding.{none_added, opening_added, on_line, in_memory, in_labels, words_line, next_part, full, one_more}
use Rattle.case_reader.proofs.buffers.Buffers.add.Goals as goal

pub returns-in_err-ok_or-clause-added : goal.returns-in_err-ok_or-clause-added
returns-in_err-ok_or-clause-added c =
    let p = err_from_is_err_and c.from_residual.result c.from_residual.ensures.1 in
    λ n. rw p.1 (none_added n _ c.args.self.now (sym c.frame_of.ensures.answer ∙ c.in_err-ok_or.ensures.ok_part))

pub returns-in-Opening-clause-added : goal.returns-in-Opening-clause-added
returns-in-Opening-clause-added c =
    let e = sym c.frame_of.ensures.answer ∙ c.in_ok-ok_or.ensures.ok_part ∙ ap Some c.in-Opening.is in
    λ n. opening_added n _ c.args.self.now _ _ _ e

pub store-requires-clause-on_line : goal.store-requires-clause-on_line
store-requires-clause-on_line c =
    on_line c.args.self.now _ _ _ _ _ (sym c.frame_of.ensures.answer ∙ c.in_ok-ok_or.ensures.ok_part ∙ ap Some c.in-Bytes.is)

pub store-requires-in-Labels-clause-on_line : goal.store-requires-in-Labels-clause-on_line
store-requires-in-Labels-clause-on_line c =
    on_line c.args.self.now _ _ _ _ _ (sym c.frame_of.ensures.answer ∙ c.in_ok-ok_or.ensures.ok_part ∙ ap Some c.in-Bytes.is)

pub returns-in-Memory-clause-added : goal.returns-in-Memory-clause-added
unfolding case_in
returns-in-Memory-clause-added c =
    let e = sym c.frame_of.ensures.answer ∙ c.in_ok-ok_or.ensures.ok_part ∙ ap Some c.in-Bytes.is in
    in_memory c.args.self.now _ _ _ _ _ e c.in-Memory.is _ _ c.store.ensures.ok c.store.ensures.err

pub returns-in-Labels-clause-added : goal.returns-in-Labels-clause-added
unfolding case_in
returns-in-Labels-clause-added c =
    let e = sym c.frame_of.ensures.answer ∙ c.in_ok-ok_or.ensures.ok_part ∙ ap Some c.in-Bytes.is in
    in_labels c.args.self.now _ _ _ _ _ e c.in-Labels.is _ _ c.store-in-Labels.ensures.ok c.store-in-Labels.ensures.err

pub returns-then-self-eq-MOST_CASE_OPERATIONS-clause-added : goal.returns-then-self-eq-MOST_CASE_OPERATIONS-clause-added
returns-then-self-eq-MOST_CASE_OPERATIONS-clause-added c =
    let e = sym c.frame_of.ensures.answer ∙ c.in_ok-ok_or.ensures.ok_part ∙ ap Some c.in-Operation.is in
    full c.args.self.now _ e (omega arith) c.if-self-eq-MOST_CASE_OPERATIONS.true

pub store_words-requires : goal.store_words-requires
store_words-requires c =
    let e = sym c.frame_of.ensures.answer ∙ c.in_ok-ok_or.ensures.ok_part ∙ ap Some c.in-Operation.is in
    (words_line c.args.self.now _ e, next_part c.args.self.now _ e (omega arith) (omega (arith, c.if-self-eq-MOST_CASE_OPERATIONS.false)))

pub returns-else-self-eq-MOST_CASE_OPERATIONS-clause-added : goal.returns-else-self-eq-MOST_CASE_OPERATIONS-clause-added
unfolding case_in
returns-else-self-eq-MOST_CASE_OPERATIONS-clause-added c =
    let e = sym c.frame_of.ensures.answer ∙ c.in_ok-ok_or.ensures.ok_part ∙ ap Some c.in-Operation.is in
    one_more c.args.self.now _ e (omega arith) (omega (arith, c.if-self-eq-MOST_CASE_OPERATIONS.false)) c.store_words.ensures
