-- `run_window::open_window` meets its contract.
use mathlib.Core.Path.{◌∙◌}
use Rattle.machine.specs.Program.{program_of}
use Rattle.run_memory.proofs.Spaces.{same_lengths}
use Rattle.run_window.proofs.GivenBack.{still_fit, given_back}
use Rattle.run_window.proofs.Marks.{may_mark, window_left}
use Rattle.run_window.proofs.open_window.Goals as goal

pub undo-requires : goal.undo-requires
undo-requires c =
    let went = c.run_saved-went.ensures in
    (went.saved.undoable, still_fit (same_lengths went.same.1) went.counts c.requires.7)

pub mark_words-requires : goal.mark_words-requires
mark_words-requires c =
    may_mark (program_of c.args.settings _) _ _ _ _ _ _ c.requires.2 _ _ _ _ c.run_saved-went.ensures.outcome c.requires.0.in_range

pub returns-clause-outcome : goal.returns-clause-outcome
returns-clause-outcome c =
    let went = c.run_saved-went.ensures in
    rw c.mark_words.ensures
    (window_left (program_of c.args.settings _) _ _ _ _ _ _ c.requires.2 _ _ _ _ went.outcome _ _
    (c.undo.ensures.memory ∙ went.saved.bytes) (c.undo.ensures.labels ∙ went.saved.marks))

pub returns-clause-journal : goal.returns-clause-journal
returns-clause-journal c = c.run_saved-went.ensures.saved.spared

pub returns-clause-counts : goal.returns-clause-counts
returns-clause-counts c =
    let went = c.run_saved-went.ensures in
    given_back (same_lengths went.same.1) went.counts c.undo.ensures.counts (c.undo.ensures.labels ∙ went.saved.marks)
    c.are_words-2.ensures c.are_words.ensures
