-- The run of a case.
use Rattle.std.specs.Prelude.{replicate}
use Rattle.machine.specs.Calls.{Outcome, labelled_run}
use Rattle.case_reader.specs.Case.{Case}
use Rattle.case_reader.specs.Limits.{log_words, start_index}

-- What the labelled run of a case leaves, with a log of zeros.
unfoldable pub outcome : Case → Outcome
outcome c = labelled_run c.settings c.list start_index c.budget (replicate log_words 0) c.labels c.memory
