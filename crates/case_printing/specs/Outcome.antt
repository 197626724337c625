-- What the case program prints of a run.
use Rattle.std.specs.Prelude.{ℕ, List, ◌++◌, take}
use Rattle.operation.specs.declared.report.Report.{Report}
use Rattle.machine.specs.Memory.{Memory}
use Rattle.machine.specs.Calls.{Outcome}
use Rattle.case_printing.specs.Text.{report_text, log_text, space_lines}

-- Spaces 2, 3, 4 as lines of a kind: 2 for bytes, 3 for labels.
unfoldable pub memory_text : (kind : ℕ) → Memory → List ℕ
memory_text kind m = space_lines kind 2 m.unique ++ space_lines kind 3 m.register ++ space_lines kind 4 m.ram

-- The report in decimal: ending, index, operations executed, log words written, value.
unfoldable pub report_line : Report → List ℕ
report_line r = report_text r.ending r.index r.executed r.logged r.value

-- The report, each log word on a line, then spaces 2, 3, 4 as 02 lines, then all as 03 lines.
unfoldable pub outcome_text : Outcome → List ℕ
outcome_text o =
    report_line o.report ++ log_text (take o.report.logged o.log) ++ memory_text 2 o.memory ++ memory_text 3 o.labels
