-- The invariant of `report::board_rows`.
use Rattle.rules.specs.Limits.{report_header_size}
use Rattle.rules.specs.Sheet.{sheet_in}
use Rattle.rules.specs.Report.{board_row}
use Rattle.orders.specs.Jobs.{Every}
use Rattle.report.specs.ReportRows.{Rowing}
use Rattle.report.proofs.board_rows.Given as goal

abbrev pub invariant-loop-r : goal.invariant-loop-r
invariant-loop-r l =
    Every l.s l.c l.t (λ x. Rowing (board_row l.second (sheet_in l.s) x) report_header_size l.initial.out l.out l.r)
