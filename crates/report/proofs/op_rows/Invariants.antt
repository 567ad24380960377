-- The invariant of `report::op_rows`.
use Rattle.report.specs.ReportRows.{row_in, Rowing}
use Rattle.report.proofs.op_rows.Given as goal

abbrev pub invariant-loop-i : goal.invariant-loop-i
invariant-loop-i l = Rowing (row_in l.c) l.at l.initial.out l.out l.i
