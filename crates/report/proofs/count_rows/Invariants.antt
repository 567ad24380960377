-- The invariant of `report::count_rows`.
use Rattle.rules.specs.Sheet.{sheet_in, N_of}
use Rattle.report.specs.ReportCounts.{message_row, receive_row, cut_row, Counted}
use Rattle.report.proofs.count_rows.Given as goal

abbrev pub invariant-loop-i : goal.invariant-loop-i
invariant-loop-i l =
    record {
      messages : Counted (N_of (sheet_in l.s)) (message_row (sheet_in l.s) l.c) l.counts.messages l.i;
      receives : Counted (N_of (sheet_in l.s)) (receive_row (sheet_in l.s) l.c) l.counts.receives l.i;
      cut : Counted (N_of (sheet_in l.s)) (cut_row l.c) l.counts.cut l.i;
    }
