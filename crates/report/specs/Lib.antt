-- The report, stretch by stretch.
--   Numbers        the numbers of the states of a board and of the verdicts
--   ReportRows     rows of a report, one after another
--   ReportCounts   pending messages, pending receives and cut messages, counted over the rows
--   Report         board states, the verdict, and the stretches of a report side by side
pub mod Numbers
pub mod ReportRows
pub mod ReportCounts
pub mod Report
