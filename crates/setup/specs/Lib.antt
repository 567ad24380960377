-- Scratch at the start of a job.
--   SetupTables   the tables of ranks and waits, filled script by script
--   SetupWalk     the walk that fills them, and the start that then stands in scratch
pub mod SetupTables
pub mod SetupWalk
