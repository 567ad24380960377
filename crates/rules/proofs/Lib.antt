-- What of rules is proved: that the bench of specs/ holds.
--   BenchPremise   sheets that premise is asked about, under one claim
--   Bench          the jobs, the calls and the rooms, each under one claim
pub mod BenchPremise
pub mod Bench
