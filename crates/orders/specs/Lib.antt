-- What the contracts of this crate's functions cite beside rules, and the laws that their proofs cite.
--   Jobs      what holds of every job that stands in scratch, and whatever inboxes are lent
--   Optional  an index that code may have as rules has it
--   Lowest    the lowest rank that is able
--   Follows   an order followed in scratch
--   Runs      a run in scratch
pub mod Jobs
pub mod Optional
pub mod Lowest
pub mod Follows
pub mod Runs
