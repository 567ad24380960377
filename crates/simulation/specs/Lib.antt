-- How scratch and the control block hold a job, and what a function does to every job that they hold.
--   Represents   they hold a job that an order leads to, of a sheet that passes check
--   Simulates    what a function asks and does, and how such functions follow one another
pub mod Represents
pub mod Simulates
