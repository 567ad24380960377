-- The search of a waiting list.
--   Search      what a search over a list in scratch has found is what rules' searches find
--   Held        a job that is held can be searched
--   Candidates  an operation of the list, beside what was read before the search
pub mod Search
pub mod Held
pub mod Candidates
