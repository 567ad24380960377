-- What the searches for C answer.
--   Places   a place as a number, and the search through three slices of any lengths
--   Jobs     the place that the engine's search finds in a job
pub mod Places
pub mod Jobs
