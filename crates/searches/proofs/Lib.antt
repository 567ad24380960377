-- The theorems of searches.
--   Jobs    what the searches in a job find, step by step of the loop that counts them, is what its definitions say
pub mod Jobs
