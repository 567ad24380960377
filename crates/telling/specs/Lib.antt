-- What probes and queries find and tell.
--   Telling   what is found in scratch is what rules finds, and the row of an operation that is only a waiting half
pub mod Telling
