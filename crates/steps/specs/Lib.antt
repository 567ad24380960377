-- What the parts of a step ask and do, in the words of rules.
--   Able        whether a board is able, test by test
--   Parts       the ends of an initiating step and of a waiting half; a release
--   Pairing     an operation and the one that it found in a waiting list
--   Initiate    what the invariant gives, and rules' initiating step by what was found
--   Unmatched   a send that nothing fits, by its mode
--   Pending     an operation that becomes pending, and a job that stops
--   Turn        a whole step
pub mod Able
pub mod Parts
pub mod Pairing
pub mod Initiate
pub mod Unmatched
pub mod Pending
pub mod Turn
