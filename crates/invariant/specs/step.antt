-- What one step does.
--   Places        where the boards stand after it
--   Position      where a board stands, as one number
--   BufferUse     bytes in use after a charge or a release
--   Cases         the six ways that a step can go
--   CasesHold     a step of an able board goes one of them
--   LowestAble    the search for the lowest rank that is able
pub mod Places
pub mod Position
pub mod BufferUse
pub mod Cases
pub mod CasesHold
pub mod LowestAble
