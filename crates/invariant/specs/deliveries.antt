-- The bytes that matches copy.
--   Laws       what the proofs about steps use of bytes and areas, as one record
--   Commute    deliveries byte by byte, and which of them commute: the record, proved
pub mod Laws
pub mod Commute
