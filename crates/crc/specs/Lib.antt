-- What the contracts and proofs of this crate cite beside rules.
--   Remainders   the CRC table and its rule
--   Short        the CRC of bytes that end before a header does
pub mod Remainders
pub mod Short
