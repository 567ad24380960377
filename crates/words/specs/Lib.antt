-- Laws of byte lists that everything above `words` cites.
--   Putting  bytes put over a part of a slice
--   Tab      a table made of a function: reading, changing, adding and removing an entry
--   Two      two-byte numbers that were put
--   Read     a number that was read from bytes: what it is, and that it fits its width
pub mod Putting
pub mod Tab
pub mod Two
pub mod Read
