-- What is known of a sheet that passes check.
--   Valid        the parts, in the words of rules
--   FromBytes    bytes that pass check decode to a valid sheet
--   Kinds        kinds of operations, and the parts of a fit
--   Extents      where messages and areas lie
--   Waits        who waits for whom; every request is waited for
--   Areas        a receive that holds its slot has its area to itself
pub mod Valid
pub mod FromBytes
pub mod Kinds
pub mod Extents
pub mod Waits
pub mod Areas
