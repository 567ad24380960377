-- What the functions of this crate ensure, in the order of document 01, and, in proofs/Calls, the laws that join it to promises.
--   Demands    the conclusions of the three demands, of what callers see
--   Carried    a sheet that carries its CRC is not refused with 4
pub mod Demands
pub mod Carried
