-- What the contracts of this crate cite beside rules, and laws of the field readers.
--   Fields    where the fields of an operation and of a board stand, as equations of numbers
--   Costs     what a message costs in a store beside its bytes
--   Kinds     the number of each kind of operation
--   Refused   what a result says of a refusal, and the number of each rule
pub mod Fields
pub mod Costs
pub mod Kinds
pub mod Refused
