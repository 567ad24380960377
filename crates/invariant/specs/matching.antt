-- The matching that the rows of a job hold.
--   Monotone          a stable matching only grows: what is matched stays matched alike
--   RowChanges        what a step does to the rows
--   Stable            a step keeps the matching stable
--   Earliest          a new match took the earliest on both sides
--   UnmatchedState    the state of an entered operation that is not matched
pub mod Monotone
pub mod RowChanges
pub mod Stable
pub mod Earliest
pub mod UnmatchedState
