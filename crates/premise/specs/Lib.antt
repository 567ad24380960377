-- The premise of demand 3 as the code finds it.
--   Charges   the charges of a script, added up operation by operation
pub mod Charges
