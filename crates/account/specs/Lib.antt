-- The account of a store.
--   Stores    the two stores of a board, by the names that the code has for them
--   Accounts  accounts, and what a charge and a release leave, by the charges and releases of rules
--   Boards    what a step does to a board's accounts; proofs/Boards has the law that they move so under every step
pub mod Stores
pub mod Accounts
pub mod Boards
