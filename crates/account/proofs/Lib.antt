-- The theorems of account.
--   Boards    a board's accounts move under every step as accounts do: one law
pub mod Boards
