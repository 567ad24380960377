-- Refusals 1 to 7 as the code finds them.
--   Boards    refusal 5 as a walk over the board table
--   Scripts   the search script by script, by what a closure answers of each
pub mod Boards
pub mod Scripts
