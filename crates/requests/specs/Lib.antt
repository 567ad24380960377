-- Refusal 7 by a table of slots.
--   Slots      what an operation asks of the table and changes in it
--   Requests   the table is right, so its answer is rule 7's
--   Forgotten  forgotten requests, by a walk from a script's end
pub mod Slots
pub mod Requests
pub mod Forgotten
