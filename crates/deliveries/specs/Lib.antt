-- Deliveries from the rows.
--   Deliveries   copies into parts of the inboxes, in script order, are the job's memory
pub mod Deliveries
