-- A job in lent scratch.
--   Layout   where each part stands
--   Numbers  the numbers of states, and of verdicts that stop a job
--   Decoded  what the bytes decode to
--   Rows     operation rows put and read
--   Written  the rows as they stand are the report's rows
--   Places   board places put and read
--   Lists    the waiting lists: searched, an entry appended, an entry removed
--   Indexed  the tables of ranks and of waits (Indexed, Decodes, Changes, Start: what is proved of them stands in proofs/)
--   Controls  the numbers that are kept beside scratch
--   Queues   the two waiting lists as one
--   Decodes  scratch and its control block hold a job; in proofs/ what each change of them does to the job, in the words of rules
--   Changes  in what words changes in two places, a place changed by a function and a charge are told
--   Charged  a store charged and released by its account
--   Start    the start of a job
pub mod Layout
pub mod Numbers
pub mod Decoded
pub mod Rows
pub mod Written
pub mod Places
pub mod Lists
pub mod Indexed
pub mod Controls
pub mod Queues
pub mod Decodes
pub mod Changes
pub mod Charged
pub mod Start
