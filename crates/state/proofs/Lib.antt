-- The theorems of state that rest on where each part of a job stands in scratch.
--   Indexed       what changes and passes of the loops leave of the tables of ranks and of waits
--   Decodes       what each change of scratch and its control block does to the job, in the words of rules
--   ChangesHold   changes in two places, a place changed by a function, a charge
--   StartHolds    the start of a job
pub mod Indexed
pub mod Decodes
pub mod ChangesHold
pub mod StartHolds
