-- An able step keeps each part of the invariant.
--   Places          places of boards, and which operations are entered
--   StepCount       steps taken
--   ArrivalOrder    the order of arrival
--   Rows            the rows of operations
--   WaitingLists    pending messages and posted receives
--   Charges         bytes in use
--   Covered         a store that covers all its messages has room for the next
--   Kept            whether an unmatched send is kept in a store
--   Memory          the inboxes
--   SameRows        jobs with the same rows
--   Told            what probes and queries told
--   OngoingSteps    the three ways to step without stopping
--   Stop            a stopping step
--   Step            an able step keeps the whole invariant
--   Orders          the start has it, and an order keeps it
pub mod Places
pub mod StepCount
pub mod ArrivalOrder
pub mod Rows
pub mod WaitingLists
pub mod Charges
pub mod Covered
pub mod Kept
pub mod Memory
pub mod SameRows
pub mod Told
pub mod OngoingSteps
pub mod Stop
pub mod Step
pub mod Orders
