-- The proofs of the claims, of a sheet's bytes and the lent inboxes.
--   Deliveries    memory byte by byte
--   Verdicts      each verdict exactly when it should be given
--   RequestsLeft  verdict 1 leaves no request
--   Figures       buffer use, its peak, and steps
--   OneJob        demand 2 of one job
--   Matching      demand 2 of its matching
--   Telling       what probes and queries told, and the receive after a probe
--   Arrivals      arrival decides, across senders
--   Stops         why a job stopped, and what the stopping step changed
--   RunEnds       a run ends
--   Calls         what a call of follow or run has answered
--   ReportTells   a report tells what its job does
--   Services      demand 3 of the services, from demand 3 of the orders
--   EndsAlike     full orders end alike
--   Reported      demand 2 of the services
--   Replays       the order that a run wrote, followed
--   Editions      sheets without rooms, in both editions
--   SwapGeneral   harmless steps exchanged, on any sheet
--   SwapAnySource exchanged steps where receives are from any source
--   SwapSame      exchanged steps on calm sheets
--   Classes       orders that exchanges lead to one another
pub mod Deliveries
pub mod Verdicts
pub mod RequestsLeft
pub mod Figures
pub mod OneJob
pub mod Matching
pub mod Telling
pub mod Arrivals
pub mod Stops
pub mod RunEnds
pub mod Calls
pub mod ReportTells
pub mod Services
pub mod EndsAlike
pub mod SwapGeneral
pub mod SwapAnySource
pub mod SwapSame
pub mod Classes
pub mod Reported
pub mod Replays
pub mod Editions
