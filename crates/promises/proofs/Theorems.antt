-- Each claim of Statements, ProbeStatements, ServiceStatements, ExchangeStatements and EditionStatements under its name in small
-- letters, proved.
--   demand 2             none_fit, no_overtaking, no_overtaking_receives, statuses, send_statuses (claims.Matching);
--                        probes, queries, told_at_its_step, probe_then_receive, told_then_received (claims.Telling);
--                        by_arrival (claims.Arrivals); stop_reasons, stopping_steps (claims.Stops);
--                        deliveries, verdicts, no_request_left, steps, counts, in_use, kept_in_one, peaks, buffers_hold
--                        (claims.OneJob)
--   run, demand 3        run_ends, ends_alike (claims.EndsAlike); swap_same (claims.SwapSame)
--   of the services      follow_reports, run_reports, follow_by_arrival (claims.Reported); run_replayed (claims.Replays);
--                        follows_alike, run_alike (claims.EndsAlike); follow_swaps (claims.Services)
--   exchanged steps      swap_general, swap_any_source (claims.SwapGeneral, claims.SwapAnySource); same_class,
--                        same_class_general, exchange_class, classes (claims.Classes); follow_swaps_any_source, follow_same_class
--                        (claims.Services)
--   the two editions     wider_rows, follow_editions, run_editions (claims.Editions)
-- Assumes nothing.
use Rattle.promises.specs.Statements.{NoneFit, NoOvertaking, NoOvertakingReceives, ByArrival, Statuses, SendStatuses, Deliveries}
use Rattle.promises.specs.ProbeStatements.{Probes, Queries, ToldAtItsStep, ProbeThenReceive, ToldThenReceived}
use Rattle.promises.specs.Statements.{Verdicts, NoRequestLeft, StopReasons, StoppingSteps, Steps, Counts, InUse, KeptInOne, Peaks, BuffersHold, RunEnds, EndsAlike, SwapSame}
use Rattle.promises.specs.ServiceStatements.{FollowReports, RunReports, RunReplayed, FollowByArrival, FollowsAlike, RunAlike, FollowSwaps}
use Rattle.promises.specs.ExchangeStatements.{SwapGeneral, SwapAnySource, ExchangeClass, Classes, SameClass, SameClassGeneral, FollowSwapsAnySource, FollowSameClass}
use Rattle.promises.specs.EditionStatements.{WiderRows, FollowEditions, RunEditions}
use Rattle.promises.proofs.claims.Matching
use Rattle.promises.proofs.claims.OneJob
use Rattle.promises.proofs.claims.Telling
use Rattle.promises.proofs.claims.Arrivals
use Rattle.promises.proofs.claims.Stops
use Rattle.promises.proofs.claims.EndsAlike
use Rattle.promises.proofs.claims.SwapGeneral
use Rattle.promises.proofs.claims.SwapAnySource
use Rattle.promises.proofs.claims.SwapSame
use Rattle.promises.proofs.claims.Classes as ClassLaws
use Rattle.promises.proofs.claims.Services
use Rattle.promises.proofs.claims.Reported
use Rattle.promises.proofs.claims.Replays
use Rattle.promises.proofs.claims.Editions

-- DEMAND 2
pub none_fit : NoneFit
none_fit = Matching.none_fit

pub no_overtaking : NoOvertaking
no_overtaking = Matching.no_overtaking

pub no_overtaking_receives : NoOvertakingReceives
no_overtaking_receives = Matching.no_overtaking_receives

pub by_arrival : ByArrival
by_arrival = Arrivals.by_arrival

pub statuses : Statuses
statuses = Matching.statuses

pub send_statuses : SendStatuses
send_statuses = Matching.send_statuses

pub probes : Probes
probes = Telling.probes

pub queries : Queries
queries = Telling.queries

pub told_at_its_step : ToldAtItsStep
told_at_its_step = Telling.told_at_its_step

pub probe_then_receive : ProbeThenReceive
probe_then_receive = Telling.probe_then_receive

pub told_then_received : ToldThenReceived
told_then_received = Telling.told_then_received

pub deliveries : Deliveries
deliveries = OneJob.deliveries

pub verdicts : Verdicts
verdicts = OneJob.verdicts

pub no_request_left : NoRequestLeft
no_request_left = OneJob.no_request_left

pub stop_reasons : StopReasons
stop_reasons = Stops.stop_reasons

pub stopping_steps : StoppingSteps
stopping_steps = Stops.stopping_steps

pub steps : Steps
steps = OneJob.steps

pub counts : Counts
counts = OneJob.counts

pub in_use : InUse
in_use = OneJob.in_use

pub kept_in_one : KeptInOne
kept_in_one = OneJob.kept_in_one

pub peaks : Peaks
peaks = OneJob.peaks

pub buffers_hold : BuffersHold
buffers_hold = OneJob.buffers_hold

-- RUN
pub run_ends : RunEnds
run_ends = EndsAlike.run_ends

-- DEMAND 3
pub ends_alike : EndsAlike
ends_alike = EndsAlike.ends_alike

pub swap_same : SwapSame
swap_same = SwapSame.swap_same

-- DEMAND 2 OF THE SERVICES
pub follow_reports : FollowReports
follow_reports = Reported.follow_reports

pub run_reports : RunReports
run_reports = Reported.run_reports

pub run_replayed : RunReplayed
run_replayed = Replays.run_replayed

pub follow_by_arrival : FollowByArrival
follow_by_arrival = Reported.follow_by_arrival

-- DEMAND 3 OF THE SERVICES
pub follows_alike : FollowsAlike
follows_alike = EndsAlike.calls_follow_alike

pub run_alike : RunAlike
run_alike = EndsAlike.calls_run_alike

pub follow_swaps : FollowSwaps
follow_swaps = Services.follow_swaps swap_same

-- EXCHANGED STEPS ON ANY SHEET
pub swap_general : SwapGeneral
swap_general = SwapGeneral.swap_general

pub swap_any_source : SwapAnySource
swap_any_source = SwapAnySource.swap_any_source

pub exchange_class : ExchangeClass
exchange_class = ClassLaws.exchange_class

pub classes : Classes
classes = ClassLaws.classes

pub same_class : SameClass
same_class = ClassLaws.same_class

pub same_class_general : SameClassGeneral
same_class_general = ClassLaws.same_class_general

pub follow_swaps_any_source : FollowSwapsAnySource
follow_swaps_any_source = Services.follow_swaps_any_source swap_any_source

pub follow_same_class : FollowSameClass
follow_same_class = Services.follow_same_class same_class

-- THE TWO EDITIONS
pub wider_rows : WiderRows
wider_rows = Editions.wider_rows

pub follow_editions : FollowEditions
follow_editions = Editions.follow_editions

pub run_editions : RunEditions
run_editions = Editions.run_editions
