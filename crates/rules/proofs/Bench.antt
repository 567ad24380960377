-- The bench (document 01, "Bench jobs" and "When the desk says no"): the jobs of BenchNumbered and BenchFurther in one list,
-- the calls of BenchRefused and those of BenchRooms; for document 02's K9 the jobs of BenchProbes and the calls of
-- BenchProbesRefused, for K6 those of BenchStandard and BenchStandardRefused; each under one claim, which the checker computes.
-- A job: its sheet passes check, its order is taken, report and inboxes come out as written by hand. The edits in must-fail/ put
-- wrong definitions in the place of those tested here; a claim refuses each. A claim cites the one before it, the first that of
-- BenchPremise: once one is refused the rest is not computed.
-- Assumes nothing.
use Rattle.std.specs.Prelude.{◌≡◌, refl, true, List, ℕ, ◌+◌, length}
use Rattle.rules.specs.Bench.{bench_jobs}
use Rattle.rules.specs.BenchJob.{as_expected, all}
use Rattle.rules.specs.BenchProbes.{probe_jobs}
use Rattle.rules.specs.BenchRefusal.{as_answered, scratch_asked}
use Rattle.rules.specs.BenchRefused.{bench_calls}
use Rattle.rules.specs.BenchRooms.{BenchRooms}
use Rattle.rules.specs.BenchProbesRefused.{probe_calls}
use Rattle.rules.specs.BenchStandard.{room_jobs}
use Rattle.rules.specs.BenchStandardRefused.{room_calls}
use Rattle.rules.specs.Definitions.{definitions}
use Rattle.rules.proofs.BenchPremise.{questions_answered}

pub bench_jobs_hold : all as_expected bench_jobs ≡ true
unfolding bench_jobs definitions
bench_jobs_hold =
    let before = questions_answered in
    refl

-- each call answers the number and the place that it must
pub bench_calls_hold : all as_answered bench_calls ≡ true
unfolding definitions
bench_calls_hold =
    let before = bench_jobs_hold in
    refl

-- each call leaves every byte of its rooms as it must, whatever scratch held
pub bench_rooms_hold : (c d : List ℕ) → length c ≡ scratch_asked → length d ≡ scratch_asked + 1 → BenchRooms c d
unfolding definitions
bench_rooms_hold c d e f =
    let before = bench_calls_hold in (
      ((refl, refl), refl, refl, refl),
      ((refl, refl), refl, refl, refl),
      ((refl, refl), refl, refl, refl, refl),
      ((rw f, rw f), rw f, rw f, rw f),
      ((rw f, rw f), rw f, rw f, rw f),
      ((rw e, rw e), rw e, rw e, rw e, rw e),
      ((rw e, rw e), rw e, rw e, rw e, rw e),
    )

-- probes and queries
pub probe_jobs_hold : all as_expected probe_jobs ≡ true
unfolding definitions
probe_jobs_hold =
    let before = bench_rooms_hold in
    refl

pub probe_calls_hold : all as_answered probe_calls ≡ true
unfolding definitions
probe_calls_hold =
    let before = probe_jobs_hold in
    refl

-- the second edition
pub room_jobs_hold : all as_expected room_jobs ≡ true
unfolding definitions
room_jobs_hold =
    let before = probe_calls_hold in
    refl

pub room_calls_hold : all as_answered room_calls ≡ true
unfolding definitions
room_calls_hold =
    let before = room_jobs_hold in
    refl
