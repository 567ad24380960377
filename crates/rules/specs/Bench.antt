-- The bench (document 01, "Bench jobs" and "When the desk says no"): the jobs of BenchNumbered and BenchFurther in one list. That
-- they hold, with the calls of BenchRefused and those of BenchRooms, for document 02's K9 the jobs of BenchProbes and the calls of
-- BenchProbesRefused, and for K6 those of BenchStandard and BenchStandardRefused, is proved in proofs/Bench.
-- Assumes nothing.
use Rattle.std.specs.Prelude.{List, ◌++◌}
use Rattle.rules.specs.BenchJob.{BenchJob}
use Rattle.rules.specs.BenchNumbered.{numbered_jobs}
use Rattle.rules.specs.BenchFurther.{further_jobs}

unfoldable pub bench_jobs : List BenchJob
bench_jobs = numbered_jobs ++ further_jobs
