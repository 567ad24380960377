-- What follow and run leave in the lent rooms (document 01, "When the desk says no", below its table), as calls whose every
-- byte is written down. Inboxes start from bytes 90, 91 and so on, other rooms from 7s; scratch that is zeroed from any bytes, so
-- that no list of its size is computed. Assumes nothing.
-- To read a call:
--   FollowLeaves sheet order (number at place) inbox report scratch
--   RunLeaves sheet (number at place) inbox report order-out scratch
-- where a room is (bytes lent becomes bytes left).
use Rattle.std.specs.Prelude.{List, [], ◌∷◌, ◌++◌, ℕ, length, replicate, take}
use Rattle.rules.specs.Service.{FollowSays, RunSays}
use Rattle.rules.specs.BenchJob.{Inboxes, ◌becomes◌, draft_bytes}
use Rattle.rules.specs.BenchNumbered.{case_1_sheet, ready_sheet}
use Rattle.rules.specs.BenchRefusal.{Answer, ◌at◌}

unfoldable pub FollowLeaves : (sheet order : List ℕ) → Answer → (inbox report scratch : Inboxes) → Type 0
FollowLeaves bs o (n at p) (i becomes i_now) (r becomes r_now) (c becomes c_now) =
    FollowSays bs o n p i i_now r r_now c c_now

unfoldable pub RunLeaves : (sheet : List ℕ) → Answer → (inbox report order scratch : Inboxes) → Type 0
RunLeaves bs (n at p) (i becomes i_now) (r becomes r_now) (o becomes o_now) (c becomes c_now) =
    RunSays bs n p i i_now r r_now o o_now c c_now

-- a room that keeps its bytes
abbrev kept : List ℕ → Inboxes
kept bs = bs becomes bs

-- sheets, and an inbox one byte longer than they ask for
abbrev job_1 : List ℕ
job_1 = draft_bytes case_1_sheet

abbrev job_9 : List ℕ
job_9 = draft_bytes ready_sheet

abbrev longer : List ℕ
longer = 90 ∷ 91 ∷ 92 ∷ 93 ∷ 94 ∷ []

-- a room that is zeroed whole
abbrev zeroed : List ℕ → Inboxes
zeroed bs = bs becomes replicate (length bs) 0

abbrev sevens : ℕ → List ℕ
sevens n = replicate n 7

-- document 01's report of job 1; the report of job 9 under run, which stops at its first step
abbrev report_1 : List ℕ
report_1 =
    0x01 ∷ 0xff ∷ 0xff ∷ 0xff ∷ 0x04 ∷ 0x00 ∷ 0x02 ∷ 0x00 ∷ 0x02 ∷ 0x00 ∷ 0x00 ∷ 0x00 ∷ 0x00 ∷ 0x00 ∷ 0x00 ∷ 0x00
    ∷ 0x01 ∷ 0x00 ∷ 0x00 ∷ 0x00 ∷ 0x00 ∷ 0x00 ∷ 0x02 ∷ 0x00
    ∷ 0x01 ∷ 0x00 ∷ 0x00 ∷ 0x00 ∷ 0x00 ∷ 0x00 ∷ 0x02 ∷ 0x00
    ∷ 0x03 ∷ 0x00 ∷ 0x01 ∷ 0x00 ∷ 0xff ∷ 0xff ∷ 0xff ∷ 0xff ∷ 0x00 ∷ 0x00 ∷ 0x00 ∷ 0x00
    ∷ 0x03 ∷ 0x00 ∷ 0x00 ∷ 0x00 ∷ 0x00 ∷ 0x00 ∷ 0x07 ∷ 0x00 ∷ 0x03 ∷ 0x00 ∷ 0x00 ∷ 0x00 ∷ []

abbrev report_9 : List ℕ
report_9 =
    0x04 ∷ 0x00 ∷ 0x00 ∷ 0x00 ∷ 0x01 ∷ 0x00 ∷ 0x02 ∷ 0x00 ∷ 0x02 ∷ 0x00 ∷ 0x00 ∷ 0x00 ∷ 0x00 ∷ 0x00 ∷ 0x00 ∷ 0x00
    ∷ 0x00 ∷ 0x00 ∷ 0x00 ∷ 0x00 ∷ 0x00 ∷ 0x00 ∷ 0x00 ∷ 0x00
    ∷ 0x00 ∷ 0x00 ∷ 0x00 ∷ 0x00 ∷ 0x00 ∷ 0x00 ∷ 0x00 ∷ 0x00
    ∷ 0x00 ∷ 0x00 ∷ 0xff ∷ 0xff ∷ 0xff ∷ 0xff ∷ 0xff ∷ 0xff ∷ 0x00 ∷ 0x00 ∷ 0x00 ∷ 0x00
    ∷ 0x00 ∷ 0x00 ∷ 0xff ∷ 0xff ∷ 0xff ∷ 0xff ∷ 0xff ∷ 0xff ∷ 0x00 ∷ 0x00 ∷ 0x00 ∷ 0x00 ∷ []

-- c is scratch of the size asked for, d a byte longer (Bench: bench_rooms_hold)
unfoldable pub BenchRooms : (c d : List ℕ) → Type 0
BenchRooms c d =
    -- a sheet that check refuses, and a room that is short: every room keeps its bytes, scratch too
    FollowLeaves (take 15 job_1) (0 ∷ []) (1 at 0) (kept longer) (kept (sevens 57)) (kept (sevens 3))
    × FollowLeaves job_1 (0 ∷ []) (8 at 4) (kept longer) (kept (sevens 57)) (kept (sevens 3))
    × RunLeaves job_1 (8 at 3) (kept longer) (kept (sevens 57)) (kept (sevens 3)) (kept (sevens 3))
    -- an order refused after the match: inbox and report keep their bytes, scratch is zeroed whole
    × FollowLeaves job_1 (0 ∷ 1 ∷ 0 ∷ 0 ∷ []) (9 at 3) (kept longer) (kept (sevens 57)) (zeroed d)
    -- success: the excess of inbox, report and order out keeps its bytes, scratch is zeroed whole
    × FollowLeaves job_1 (0 ∷ 1 ∷ 0 ∷ 1 ∷ []) (0 at 0) (longer becomes (11 ∷ 12 ∷ 13 ∷ 93 ∷ 94 ∷ []))
    (sevens 57 becomes (report_1 ++ sevens 1)) (zeroed d)
    × RunLeaves job_1 (0 at 0) (longer becomes (11 ∷ 12 ∷ 13 ∷ 93 ∷ 94 ∷ []))
    (sevens 57 becomes (report_1 ++ sevens 1)) (sevens 5 becomes (0 ∷ 1 ∷ 0 ∷ 1 ∷ 7 ∷ [])) (zeroed c)
    -- a run of one step: the bytes of order out after it keep their values
    × RunLeaves job_9 (0 at 0) (kept longer) (sevens 56 becomes report_9) (sevens 4 becomes (0 ∷ 7 ∷ 7 ∷ 7 ∷ []))
    (zeroed c)
