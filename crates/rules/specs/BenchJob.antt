-- A bench job (document 01, "Bench jobs"): its sheet as a person writes it, how it is driven, what must come out, and the test
-- of all that. The definitions are handed the sheet's bytes, and what they report is compared as bytes. The layouts of sheet and
-- report stand here a second time, in numbers, so that the test shares no mistake with the definitions. Assumes nothing.
use Rattle.std.specs.Prelude.{Bool, true, false, ◌&&◌, not, cond, List, [], ◌∷◌, ◌++◌, ℕ, zero, suc, ◌+◌, ◌*◌, ◌/◌, ◌%◌, eqb, length, get_or, take, drop}
use Rattle.std.proofs.Math.Option.{Option, none, some}
use Rattle.rules.specs.Sheet.{Sheet, second_in, sheet_in}
use Rattle.rules.specs.Refusal.{sheet_refusal}
use Rattle.rules.specs.Job.{Job}
use Rattle.rules.specs.Step.{is_none}
use Rattle.rules.specs.Order.{follow, run}
use Rattle.rules.specs.Report.{report}

-- SCRIPTS: a line is an operation, under the name of MPI's call. The mode of a send is its kind
abbrev pub standard : ℕ
standard = 1

abbrev pub buffered : ℕ
buffered = 2

abbrev pub synchronous : ℕ
synchronous = 3

abbrev pub ready : ℕ
ready = 4

-- any source, any tag
abbrev pub any : ℕ
any = 65535

-- `isend` and `ireceive` are nonblocking and take a request slot; `wait` names one. `probe` and `query` are document 02's K9
-- (MPI_PROBE, MPI_REQUEST_GET_STATUS); `query` names a slot too
pub data Line : Type 0 where
  send : (mode to comm tag offset long : ℕ) → Line
  isend : (mode to comm tag offset long slot : ℕ) → Line
  receive : (source comm tag offset capacity : ℕ) → Line
  ireceive : (source comm tag offset capacity slot : ℕ) → Line
  wait : (slot : ℕ) → Line
  probe : (source comm tag : ℕ) → Line
  query : (slot : ℕ) → Line

-- a board: its attached buffer size, its inbox size, its operations; of the second edition (document 02, K6) its standard room too
pub data Script : Type 0 where
  script : (attached inbox : ℕ) → List Line → Script
  roomed : (attached inbox room : ℕ) → List Line → Script

-- a sheet: how many communicators; its CRC, a number from another program than these definitions; its payload; its boards, which
-- are all `script` in `draft`, and all `roomed` in `draft_2`, a sheet of the second edition
pub data Draft : Type 0 where
  draft : (comms crc : ℕ) → (payload : List ℕ) → List Script → Draft
  draft_2 : (comms crc : ℕ) → (payload : List ℕ) → List Script → Draft

unfoldable pub scripts_of : Draft → List Script
scripts_of (draft c k pay ss) = ss
scripts_of (draft_2 c k pay ss) = ss

unfoldable pub lines_of : List Script → List Line
lines_of [] = []
lines_of (script a i ls ∷ ss) = ls ++ lines_of ss
lines_of (roomed a i m ls ∷ ss) = ls ++ lines_of ss

-- P and N: how many boards and how many operations
unfoldable pub P_drafted : Draft → ℕ
P_drafted d = length (scripts_of d)

unfoldable pub N_drafted : Draft → ℕ
N_drafted d = length (lines_of (scripts_of d))

-- BYTES of a sheet: 16-bit numbers, the low byte first
unfoldable pub as_words : List ℕ → List ℕ
as_words [] = []
as_words (v ∷ vs) = v % 256 ∷ v / 256 ∷ as_words vs

unfoldable pub line_bytes : Line → List ℕ
line_bytes (send m p c t o l) = m ∷ 0 ∷ as_words (p ∷ c ∷ 0 ∷ t ∷ o ∷ l ∷ 0 ∷ [])
line_bytes (isend m p c t o l k) = m ∷ 1 ∷ as_words (p ∷ c ∷ 0 ∷ t ∷ o ∷ l ∷ k ∷ [])
line_bytes (receive p c t o l) = 5 ∷ 0 ∷ as_words (p ∷ c ∷ 0 ∷ t ∷ o ∷ l ∷ 0 ∷ [])
line_bytes (ireceive p c t o l k) = 5 ∷ 1 ∷ as_words (p ∷ c ∷ 0 ∷ t ∷ o ∷ l ∷ k ∷ [])
line_bytes (wait k) = 6 ∷ 0 ∷ as_words (0 ∷ 0 ∷ 0 ∷ 0 ∷ 0 ∷ 0 ∷ k ∷ [])
line_bytes (probe p c t) = 7 ∷ 0 ∷ as_words (p ∷ c ∷ 0 ∷ t ∷ 0 ∷ 0 ∷ 0 ∷ [])
line_bytes (query k) = 8 ∷ 0 ∷ as_words (0 ∷ 0 ∷ 0 ∷ 0 ∷ 0 ∷ 0 ∷ k ∷ [])

unfoldable pub all_line_bytes : List Line → List ℕ
all_line_bytes [] = []
all_line_bytes (l ∷ ls) = line_bytes l ++ all_line_bytes ls

-- a board entry begins with its first operation, the sum of the counts before it
unfoldable pub entry_bytes : (first : ℕ) → List Script → List ℕ
entry_bytes f [] = []
entry_bytes f (script a i ls ∷ ss) = as_words (f ∷ length ls ∷ a ∷ i ∷ []) ++ entry_bytes (f + length ls) ss
entry_bytes f (roomed a i m ls ∷ ss) = as_words (f ∷ length ls ∷ a ∷ i ∷ m ∷ []) ++ entry_bytes (f + length ls) ss

-- a sheet whose board entries have so many bytes
unfoldable pub laid_out : (entry comms crc : ℕ) → (payload : List ℕ) → List Script → List ℕ
laid_out w c k pay ss =
    let p = length ss in
    let n = length (lines_of ss) in
    let o = 16 + w * p in
    as_words (p ∷ c ∷ n ∷ 16 ∷ o ∷ (o + 16 * n) ∷ length pay ∷ k ∷ [])
    ++ (entry_bytes 0 ss ++ (all_line_bytes (lines_of ss) ++ pay))

unfoldable pub draft_bytes : Draft → List ℕ
draft_bytes (draft c k pay ss) = laid_out 8 c k pay ss
draft_bytes (draft_2 c k pay ss) = laid_out 10 c k pay ss

-- how many bytes a board's row of its report has
unfoldable pub row_width : Draft → ℕ
row_width (draft c k pay ss) = 8
row_width (draft_2 c k pay ss) = 12

-- how a job is driven: by run, which must write this order down; or by follow, which must accept it
pub data Drive : Type 0 where
  runs : (order : List ℕ) → Drive
  follows : (order : List ℕ) → Drive

-- WHAT MUST COME OUT: the verdict, a stopping one with stop rank and stop operation
pub data Verdict : Type 0 where
  still_able : Verdict
  finished : Verdict
  deadlock : Verdict
  overflow : (rank op : ℕ) → Verdict
  not_ready : (rank op : ℕ) → Verdict

-- a send and the receive that it was matched with, as operations
infix 70 ◌meets◌
pub data Match : Type 0 where
  ◌meets◌ : (send receive : ℕ) → Match

-- what the row of a finished probe tells of a message, and that of a finished query of completion, 1 or 0 (document 02, K9)
pub data Finding : Type 0 where
  found : (probe source tag long : ℕ) → Finding
  said : (query complete : ℕ) → Finding

-- a board's row of the report; of the second edition with use and peak of its standard room
pub data Row : Type 0 where
  row : (done in_use peak state : ℕ) → Row
  row_2 : (done in_use peak state room_use room_peak : ℕ) → Row

-- how many messages and receives are pending; how many matches are cut
pub data Pending : Type 0 where
  pending : (messages receives : ℕ) → Pending

pub data Cut : Type 0 where
  cut : (matches : ℕ) → Cut

-- what the report tells
pub data Told : Type 0 where
  told : Verdict → (steps : ℕ) → List Match → Pending → Cut → (boards : List Row) → Told

-- the inboxes before and after
infix 60 ◌becomes◌
pub data Inboxes : Type 0 where
  ◌becomes◌ : (before after : List ℕ) → Inboxes

-- finds: what every finished probe and query tells. whole: the report byte by byte, where it is written down
pub data BenchJob : Type 0 where
  job : Draft → Drive → Told → (finds : List Finding) → Inboxes → (whole : Option (List ℕ)) → BenchJob

abbrev pub bench : Draft → Drive → Told → Inboxes → BenchJob
bench d v t i = job d v t [] i none

abbrev pub bench_whole : Draft → Drive → Told → Inboxes → (report : List ℕ) → BenchJob
bench_whole d v t i w = job d v t [] i (some w)

-- the same of a job with probes or queries
abbrev pub bench_finds : Draft → Drive → Told → List Finding → Inboxes → BenchJob
bench_finds d v t fs i = job d v t fs i none

abbrev pub bench_finds_whole : Draft → Drive → Told → List Finding → Inboxes → (report : List ℕ) → BenchJob
bench_finds_whole d v t fs i w = job d v t fs i (some w)

-- THE TEST
unfoldable pub same : List ℕ → List ℕ → Bool
same [] [] = true
same [] (y ∷ ys) = false
same (x ∷ xs) [] = false
same (x ∷ xs) (y ∷ ys) = eqb x y && same xs ys

-- verdict, stop rank and stop operation: the report's first four bytes
unfoldable pub verdict_bytes : Verdict → List ℕ
verdict_bytes still_able = 0 ∷ 255 ∷ 255 ∷ 255 ∷ []
verdict_bytes finished = 1 ∷ 255 ∷ 255 ∷ 255 ∷ []
verdict_bytes deadlock = 2 ∷ 255 ∷ 255 ∷ 255 ∷ []
verdict_bytes (overflow r i) = 3 ∷ r ∷ as_words (i ∷ [])
verdict_bytes (not_ready r i) = 4 ∷ r ∷ as_words (i ∷ [])

-- the report's header, for p boards and n operations
unfoldable pub opening : (p n : ℕ) → Told → List ℕ
opening p n (told v k ms (pending m r) (cut c) rs) = verdict_bytes v ++ as_words (k ∷ p ∷ n ∷ m ∷ r ∷ c ∷ [])

unfoldable pub rows_bytes : List Row → List ℕ
rows_bytes [] = []
rows_bytes (row d u p t ∷ rs) = (as_words (d ∷ u ∷ p ∷ []) ++ (t ∷ 0 ∷ [])) ++ rows_bytes rs
rows_bytes (row_2 d u p t v q ∷ rs) = (as_words (d ∷ u ∷ p ∷ []) ++ (t ∷ 0 ∷ as_words (v ∷ q ∷ []))) ++ rows_bytes rs

-- the partner that the matches give an operation, 65,535 if none
unfoldable pub partner_by : List Match → (i : ℕ) → ℕ
partner_by [] i = 65535
partner_by ((m meets r) ∷ ms) i = cond (eqb i m) r (cond (eqb i r) m (partner_by ms i))

-- what the findings give an operation: the bytes of its row behind the partner, if any
unfoldable pub finding_by : List Finding → (i : ℕ) → Option (List ℕ)
finding_by [] i = none
finding_by (found p s t l ∷ fs) i = cond (eqb i p) (some (as_words (s ∷ t ∷ l ∷ 0 ∷ []))) (finding_by fs i)
finding_by (said q c ∷ fs) i = cond (eqb i q) (some (as_words (65535 ∷ 65535 ∷ c ∷ 0 ∷ []))) (finding_by fs i)

-- the operation row that stands from `at` on. One that a finding speaks of is in state 5, has no partner, and tells what the
-- finding says; any other has partner p, and is in state 3 where that is one and nowhere else
unfoldable pub row_good : (report : List ℕ) → (at p : ℕ) → Option (List ℕ) → Bool
row_good r at p (some w) = same (take 12 (drop at r)) (5 ∷ 0 ∷ 255 ∷ 255 ∷ w)
row_good r at p none =
    same (take 2 (drop (at + 2) r)) (as_words (p ∷ [])) && cond (eqb p 65535) (not (eqb (get_or r at 0) 3)) (eqb (get_or r at 0) 3)

-- each of `left` operation rows from operation i on, which stand from `at` on
unfoldable pub rows_match : (report : List ℕ) → List Match → List Finding → (left i at : ℕ) → Bool
rows_match r ms fs zero i at = true
rows_match r ms fs (suc k) i at = row_good r at (partner_by ms i) (finding_by fs i) && rows_match r ms fs k (suc i) (at + 12)

unfoldable pub same_if_given : (report : List ℕ) → Option (List ℕ) → Bool
same_if_given r none = true
same_if_given r (some w) = same r w

-- a report of p boards, whose rows have w bytes, and n operations tells what it must
unfoldable pub reported : (w p n : ℕ) → Told → List Finding → (report : List ℕ) → Bool
reported w p n (told v k ms q c rs) fs r =
    (same (take 16 r) (opening p n (told v k ms q c rs)) && same (take (w * p) (drop 16 r)) (rows_bytes rs))
    && (eqb (length r) (16 + w * p + 12 * n) && rows_match r ms fs n 0 (16 + w * p))

-- whether run wrote the order down, or follow accepted it; and the job as it was left
unfoldable pub driven : Drive → Sheet → (inboxes : List ℕ) → Bool × Job
driven (runs o) s i =
    let e = run s i in
    (same e.order o, e.end)
driven (follows o) s i =
    let e = follow s o i in
    (is_none e.refused_at, e.left)

-- check accepts the sheet, the order is as it must be, the report and the inboxes come out as written
unfoldable pub as_expected : BenchJob → Bool
as_expected (job d v t fs (before becomes after) w) =
    let bs = draft_bytes d in
    let s = sheet_in bs in
    let e = driven v s before in
    let r = report (second_in bs) s e.1 in
    (eqb (sheet_refusal bs).number 0 && e.0)
    && (reported (row_width d) (P_drafted d) (N_drafted d) t fs r && (same_if_given r w && same e.1.memory after))

unfoldable pub all : {A : Type 0} → (A → Bool) → List A → Bool
all f [] = true
all f (x ∷ xs) = f x && all f xs
