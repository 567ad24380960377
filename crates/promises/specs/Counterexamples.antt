-- Why demand 3 asks for calm sheets and sets the peaks aside. Each of the five conditions of calm is needed: with the other
-- four alone there is a sheet with two orders that follow accepts, after which no board is able, and whose reports differ in
-- more than peaks. It does not suffice either that every receive names its source where probes need not (document 02, K9), nor
-- that buffers cover the lengths of their messages without the overhead. And on a calm sheet the peaks may differ. Each sheet is
-- written as a bench job and computed.
--   calm_parts          calm is these five conditions
--   no_any_receive      the first of receives alone
--   lengths_calm        calm with lengths in the place of charges
--   EndsAlikeOn       two full orders end alike, on the sheets that pass a test
--   PairOfOrders      a sheet, and two orders
--   apart_refutes       a pair that ends apart refutes EndsAlikeOn
--   any_source_matters, any_source_probe_matters, ready_matters, query_matters, cover_matters, room_matters, overhead_matters,
--   peaks_matter, room_peaks_matter
-- Definitions: what is proved of them stands in proofs/Counterexamples. Assumes nothing.
use Rattle.std.specs.Prelude.{◌≡◌, Bool, true, ◌&&◌, not, cond, List, [], ◌∷◌, ℕ, ◌+◌, ◌≤◌, leb, length}
use Rattle.rules.specs.Sheet.{Sheet, Op, P_of, is_ready, is_buffered, inbox_total, second_in, sheet_in}
use Rattle.rules.specs.Order.{none_able}
use Rattle.rules.specs.Report.{report}
use Rattle.rules.specs.Claims as claims
use Rattle.rules.specs.Claims.{passes, is_any_source, none_wild, all_covered, rooms_cover, calm, accepts, left_by, without_peaks, Alike}
use Rattle.rules.specs.BenchJob.{buffered, any, send, receive, script, Draft, draft, draft_bytes, same, all}
use Rattle.rules.specs.BenchNumbered.{ready_sheet, any_source_sheet}
use Rattle.rules.specs.BenchProbes.{any_probe_sheet, query_sheet}
use Rattle.rules.specs.BenchStandard.{both_rooms_sheet, some_covered_sheet}
use Rattle.promises.specs.ExchangeStatements.{none_of, is_any_receive, no_query}

-- THE CONDITIONS OF CALM, one by one, beside no_query
unfoldable pub no_any_source : Sheet → Bool
no_any_source s = none_of is_any_source s.ops

unfoldable pub no_ready : Sheet → Bool
no_ready s = none_of is_ready s.ops

-- buffers cover, and rooms are 0 or cover (document 02, K6)
unfoldable pub covered : Sheet → Bool
covered s = all_covered s && rooms_cover s

-- too little for the first: no receive is from any source, and a probe may be
unfoldable pub no_any_receive : Sheet → Bool
no_any_receive s = none_of is_any_receive s.ops

-- too little for the last: on each board the lengths of all its buffered sends add up to at most its attached size
unfoldable pub all_lengths : List Op → ℕ
all_lengths [] = 0
all_lengths (o ∷ os) = cond (is_buffered o) o.long 0 + all_lengths os

unfoldable pub lengths_calm : Sheet → Bool
lengths_calm s =
    (((no_any_source s && no_ready s) && no_query s) && rooms_cover s) && all (λ b. leb (all_lengths (claims.script b s.ops)) b.attached) s.boards

-- demand 3's claim about full orders, on the sheets that pass a test
unfoldable pub EndsAlikeOn : (Sheet → Bool) → Type 0
EndsAlikeOn ok =
    (bs i a b : List ℕ) → passes bs ≡ true → ok (sheet_in bs) ≡ true → inbox_total (sheet_in bs) ≤ length i →
    let s = sheet_in bs in
    accepts s a i ≡ true → accepts s b i ≡ true → none_able s (left_by s a i) ≡ true → none_able s (left_by s b i) ≡ true →
    Alike s (left_by s a i) (left_by s b i)

-- PAIRS OF ORDERS
pub record PairOfOrders : Type 0 where
  pub sheet : Draft
  pub inbox : List ℕ
  pub one : List ℕ
  pub other : List ℕ

abbrev pub bytes_of : PairOfOrders → List ℕ
bytes_of p = draft_bytes p.sheet

abbrev pub sheet_of : PairOfOrders → Sheet
sheet_of p = sheet_in (bytes_of p)

abbrev pub second_of : PairOfOrders → Bool
second_of p = second_in (bytes_of p)

abbrev pub bare_report_of : PairOfOrders → (order : List ℕ) → List ℕ
bare_report_of p o = without_peaks (second_of p) (P_of (sheet_of p)) (report (second_of p) (sheet_of p) (left_by (sheet_of p) o p.inbox))

abbrev pub ends_full : PairOfOrders → (order : List ℕ) → Bool
ends_full p o = accepts (sheet_of p) o p.inbox && none_able (sheet_of p) (left_by (sheet_of p) o p.inbox)

-- the sheet passes check and the test, the room suffices, and follow accepts both orders, after which no board is able
abbrev pub both_full : (Sheet → Bool) → PairOfOrders → Bool
both_full ok p =
    ((passes (bytes_of p) && ok (sheet_of p)) && leb (inbox_total (sheet_of p)) (length p.inbox))
    && (ends_full p p.one && ends_full p p.other)

-- and the reports differ in more than peaks
unfoldable pub ends_apart : (Sheet → Bool) → PairOfOrders → Bool
ends_apart ok p = both_full ok p && not (same (bare_report_of p p.one) (bare_report_of p p.other))

-- THE SHEETS
-- bench job 12: ranks 0 and 1 send to rank 2, which receives twice from any source; either message may come first
unfoldable pub any_source_pair : PairOfOrders
any_source_pair =
    record {
      sheet = any_source_sheet;
      inbox = 0 ∷ 0 ∷ [];
      one = 0 ∷ 1 ∷ 2 ∷ 2 ∷ 2 ∷ 2 ∷ 0 ∷ 1 ∷ [];
      other = 1 ∷ 0 ∷ 2 ∷ 2 ∷ 2 ∷ 2 ∷ 0 ∷ 1 ∷ [];
    }

-- bench job V: the same, received by name; an any-source probe tells the message that came first
unfoldable pub any_probe_pair : PairOfOrders
any_probe_pair =
    record {
      sheet = any_probe_sheet;
      inbox = 0 ∷ 0 ∷ 0 ∷ [];
      one = 0 ∷ 1 ∷ 2 ∷ 2 ∷ 2 ∷ 2 ∷ 2 ∷ 0 ∷ 1 ∷ [];
      other = 1 ∷ 0 ∷ 2 ∷ 2 ∷ 2 ∷ 2 ∷ 2 ∷ 0 ∷ 1 ∷ [];
    }

-- bench job DD: two queries before their send is matched, or after it
unfoldable pub query_pair : PairOfOrders
query_pair =
    record {
      sheet = query_sheet;
      inbox = 0 ∷ [];
      one = 0 ∷ 0 ∷ 0 ∷ 1 ∷ 0 ∷ 1 ∷ [];
      other = 0 ∷ 1 ∷ 0 ∷ 0 ∷ 0 ∷ 1 ∷ [];
    }

-- bench job 9: a ready send stops the job, or meets the receive that was posted before it
unfoldable pub ready_pair : PairOfOrders
ready_pair =
    record {
      sheet = ready_sheet;
      inbox = 0 ∷ 0 ∷ [];
      one = 0 ∷ [];
      other = 1 ∷ 0 ∷ 0 ∷ 1 ∷ [];
    }

-- bench job 2 with a buffer of `attached` bytes for two buffered sends, charged 2 + 32 and 3 + 32
unfoldable pub two_buffered : (attached crc : ℕ) → Draft
two_buffered attached crc =
    draft 1 crc (11 ∷ 12 ∷ 13 ∷ 14 ∷ 15 ∷ [])
    (script attached 0 (send buffered 1 0 4 0 2 ∷ send buffered 1 0 4 2 3 ∷ [])
    ∷ script 0 6 (receive 0 0 any 0 3 ∷ receive 0 0 4 3 3 ∷ []) ∷ [])

-- one byte short
abbrev pub uncovered_sheet : Draft
uncovered_sheet = two_buffered 68 0x47ca

-- enough for the lengths, 2 and 3, and not for the overhead
abbrev pub lengths_sheet : Draft
lengths_sheet = two_buffered 5 0x89d5

-- the second send overflows, or finds its receive posted
unfoldable pub uncovered_pair : PairOfOrders
uncovered_pair =
    record {
      sheet = uncovered_sheet;
      inbox = 0 ∷ 0 ∷ 0 ∷ 0 ∷ 0 ∷ 0 ∷ [];
      one = 0 ∷ 0 ∷ 0 ∷ [];
      other = 1 ∷ 0 ∷ 0 ∷ 1 ∷ 1 ∷ 0 ∷ 0 ∷ 1 ∷ [];
    }

-- the first send overflows, or each finds its receive posted
unfoldable pub lengths_pair : PairOfOrders
lengths_pair =
    record {
      sheet = lengths_sheet;
      inbox = 0 ∷ 0 ∷ 0 ∷ 0 ∷ 0 ∷ 0 ∷ [];
      one = 0 ∷ [];
      other = 1 ∷ 0 ∷ 0 ∷ 1 ∷ 1 ∷ 0 ∷ 0 ∷ 1 ∷ [];
    }

-- enough: both messages wait in the buffer, or none does
unfoldable pub calm_pair : PairOfOrders
calm_pair =
    record {
      sheet = two_buffered 69 0xdbd0;
      inbox = 0 ∷ 0 ∷ 0 ∷ 0 ∷ 0 ∷ 0 ∷ [];
      one = 0 ∷ 0 ∷ 0 ∷ 0 ∷ 1 ∷ 1 ∷ 1 ∷ 1 ∷ [];
      other = 1 ∷ 0 ∷ 0 ∷ 1 ∷ 1 ∷ 0 ∷ 0 ∷ 1 ∷ [];
    }

-- the second edition, where a room holds one of two messages: the second is buffered once the first is received, and the boards
-- finish; or it comes before that, is not buffered, and both boards hang
unfoldable pub room_pair : PairOfOrders
room_pair =
    record {
      sheet = some_covered_sheet;
      inbox = 0 ∷ 0 ∷ 0 ∷ 0 ∷ 0 ∷ 0 ∷ [];
      one = 0 ∷ 0 ∷ 1 ∷ 1 ∷ 0 ∷ 0 ∷ 1 ∷ 0 ∷ 0 ∷ 1 ∷ 1 ∷ 1 ∷ [];
      other = 0 ∷ 0 ∷ 0 ∷ 1 ∷ 1 ∷ 1 ∷ [];
    }

-- rooms that cover: both messages wait there, or one finds its receive posted
unfoldable pub calm_room_pair : PairOfOrders
calm_room_pair =
    record {
      sheet = both_rooms_sheet;
      inbox = 0 ∷ 0 ∷ 0 ∷ 0 ∷ [];
      one = 0 ∷ 1 ∷ 0 ∷ 1 ∷ 0 ∷ 1 ∷ 0 ∷ 1 ∷ [];
      other = 0 ∷ 0 ∷ 0 ∷ 1 ∷ 0 ∷ 1 ∷ 1 ∷ 1 ∷ [];
    }

-- the whole reports of two full orders differ, and only in peaks
unfoldable pub peaks_apart : PairOfOrders → Bool
peaks_apart p =
    both_full calm p
    && (not (same (report (second_of p) (sheet_of p) (left_by (sheet_of p) p.one p.inbox))
    (report (second_of p) (sheet_of p) (left_by (sheet_of p) p.other p.inbox)))
    && same (bare_report_of p p.one) (bare_report_of p p.other))
