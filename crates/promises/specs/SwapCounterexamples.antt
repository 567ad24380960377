-- Why demand 3 asks for calm sheets where two neighbouring able steps are exchanged: with four of the five conditions of calm
-- alone there is a sheet, a beginning of an order and two able ranks whose exchange leaves reports that differ in more than
-- peaks; and so where probes are from any source and receives are not (document 02, K9), and where buffers cover lengths and not
-- charges. The sheets are those of Counterexamples, computed.
--   SwapSameOn      an exchange leaves jobs alike, on the sheets that pass a test
--   Exchange          a sheet, a beginning, two ranks and what follows them
--   Apart, apart_of   what an exchange that ends apart has: able ranks, and jobs that are not alike
--   swap_refutes      an exchange that ends apart refutes SwapSameOn
--   any_source_swap_matters, any_source_probe_swap_matters, ready_swap_matters, query_swap_matters, cover_swap_matters,
--   room_swap_matters, overhead_swap_matters
-- Definitions: what is proved of them stands in proofs/SwapCounterexamples. Assumes nothing.
use Rattle.std.specs.Prelude.{◌≡◌, ◌≢◌, Bool, true, ◌&&◌, not, List, [], ◌∷◌, ◌++◌, ℕ, ◌≤◌, leb, eqb, length}
use Rattle.rules.specs.Sheet.{Sheet, P_of, inbox_total, second_in, sheet_in}
use Rattle.rules.specs.Step.{able}
use Rattle.rules.specs.Report.{report}
use Rattle.rules.specs.Job.{Job}
use Rattle.rules.specs.Claims.{passes, accepts, left_by, without_peaks, Alike}
use Rattle.rules.specs.BenchJob.{Draft, draft_bytes, same}
use Rattle.rules.specs.BenchNumbered.{ready_sheet, any_source_sheet}
use Rattle.rules.specs.BenchProbes.{any_probe_sheet, query_sheet}
use Rattle.rules.specs.BenchStandard.{some_covered_sheet}
use Rattle.promises.specs.Counterexamples.{uncovered_sheet, lengths_sheet}

-- demand 3's claim about exchanged steps, on the sheets that pass a test
unfoldable pub SwapSameOn : (Sheet → Bool) → Type 0
SwapSameOn ok =
    (bs i before after : List ℕ) (p q : ℕ) → passes bs ≡ true → ok (sheet_in bs) ≡ true → inbox_total (sheet_in bs) ≤ length i →
    let s = sheet_in bs in
    accepts s before i ≡ true → p ≢ q → able s (left_by s before i) p ≡ true → able s (left_by s before i) q ≡ true →
    Alike s (left_by s (before ++ (p ∷ q ∷ after)) i) (left_by s (before ++ (q ∷ p ∷ after)) i)

pub record Exchange : Type 0 where
  pub sheet : Draft
  pub inbox : List ℕ
  pub before : List ℕ
  pub one : ℕ
  pub other : ℕ
  pub after : List ℕ

abbrev pub bytes_of : Exchange → List ℕ
bytes_of e = draft_bytes e.sheet

abbrev pub sheet_of : Exchange → Sheet
sheet_of e = sheet_in (bytes_of e)

abbrev pub second_of : Exchange → Bool
second_of e = second_in (bytes_of e)

-- the job where the two ranks stand next; and the job after the beginning, these two ranks and the rest, with its report
-- without peaks
abbrev pub job_before : Exchange → Job
job_before e = left_by (sheet_of e) e.before e.inbox

abbrev pub job_after : Exchange → (p q : ℕ) → Job
job_after e p q = left_by (sheet_of e) (e.before ++ (p ∷ q ∷ e.after)) e.inbox

abbrev pub report_after : Exchange → (p q : ℕ) → List ℕ
report_after e p q = without_peaks (second_of e) (P_of (sheet_of e)) (report (second_of e) (sheet_of e) (job_after e p q))

abbrev pub passing : (Sheet → Bool) → Exchange → Bool
passing ok e = passes (bytes_of e) && (ok (sheet_of e) && leb (inbox_total (sheet_of e)) (length e.inbox))

abbrev pub able_there : Exchange → (r : ℕ) → Bool
able_there e r = able (sheet_of e) (job_before e) r

abbrev pub both_able : Exchange → Bool
both_able e =
    accepts (sheet_of e) e.before e.inbox
    && (not (eqb e.one e.other) && (able_there e e.one && able_there e e.other))

abbrev pub differ : Exchange → Bool
differ e = not (same (report_after e e.one e.other) (report_after e e.other e.one))

unfoldable pub swaps_apart : (Sheet → Bool) → Exchange → Bool
swaps_apart ok e = passing ok e && (both_able e && differ e)

-- the same as facts
pub record Apart (ok : Sheet → Bool) (e : Exchange) : Type 0 where
  pub passing_check : passes (bytes_of e) ≡ true
  pub passing_test : ok (sheet_of e) ≡ true
  pub room : inbox_total (sheet_of e) ≤ length e.inbox
  pub accepted : accepts (sheet_of e) e.before e.inbox ≡ true
  pub unlike : e.one ≢ e.other
  pub able_one : able (sheet_of e) (job_before e) e.one ≡ true
  pub able_other : able (sheet_of e) (job_before e) e.other ≡ true
  pub not_alike : Alike (sheet_of e) (job_after e e.one e.other) (job_after e e.other e.one) → ⊥

-- THE EXCHANGES
-- bench job 12: two messages for one any-source receive come in either order
unfoldable pub any_source_exchange : Exchange
any_source_exchange =
    record {
      sheet = any_source_sheet;
      inbox = 0 ∷ 0 ∷ [];
      before = [];
      one = 0;
      other = 1;
      after = 2 ∷ [];
    }

-- bench job V: the same for one any-source probe; each is received by name
unfoldable pub any_probe_exchange : Exchange
any_probe_exchange =
    record {
      sheet = any_probe_sheet;
      inbox = 0 ∷ 0 ∷ 0 ∷ [];
      before = [];
      one = 0;
      other = 1;
      after = 2 ∷ [];
    }

-- bench job DD: a query before the receive that completes its send, or after it
unfoldable pub query_exchange : Exchange
query_exchange =
    record {
      sheet = query_sheet;
      inbox = 0 ∷ [];
      before = 0 ∷ [];
      one = 0;
      other = 1;
      after = [];
    }

-- bench job 9: the ready send before its receive, or after it
unfoldable pub ready_exchange : Exchange
ready_exchange =
    record {
      sheet = ready_sheet;
      inbox = 0 ∷ 0 ∷ [];
      before = [];
      one = 0;
      other = 1;
      after = [];
    }

-- one byte short for two buffered sends: the second before the first one's receive, or after it
unfoldable pub uncovered_exchange : Exchange
uncovered_exchange =
    record {
      sheet = uncovered_sheet;
      inbox = 0 ∷ 0 ∷ 0 ∷ 0 ∷ 0 ∷ 0 ∷ [];
      before = 0 ∷ 0 ∷ [];
      one = 0;
      other = 1;
      after = [];
    }

-- a room that holds one of two messages: the second before the first one's receive, or after it
unfoldable pub room_exchange : Exchange
room_exchange =
    record {
      sheet = some_covered_sheet;
      inbox = 0 ∷ 0 ∷ 0 ∷ 0 ∷ 0 ∷ 0 ∷ [];
      before = 0 ∷ 0 ∷ [];
      one = 0;
      other = 1;
      after = [];
    }

-- a buffer for two lengths: the first send before its receive, or after it
unfoldable pub lengths_exchange : Exchange
lengths_exchange =
    record {
      sheet = lengths_sheet;
      inbox = 0 ∷ 0 ∷ 0 ∷ 0 ∷ 0 ∷ 0 ∷ [];
      before = [];
      one = 0;
      other = 1;
      after = [];
    }
