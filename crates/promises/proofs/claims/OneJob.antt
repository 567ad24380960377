-- What every order keeps, said of a sheet's bytes and the lent inboxes: bytes that pass give a valid sheet, an order keeps
-- the invariant, and so the statements about one job hold of whatever an order leaves.
--   lent_valid, lent_reached     a valid sheet; the invariant of the job that an order leaves
--   deliveries, verdicts, no_request_left, in_use, peaks, buffers_hold, counts, steps
-- Assumes nothing.
use Rattle.std.specs.Prelude.{refl, List, ℕ}
use Rattle.std.proofs.Common.{◌∙◌, arith}
use Rattle.rules.specs.Sheet.{sheet_in}
use Rattle.rules.specs.Job.{job, started}
use Rattle.rules.specs.Order.{follow}
use Rattle.rules.specs.Report.{pending_messages, pending_receives, cut_messages, is_pending_message, is_pending_receive}
use Rattle.rules.specs.Claims.{accepts, left_by}
use Rattle.promises.specs.Statements.{Lent, told_by, Deliveries, Exact, Verdicts, FinishedLeavesNone, NoRequestLeft, Charged, InUse, Peaks, BufferedByMode, KeptInOne, WithinSize, BuffersHold, Counts, Steps}
use Rattle.invariant.specs.sheet.Valid.{Valid}
use Rattle.invariant.specs.sheet.FromBytes.{valid_from_bytes}
use Rattle.invariant.specs.Invariant.{Reached}
use Rattle.invariant.specs.deliveries.Commute.{delivery_laws}
use Rattle.invariant.specs.preserve.Orders.{start_peak, start_reached, left_reached}
use Rattle.promises.proofs.claims.Deliveries.{deliveries_reached}
use Rattle.promises.proofs.claims.Verdicts.{verdict_reached}
use Rattle.promises.proofs.claims.RequestsLeft.{none_left}
use Rattle.promises.proofs.claims.Figures.{in_use_reached, kept_reached, follow_peak, follow_steps}

pub lent_valid : {bs i : List ℕ} → Lent bs i → Valid (sheet_in bs)
lent_valid {bs} h = valid_from_bytes bs h.passing

pub lent_reached : {bs i : List ℕ} (h : Lent bs i) (rs : List ℕ) → Reached (sheet_in bs) i (left_by (sheet_in bs) rs i)
lent_reached {bs} h rs = left_reached (lent_valid h) (delivery_laws (sheet_in bs) (lent_valid h)) h.room rs

pub deliveries : Deliveries
unfolding Deliveries
deliveries bs i rs h = deliveries_reached (sheet_in bs) (lent_valid h) i (left_by (sheet_in bs) rs i) (lent_reached h rs) h.room

pub verdicts : Verdicts
unfolding Verdicts Exact told_by
verdicts bs i rs h = verdict_reached (sheet_in bs) (lent_valid h) (left_by (sheet_in bs) rs i) (lent_reached h rs).stop_at

pub no_request_left : NoRequestLeft
unfolding NoRequestLeft FinishedLeavesNone Verdicts Exact told_by
no_request_left bs i rs h e =
    none_left (lent_valid h) (lent_reached h rs) ((verdicts bs i rs h).finished.0 e).1

pub in_use : InUse
unfolding InUse Charged told_by
in_use bs i rs h w r l = in_use_reached (lent_reached h rs) w r l

pub kept_in_one : KeptInOne
unfolding KeptInOne BufferedByMode told_by
kept_in_one bs i rs h m two = kept_reached (lent_reached h rs) m two

pub peaks : Peaks
unfolding Peaks left_by follow
peaks bs i rs w r h =
    omega (
      arith,
      follow_peak (lent_valid h) (delivery_laws (sheet_in bs) (lent_valid h)) h.room w r 0 rs
          (start_reached (lent_valid h) i),
      start_peak (lent_valid h) i w r,
    )

pub buffers_hold : BuffersHold
unfolding BuffersHold WithinSize told_by
buffers_hold bs i rs h w r l = let R = lent_reached h rs in (R.in_use_peak w r, R.peak_size w r l)

pub counts : Counts
unfolding Counts told_by pending_messages pending_receives cut_messages is_pending_message is_pending_receive
counts bs i rs h =
    record {
      messages = refl;
      receives = refl;
      cuts = refl;
    }

pub steps : Steps
unfolding Steps told_by accepts left_by follow started job
steps bs i rs h e =
    follow_steps (lent_valid h) (delivery_laws (sheet_in bs) (lent_valid h)) h.room 0 rs (start_reached (lent_valid h) i) e
    ∙ omega arith
