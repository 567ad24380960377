-- What is promised of the services: demand 2, said of the bytes that a call of follow or run with number 0 leaves in inbox and
-- report, and demand 3, said of two calls. The claims are those of Statements. Assumes nothing: these are statements.
use Rattle.std.specs.Prelude.{◌≡◌, ◌≢◌, Bool, true, ◌&&◌, ◌||◌, not, cond, List, ◌∷◌, ◌++◌, ℕ, ◌+◌, ltb, eqb, length, get_or, take}
use Rattle.std.proofs.Math.Option.{Option, none, some}
use Rattle.rules.specs.Limits.{report_size}
use Rattle.rules.specs.Sheet.{Sheet, second_in, sheet_in, P_of, N_of, inbox_total, two}
use Rattle.rules.specs.Job.{Stop, Store, in_attached, in_room, bare_entry, started}
use Rattle.rules.specs.Step.{able}
use Rattle.rules.specs.Order.{none_able}
use Rattle.rules.specs.Report.{entry_in}
use Rattle.rules.specs.Claims.{passes, calm, accepts, left_by, without_peaks}
use Rattle.rules.specs.Service.{FollowSays, RunSays}
use Rattle.promises.specs.Statements.{Told, NoPairLeft, SendsInOrder, ReceivesInOrder, EarlierFirst, MatchedReceives, MatchedSends, Delivered}
use Rattle.promises.specs.ProbeStatements.{ProbesTold, QueriesTold, ReceivesTold}
use Rattle.promises.specs.Statements.{Exact, FinishedLeavesNone, WhyStopped, Counted, Charged, BufferedByMode, most_in_use, WithinSize}

-- CALLS of follow or of run on a sheet, which answered and left what the service says, and which number 8 does not refuse.
pub record FollowCall (bs order : List ℕ) : Type 0 where
  pub number : ℕ
  pub place : ℕ
  pub inbox : List ℕ
  pub inbox_now : List ℕ
  pub report : List ℕ
  pub report_now : List ℕ
  pub scratch : List ℕ
  pub scratch_now : List ℕ
  pub said : FollowSays bs order number place inbox inbox_now report report_now scratch scratch_now
  pub not_short : number ≢ 8

pub record RunCall (bs : List ℕ) : Type 0 where
  pub number : ℕ
  pub place : ℕ
  pub inbox : List ℕ
  pub inbox_now : List ℕ
  pub report : List ℕ
  pub report_now : List ℕ
  pub order : List ℕ
  pub order_now : List ℕ
  pub scratch : List ℕ
  pub scratch_now : List ℕ
  pub said : RunSays bs number place inbox inbox_now report report_now order order_now scratch scratch_now
  pub not_short : number ≢ 8

-- inboxes start with the same bytes; lent rooms may be longer, and of different lengths
unfoldable pub SameStart : (bs i j : List ℕ) → Type 0
SameStart bs i j = take (inbox_total (sheet_in bs)) i ≡ take (inbox_total (sheet_in bs)) j

-- DEMAND 2 OF THE SERVICES

-- What the bytes of a report of an edition tell (document 01, "The report"; document 02, K6). Row r of the boards stands at
-- report_size r 0, row i of the operations at report_size P i; a rank or operation that the sheet does not have has no row, and
-- nothing to do. Use and peak of the rooms stand in the second edition's rows alone; in the first all rooms are 0, and so are they.
unfoldable pub board_row_at : (second : Bool) → (r : ℕ) → ℕ
board_row_at e r = report_size e r 0

unfoldable pub board_figure : (second : Bool) → Sheet → (report : List ℕ) → (at r : ℕ) → ℕ
board_figure e s b at r = cond (ltb r (P_of s)) (two b (board_row_at e r + at)) 0

-- where the figures of a store's account stand in a row, in use and behind it the peak
unfoldable pub store_figure : (second : Bool) → Sheet → (report : List ℕ) → (at : ℕ) → Store → (r : ℕ) → ℕ
store_figure e s b at in_attached r = board_figure e s b (2 + at) r
store_figure e s b at in_room r = cond e (board_figure e s b (8 + at) r) 0

unfoldable pub board_state_is : (second : Bool) → (report : List ℕ) → (state r : ℕ) → Bool
board_state_is e b v r = eqb (get_or b (board_row_at e r + 6) 0) v

unfoldable pub stop_in : (report : List ℕ) → Option Stop
stop_in b =
    cond (eqb (get_or b 1 0) 255) none
    (some
    (record {
      verdict = get_or b 0 0;
      rank = get_or b 1 0;
      at_op = two b 2;
    }))

unfoldable pub told_in : (second : Bool) → Sheet → (report : List ℕ) → Told
told_in e s b =
    record {
      verdict = get_or b 0 0;
      stop = stop_in b;
      steps = two b 4;
      messages = two b 10;
      receives = two b 12;
      cuts = two b 14;
      row = λ i. cond (ltb i (N_of s)) (entry_in b (report_size e (P_of s) i)) (bare_entry 0);
      finished = λ r. board_figure e s b 0 r;
      in_use = λ w r. store_figure e s b 0 w r;
      peak = λ w r. store_figure e s b 2 w r;
      is_done = λ r. not (ltb r (P_of s)) || board_state_is e b 2 r;
      is_able = λ r. ltb r (P_of s) && board_state_is e b 1 r;
    }

-- Inbox and report as a call left them, where the inbox was lent as `lent`: every claim about matches, bytes, buffers and
-- verdicts holds of what the report tells.
pub record Reported (e : Bool) (s : Sheet) (lent inbox report : List ℕ) : Type 0 where
  pub none_fit : NoPairLeft s (told_in e s report)
  pub sends_in_order : SendsInOrder s (told_in e s report)
  pub receives_in_order : ReceivesInOrder s (told_in e s report)
  pub matched_receives : MatchedReceives s (told_in e s report)
  pub matched_sends : MatchedSends s (told_in e s report)
  pub probes_told : ProbesTold s (told_in e s report)
  pub queries_told : QueriesTold s (told_in e s report)
  pub receives_told : ReceivesTold s (told_in e s report)
  pub delivered : Delivered s (told_in e s report) lent inbox
  pub verdict_exact : Exact s (told_in e s report)
  pub none_left : FinishedLeavesNone s (told_in e s report)
  pub why_stopped : WhyStopped s (told_in e s report)
  pub counted : Counted s (told_in e s report)
  pub charged : Charged s (told_in e s report)
  pub buffered_by_mode : BufferedByMode s (told_in e s report)
  pub within_size : WithinSize s (told_in e s report)

-- So it is after every call of follow with number 0, whatever the order; and then steps and peaks are the order's.
pub record FollowedSteps (e : Bool) (s : Sheet) (order lent report : List ℕ) : Type 0 where
  pub steps : (told_in e s report).steps ≡ length order
  pub peaks : (w : Store) (r : ℕ) → (told_in e s report).peak w r ≡ most_in_use w s order (started s lent) r

unfoldable pub FollowReports : Type 0
FollowReports =
    (bs order : List ℕ) (f : FollowCall bs order) → f.number ≡ 0 →
    Reported (second_in bs) (sheet_in bs) f.inbox f.inbox_now f.report_now
    × FollowedSteps (second_in bs) (sheet_in bs) order f.inbox f.report_now

-- And after every call of run with number 0. No board is able then, so the verdict is not 0; and the first bytes of order out,
-- as many as the report tells steps, are an order that follow accepts, whose steps and peaks these are.
pub record RanOrder (e : Bool) (s : Sheet) (order lent report : List ℕ) : Type 0 where
  pub ended : (told_in e s report).verdict ≢ 0
  pub accepted : accepts s (take (told_in e s report).steps order) lent ≡ true
  pub followed : FollowedSteps e s (take (told_in e s report).steps order) lent report

unfoldable pub RunReports : Type 0
RunReports =
    (bs : List ℕ) (f : RunCall bs) → f.number ≡ 0 →
    Reported (second_in bs) (sheet_in bs) f.inbox f.inbox_now f.report_now
    × RanOrder (second_in bs) (sheet_in bs) f.order_now f.inbox f.report_now

-- The order that a run wrote down, followed from inboxes that start with the same bytes, is accepted and leaves what the run
-- left: inboxes and the whole report, peaks included. Nothing is asked of the sheet.
unfoldable pub SameLeft : (bs i r j q : List ℕ) → Type 0
SameLeft bs i r j q =
    let s = sheet_in bs in
    let n = report_size (second_in bs) (P_of s) (N_of s) in
    (take (inbox_total s) i ≡ take (inbox_total s) j) × (take n r ≡ take n q)

unfoldable pub RunReplayed : Type 0
RunReplayed =
    (bs : List ℕ) (g : RunCall bs) (f : FollowCall bs (take (told_in (second_in bs) (sheet_in bs) g.report_now).steps g.order_now)) →
    g.number ≡ 0 → SameStart bs f.inbox g.inbox →
    (f.number ≡ 0) × SameLeft bs f.inbox_now f.report_now g.inbox_now g.report_now

-- Arrival decides, across senders, as two calls of follow tell it, one with a beginning of the other's order.
unfoldable pub FollowByArrival : Type 0
FollowByArrival =
    (bs before after : List ℕ) (f : FollowCall bs before) (g : FollowCall bs (before ++ after)) → f.number ≡ 0 → g.number ≡ 0 →
    EarlierFirst (sheet_in bs) (told_in (second_in bs) (sheet_in bs) f.report_now) (told_in (second_in bs) (sheet_in bs) g.report_now)

-- DEMAND 3 OF THE SERVICES

-- inboxes and reports as the calls left them are equal byte for byte, save the peaks, as far as the sheet's own room goes
unfoldable pub LeftAlike : (bs i r j q : List ℕ) → Type 0
LeftAlike bs i r j q =
    let s = sheet_in bs in
    let n = report_size (second_in bs) (P_of s) (N_of s) in
    (take (inbox_total s) i ≡ take (inbox_total s) j)
    × (without_peaks (second_in bs) (P_of s) (take n r) ≡ without_peaks (second_in bs) (P_of s) (take n q))

-- For every two orders that follow accepts and after which no board is able, follow ends alike.
unfoldable pub FollowsAlike : Type 0
FollowsAlike =
    (bs a b : List ℕ) (f : FollowCall bs a) (g : FollowCall bs b) → passes bs ≡ true → calm (sheet_in bs) ≡ true →
    SameStart bs f.inbox g.inbox → f.number ≡ 0 → g.number ≡ 0 →
    none_able (sheet_in bs) (left_by (sheet_in bs) a f.inbox) ≡ true →
    none_able (sheet_in bs) (left_by (sheet_in bs) b g.inbox) ≡ true →
    LeftAlike bs f.inbox_now f.report_now g.inbox_now g.report_now

-- And run ends alike with each.
unfoldable pub RunAlike : Type 0
RunAlike =
    (bs a : List ℕ) (f : FollowCall bs a) (g : RunCall bs) → passes bs ≡ true → calm (sheet_in bs) ≡ true →
    SameStart bs f.inbox g.inbox → f.number ≡ 0 →
    none_able (sheet_in bs) (left_by (sheet_in bs) a f.inbox) ≡ true →
    (g.number ≡ 0) × LeftAlike bs f.inbox_now f.report_now g.inbox_now g.report_now

-- For every order and every index in it: where follow accepts the beginning before that index, and the next two ranks differ
-- and are both able there, the order with these two exchanged gets the same number and place, whatever stands after them.
-- With number 0, follow ends alike for both.
unfoldable pub FollowSwaps : Type 0
FollowSwaps =
    (bs before after : List ℕ) (p q : ℕ) (f : FollowCall bs (before ++ (p ∷ q ∷ after)))
    (g : FollowCall bs (before ++ (q ∷ p ∷ after))) →
    passes bs ≡ true → calm (sheet_in bs) ≡ true → SameStart bs f.inbox g.inbox →
    let s = sheet_in bs in
    let x = left_by s before f.inbox in
    accepts s before f.inbox ≡ true → p ≢ q → able s x p ≡ true → able s x q ≡ true →
    (f.number ≡ g.number) × (f.place ≡ g.place)
    × (f.number ≡ 0 → LeftAlike bs f.inbox_now f.report_now g.inbox_now g.report_now)
