-- The three demands as callers of the services see them (document 01, "What is pinned down"): of answers, and of the bytes of
-- rooms before and after the calls. Assumes nothing: these are definitions.
use Rattle.std.specs.Prelude.{◌≡◌, ◌≢◌, ◌↔◌, true, List, ◌∷◌, ◌++◌, ℕ, ◌<◌, ◌≤◌, length, get_or, take}
use Rattle.rules.specs.Limits.{header_size}
use Rattle.rules.specs.Crc.{crc}
use Rattle.rules.specs.Sheet.{second_in, sheet_in}
use Rattle.rules.specs.Step.{splice, able}
use Rattle.rules.specs.Report.{low_two}
use Rattle.rules.specs.Claims.{passes, calm, accepts, left_by}
use Rattle.sheet.specs.declared.Answer.{Answer}
use Rattle.promises.specs.Statements.{EarlierFirst}
use Rattle.promises.specs.EditionStatements.{SameInBoth, WidenedLeft}
use Rattle.promises.specs.ExchangeStatements.{ExchangeSheet, Exchangeable, InClass}
use Rattle.promises.specs.ServiceStatements.{FollowCall, told_in, Reported, FollowedSteps, RanOrder, SameStart, SameLeft, LeftAlike}

-- what a caller sees of a call of follow or run: the answer, and inbox and report as they were lent and as the call left them
pub record Seen : Type 0 where
  pub answer : Answer
  pub inbox : List ℕ
  pub inbox_now : List ℕ
  pub report : List ℕ
  pub report_now : List ℕ

abbrev pub seen : Answer → (inbox inbox_now report report_now : List ℕ) → Seen
seen a i i_now r r_now =
    record {
      answer = a;
      inbox = i;
      inbox_now = i_now;
      report = r;
      report_now = r_now;
    }

-- the verdict is the report's first byte
abbrev pub verdict_in : Seen → ℕ
verdict_in f = get_or f.report_now 0 0

-- DEMANDS 1 AND 2 of one call of follow or run

-- A refusal puts nothing in inbox and report. With number 0 the sheet passes check, and what inbox and report then say keeps
-- the rules (promises: Reported).
pub record KeptRules (bs : List ℕ) (f : Seen) : Type 0 where
  pub refused : f.answer.number ≢ 0 → (f.inbox_now ≡ f.inbox) × (f.report_now ≡ f.report)
  pub passing : f.answer.number ≡ 0 → passes bs ≡ true
  pub reported : f.answer.number ≡ 0 → Reported (second_in bs) (sheet_in bs) f.inbox f.inbox_now f.report_now

-- A sheet that carries the CRC it is told to carry is not refused with 4. Nothing else of it was changed; one that is short of
-- a header was not changed at all.
pub record CrcCarried (bs bs_now : List ℕ) (checked : Answer) : Type 0 where
  pub put : header_size ≤ length bs → bs_now ≡ splice bs 14 (low_two (crc bs))
  pub short : length bs < header_size → bs_now ≡ bs
  pub not_refused : checked.number ≢ 4

-- Check refuses exactly what follow refuses with 1 to 7, with the same number and place.
unfoldable pub SameAnswer : (a b : Answer) → Type 0
SameAnswer a b = (a.number ≡ b.number) × (a.place ≡ b.place)

pub record CheckAgrees (checked : Answer) (f : Seen) : Type 0 where
  pub refused : checked.number ≢ 0 → SameAnswer f.answer checked
  pub refuses : f.answer.number ≢ 0 → f.answer.number ≤ 7 → SameAnswer f.answer checked

-- Of follow also: with number 0 steps and peaks are the order's (promises: FollowedSteps).
pub record CheckAndFollow (bs order : List ℕ) (checked : Answer) (f : Seen) : Type 0 where
  pub agrees : CheckAgrees checked f
  pub keeps : KeptRules bs f
  pub steps : f.answer.number ≡ 0 → FollowedSteps (second_in bs) (sheet_in bs) order f.inbox f.report_now

-- Of run also: a refusal puts nothing in order out; with number 0 no board is able, and order out has the order that was taken
-- (promises: RanOrder).
pub record RunKeeps (bs : List ℕ) (f : Seen) (order order_now : List ℕ) : Type 0 where
  pub keeps : KeptRules bs f
  pub order_kept : f.answer.number ≢ 0 → order_now ≡ order
  pub ran : f.answer.number ≡ 0 → RanOrder (second_in bs) (sheet_in bs) order_now f.inbox f.report_now

-- DEMAND 2 of two calls of follow, f with a beginning of g's order

-- Arrival decides, across senders (promises: EarlierFirst).
unfoldable pub ArrivalTold : (bs one other : List ℕ) (f g : Seen) → Type 0
ArrivalTold bs one other f g =
    (after : List ℕ) → other ≡ one ++ after → f.answer.number ≡ 0 → g.answer.number ≡ 0 →
    EarlierFirst (sheet_in bs) (told_in (second_in bs) (sheet_in bs) f.report_now) (told_in (second_in bs) (sheet_in bs) g.report_now)

-- THE PREMISE: the sheet passes check and is calm; 8 refuses neither call; the inboxes start with the same bytes
pub record Compared (bs : List ℕ) (f g : Seen) : Type 0 where
  pub passing : passes bs ≡ true
  pub calm_sheet : calm (sheet_in bs) ≡ true
  pub not_short : f.answer.number ≢ 8
  pub not_short_too : g.answer.number ≢ 8
  pub same_start : SameStart bs f.inbox g.inbox

-- follow accepted the order, and after it no board is able: the verdict, the report's first byte, is not 0
unfoldable pub Ended : Seen → Type 0
Ended f = (f.answer.number ≡ 0) × (verdict_in f ≢ 0)

-- inboxes and reports end equal byte for byte, save the peaks, as far as the sheet's own room goes
unfoldable pub CallsAlike : (bs : List ℕ) (f g : Seen) → Type 0
CallsAlike bs f g = LeftAlike bs f.inbox_now f.report_now g.inbox_now g.report_now

-- DEMAND 3 of two calls of follow on one sheet

-- For every two orders that follow accepts and after which no board is able, follow ends alike.
unfoldable pub TwoOrders : (bs : List ℕ) (f g : Seen) → Type 0
TwoOrders bs f g = Compared bs f g → Ended f → Ended g → CallsAlike bs f g

-- For every order and every index in it: where follow accepts the beginning before that index, and the next two ranks differ
-- and are both able there, the order with these two exchanged gets the same number and place, whatever stands after them.
-- With number 0, follow ends alike for both.
unfoldable pub Exchanged : (bs order exchanged : List ℕ) (f g : Seen) → Type 0
Exchanged bs order exchanged f g =
    (before after : List ℕ) (p q : ℕ) → order ≡ before ++ (p ∷ q ∷ after) → exchanged ≡ before ++ (q ∷ p ∷ after) →
    Compared bs f g →
    let s = sheet_in bs in
    let x = left_by s before f.inbox in
    accepts s before f.inbox ≡ true → p ≢ q → able s x p ≡ true → able s x q ≡ true →
    (f.answer.number ≡ g.answer.number) × (f.answer.place ≡ g.answer.place)
    × (f.answer.number ≡ 0 → CallsAlike bs f g)

-- ORDERS OF ONE CLASS of two calls of follow (document 02, K14), on a sheet whose receives may be from any source: where exchanges of
-- steps that may trade places lead from the one order to the other (one exchange, or several one after the other), the calls get
-- the same number and place, and with number 0 follow ends alike for both (promises: FollowSameClass).
unfoldable pub OneClass : (bs one other : List ℕ) (f g : Seen) → Type 0
OneClass bs one other f g =
    passes bs ≡ true → ExchangeSheet bs → f.answer.number ≢ 8 → g.answer.number ≢ 8 → SameStart bs f.inbox g.inbox →
    InClass Exchangeable (sheet_in bs) f.inbox one other →
    (f.answer.number ≡ g.answer.number) × (f.answer.place ≡ g.answer.place)
    × (f.answer.number ≡ 0 → CallsAlike bs f g)

pub record FollowDemands (bs one other : List ℕ) (f g : Seen) : Type 0 where
  pub end_alike : TwoOrders bs f g
  pub exchange : Exchanged bs one other f g
  pub arrival : ArrivalTold bs one other f g
  pub one_class : OneClass bs one other f g

-- THE TWO EDITIONS of a sheet without rooms (document 02, K6), followed with one order from inboxes with the same bytes: the same
-- number and place, and with number 0 the same inbox, and the report with four zero bytes after each board row (promises:
-- FollowEditions).
unfoldable pub BothEditions : (one two : List ℕ) (f g : Seen) → Type 0
BothEditions one two f g =
    SameInBoth one two → passes one ≡ true → passes two ≡ true → f.answer.number ≢ 8 → g.answer.number ≢ 8 → f.inbox ≡ g.inbox →
    (f.answer.number ≡ g.answer.number) × (f.answer.place ≡ g.answer.place)
    × (f.answer.number ≡ 0 → WidenedLeft one f.inbox_now f.report_now g.inbox_now g.report_now)

-- Two calls of follow: on one sheet demands 2 and 3 and orders of one class, with one order the two editions.
pub record TwoFollows (bs cs one other : List ℕ) (f g : Seen) : Type 0 where
  pub on_one_sheet : bs ≡ cs → FollowDemands bs one other f g
  pub with_one_order : one ≡ other → BothEditions bs cs f g

-- DEMANDS 2 AND 3 of a call of follow, f, and one of run, g, which left `order_now` in order out

-- Run ends alike with every order that follow accepts and after which no board is able.
unfoldable pub RunAsFollowed : (bs : List ℕ) (f g : Seen) → Type 0
RunAsFollowed bs f g = Compared bs f g → Ended f → (g.answer.number ≡ 0) × CallsAlike bs f g

-- On any sheet: the order that run wrote down, followed, leaves what run left, peaks included (promises: RunReplayed).
unfoldable pub Replayed : (bs order order_now : List ℕ) (f g : Seen) → Type 0
Replayed bs order order_now f g =
    order ≡ take (told_in (second_in bs) (sheet_in bs) g.report_now).steps order_now → f.answer.number ≢ 8 → g.answer.number ≡ 0 →
    SameStart bs f.inbox g.inbox →
    (f.answer.number ≡ 0) × SameLeft bs f.inbox_now f.report_now g.inbox_now g.report_now

pub record FollowAndRun (bs order order_now : List ℕ) (f g : Seen) : Type 0 where
  pub end_alike : RunAsFollowed bs f g
  pub replay : Replayed bs order order_now f g

-- THE PREMISE SERVICE AND RUN: one verdict for all orders

-- The service answers 0 exactly where demand 3's premise holds of the sheet. Where it does and 8 does not refuse the run, run
-- answers 0, and every call of follow from inboxes that start with the same bytes, with number 0 and after which no board is
-- able, leaves what run left, peaks aside, and tells run's verdict.
unfoldable pub AsRun : (bs : List ℕ) (f : Seen) → Type 0
AsRun bs f =
    (order : List ℕ) (g : FollowCall bs order) → SameStart bs g.inbox f.inbox → g.number ≡ 0 →
    get_or g.report_now 0 0 ≢ 0 →
    LeftAlike bs g.inbox_now g.report_now f.inbox_now f.report_now × (get_or g.report_now 0 0 ≡ verdict_in f)

pub record OneForAll (bs : List ℕ) (asked : Answer) (f : Seen) : Type 0 where
  pub exact : (asked.number ≡ 0) ↔ ((passes bs ≡ true) × (calm (sheet_in bs) ≡ true))
  pub runs : asked.number ≡ 0 → f.answer.number ≢ 8 → f.answer.number ≡ 0
  pub as_run : asked.number ≡ 0 → f.answer.number ≢ 8 → AsRun bs f
