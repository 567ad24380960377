-- What a call of follow or run on a sheet that passes has said, once number 8 does not refuse it: the rooms suffice, the
-- answer is the order's, and on success inbox and report hold what the job left.
--   FollowAnswer, follow_answer     of a call of follow
--   follow_accepted ..               and of one that answered 0
--   left_kept, follow_kept           and of one that was refused
--   RunAnswer, run_answer           of a call of run
--   follow_lent, run_lent            so the claims of Statements hold of it
--   front_report                     the report at the front of its room
-- Assumes nothing.
use Rattle.std.specs.Prelude.{◌≡◌, ◌≢◌, List, ℕ, ◌≤◌, eqb, length, take, drop}
use Rattle.std.proofs.Math.Path.{refl, sym, ap}
use Rattle.std.proofs.Common.{◌∙◌, arith, take_at, eq-eqb, eqb-true, ne_eqb}
use Rattle.std.proofs.Math.Bool.{true}
use Rattle.std.proofs.Math.Option.{Option, none, some}
use Rattle.rules.specs.Limits.{order_room}
use Rattle.rules.specs.Sheet.{second_in, sheet_in, N_of, inbox_total}
use Rattle.rules.specs.Refusal.{Refusal, refusal, or_else, sheet_refusal}
use Rattle.rules.specs.Step.{is_none}
use Rattle.rules.specs.Order.{follow, run}
use Rattle.rules.specs.Report.{report}
use Rattle.rules.specs.Service.{Answers, room_refusal, order_refusal, in_front, kept_or, follow_refusal, FollowSays, run_refusal, RunSays}
use Rattle.rules.specs.Claims.{passes, accepts, left_by}
use Rattle.laws.specs.Tests.{cond_true, cond_false}
use Rattle.laws.specs.Broken.{or_else_passed, or_else_stopped}
use Rattle.laws.specs.Rooms.{Roomy, not_eight, rooms_enough}
use Rattle.promises.specs.Statements.{Lent}
use Rattle.promises.specs.ServiceStatements.{FollowCall, RunCall}

passed_number : (bs : List ℕ) → passes bs ≡ true → (sheet_refusal bs).number ≡ 0
unfolding passes
passed_number bs h = eqb-true (sheet_refusal bs).number 0 h

-- the first `size` bytes of a room in whose front a report of that size stands
pub front_report : (new old : List ℕ) (size : ℕ) → length new ≡ size → take size (in_front new old) ≡ new
unfolding in_front
front_report new old size h = take_at new (drop (length new) old) size h

kept_new : (n : ℕ) (new old : List ℕ) → n ≡ 0 → kept_or n new old ≡ new
unfolding kept_or
kept_new n new old h = cond_true (eqb n 0) new old (eq-eqb n 0 h)

-- what a refusal leaves
pub left_kept : {n number : ℕ} (new old : List ℕ) {now : List ℕ} → n ≡ number → n ≢ 0 → now ≡ kept_or number new old → now ≡ old
unfolding kept_or
left_kept {n} {number} new old e h k = k ∙ cond_false (eqb number 0) new old (ne_eqb number 0 (λ z. h (e ∙ z)))

-- FOLLOW
pub follow_kept : {bs o : List ℕ} (f : FollowCall bs o) → f.number ≢ 0 → (f.inbox_now ≡ f.inbox) × (f.report_now ≡ f.report)
unfolding FollowSays Answers
follow_kept f h = (left_kept _ f.inbox f.said.0.0 h f.said.1, left_kept _ f.report f.said.0.0 h f.said.2)

pub record FollowAnswer {bs o : List ℕ} (f : FollowCall bs o) : Type 0 where
  pub inbox_room : inbox_total (sheet_in bs) ≤ length f.inbox
  pub number_is : f.number ≡ (order_refusal (follow (sheet_in bs) o f.inbox).refused_at).number
  pub place_is : f.place ≡ (order_refusal (follow (sheet_in bs) o f.inbox).refused_at).place

module _ {bs o : List ℕ} (p : passes bs ≡ true) (f : FollowCall bs o) where
  abbrev follow_rooms : Refusal
  follow_rooms =
      room_refusal (second_in bs) (sheet_in bs) (length f.inbox) (length f.report) (order_room (N_of (sheet_in bs)))
      (length f.scratch)

  abbrev follow_order : Refusal
  follow_order = order_refusal (follow (sheet_in bs) o f.inbox).refused_at

  abbrev follow_number : Refusal
  follow_number = follow_refusal bs o f.inbox (length f.report) (length f.scratch)

  follow_told : Answers follow_number f.number f.place
  unfolding FollowSays
  follow_told = f.said.0

  after_sheet : follow_number ≡ or_else follow_rooms follow_order
  unfolding follow_refusal
  after_sheet = or_else_passed (sheet_refusal bs) (or_else follow_rooms follow_order) (passed_number bs p)

  follow_enough : Roomy (second_in bs) (sheet_in bs) (length f.inbox) (length f.report) (order_room (N_of (sheet_in bs)))
      (length f.scratch)
  unfolding Answers
  follow_enough =
      not_eight (second_in bs) (sheet_in bs) (length f.inbox) (length f.report) (order_room (N_of (sheet_in bs))) (length f.scratch)
      (λ e. f.not_short (follow_told.0 ∙ ap (λ (z : Refusal). z.number)
      (after_sheet ∙ or_else_stopped follow_rooms follow_order (λ z. omega arith)) ∙ e))

  after_rooms : follow_number ≡ follow_order
  unfolding refusal
  after_rooms =
      after_sheet ∙ or_else_passed follow_rooms follow_order
      (ap (λ (z : Refusal). z.number) (rooms_enough (second_in bs) (sheet_in bs) (length f.inbox) (length f.report) (order_room (N_of (sheet_in bs))) (length f.scratch)
      follow_enough))

  pub follow_answer : FollowAnswer f
  unfolding Answers
  follow_answer =
      record {
        inbox_room = follow_enough.inbox;
        number_is = follow_told.0 ∙ ap (λ (z : Refusal). z.number) after_rooms;
        place_is = follow_told.1 ∙ ap (λ (z : Refusal). z.place) after_rooms;
      }

  -- so the claims hold of what its order leaves
  pub follow_lent : Lent bs f.inbox
  follow_lent =
      record {
        passing = p;
        room = follow_answer.inbox_room;
      }

  -- success
  module _ (success : f.number ≡ 0) where
    number_zero : follow_number.number ≡ 0
    unfolding Answers
    number_zero = sym follow_told.0 ∙ success

    pub follow_accepted : accepts (sheet_in bs) o f.inbox ≡ true
    unfolding accepts order_refusal refusal is_none
    follow_accepted = go (follow (sheet_in bs) o f.inbox).refused_at (sym follow_answer.number_is ∙ success)
      where
        go : (r : Option ℕ) → (order_refusal r).number ≡ 0 → is_none r ≡ true
        go none h = refl
        go (some k) h = absurd (omega arith)

    pub follow_inbox : f.inbox_now ≡ (left_by (sheet_in bs) o f.inbox).memory
    unfolding FollowSays left_by
    follow_inbox = f.said.1 ∙ kept_new follow_number.number _ f.inbox number_zero

    pub follow_report : f.report_now ≡ in_front (report (second_in bs) (sheet_in bs) (left_by (sheet_in bs) o f.inbox)) f.report
    unfolding FollowSays left_by
    follow_report = f.said.2 ∙ kept_new follow_number.number _ f.report number_zero

-- RUN, which answers 0 where number 8 does not refuse it
pub record RunAnswer {bs : List ℕ} (f : RunCall bs) : Type 0 where
  pub inbox_room : inbox_total (sheet_in bs) ≤ length f.inbox
  pub number_zero : f.number ≡ 0
  pub inbox_is : f.inbox_now ≡ (run (sheet_in bs) f.inbox).end.memory
  pub report_is : f.report_now ≡ in_front (report (second_in bs) (sheet_in bs) (run (sheet_in bs) f.inbox).end) f.report
  pub order_is : f.order_now ≡ in_front (run (sheet_in bs) f.inbox).order f.order

pub run_answer : {bs : List ℕ} → passes bs ≡ true → (f : RunCall bs) → RunAnswer f
unfolding RunSays Answers run_refusal refusal
run_answer {bs} p f =
    record {
      inbox_room = enough.inbox;
      number_zero = f.said.0.0 ∙ all_zero;
      inbox_is = f.said.1 ∙ kept_new answer.number _ f.inbox all_zero;
      report_is = f.said.2 ∙ kept_new answer.number _ f.report all_zero;
      order_is = f.said.3 ∙ kept_new answer.number _ f.order all_zero;
    }
  where
    answer : Refusal
    answer = run_refusal bs (length f.inbox) (length f.report) (length f.order) (length f.scratch)

    run_rooms : Refusal
    run_rooms = room_refusal (second_in bs) (sheet_in bs) (length f.inbox) (length f.report) (length f.order) (length f.scratch)

    answer_rooms : answer ≡ run_rooms
    answer_rooms = or_else_passed (sheet_refusal bs) run_rooms (passed_number bs p)

    enough : Roomy (second_in bs) (sheet_in bs) (length f.inbox) (length f.report) (length f.order) (length f.scratch)
    enough =
        not_eight (second_in bs) (sheet_in bs) (length f.inbox) (length f.report) (length f.order) (length f.scratch)
        (λ e. f.not_short (f.said.0.0 ∙ ap (λ (z : Refusal). z.number) answer_rooms ∙ e))

    all_zero : answer.number ≡ 0
    all_zero = ap (λ (z : Refusal). z.number) (answer_rooms
        ∙ rooms_enough (second_in bs) (sheet_in bs) (length f.inbox) (length f.report) (length f.order) (length f.scratch) enough)

pub run_lent : {bs : List ℕ} → passes bs ≡ true → (f : RunCall bs) → Lent bs f.inbox
run_lent p f =
    record {
      passing = p;
      room = (run_answer p f).inbox_room;
    }
