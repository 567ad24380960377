-- From what the services ensure of a call to the conclusions of the demands. Assumes nothing.
--   verdict_byte, none_left    the report's first byte is the verdict; where it is not 0 no board is able
--   FollowSeen, RunSeen      what a service's contract says of a call
--   check_and_follow           of a call of check and one of follow
--   run_keeps                  of a call of run
--   two_follows                of two calls of follow
--   follow_and_run             of a call of follow and one of run
--   one_for_all                of a call of premise and one of run
use Rattle.std.specs.Prelude.{◌≡◌, ◌≢◌, Bool, true, false, ℕ, ◌≤◌, length, get_or}
use Rattle.std.proofs.Math.Path.{refl, sym, ap}
use Rattle.std.proofs.Common.{subst, ◌∙◌, eq-eqb}
use mathlib.Core.List.{List}
use Rattle.std.proofs.Math.Option.{Option, none, some}
use native.Mathlib.Omega.{arith}
use Rattle.rules.specs.Limits.{order_room}
use Rattle.rules.specs.Sheet.{Sheet, second_in, sheet_in, P_of, N_of}
use Rattle.rules.specs.Job.{Job}
use Rattle.rules.specs.Refusal.{Refusal, refusal, or_else, sheet_refusal}
use Rattle.rules.specs.Order.{follow, none_able}
use Rattle.rules.specs.Report.{verdict_of, header_bytes, report}
use Rattle.rules.specs.Service.{Answers, room_refusal, order_refusal, in_front, CheckSays, follow_refusal, FollowSays, RunSays}
use Rattle.rules.specs.Claims.{passes, calm, left_by}
use Rattle.rules.specs.Premise.{PremiseSays}
use Rattle.laws.specs.Premise.{premise_holds, calm_premise}
use Rattle.sheet.specs.declared.Answer.{Answer}
use Rattle.laws.specs.Broken.{or_else_stopped}
use Rattle.invariant.specs.step.LowestAble.{next_able}
use Rattle.promises.specs.Statements.{told_by, Exact, Verdicts}
use Rattle.promises.specs.ServiceStatements.{FollowCall, RunCall, LeftAlike, FollowReports}
use Rattle.promises.specs.ServiceStatements.{RunReports, RunReplayed, FollowByArrival, FollowsAlike, RunAlike, FollowSwaps}
use Rattle.promises.specs.EditionStatements.{FollowEditions}
use Rattle.promises.specs.ExchangeStatements.{FollowSameClass}
use Rattle.promises.proofs.Theorems.{verdicts, follow_reports, run_reports, run_replayed, follow_by_arrival, follows_alike, run_alike, follow_swaps, follow_same_class, follow_editions}
use Rattle.promises.proofs.compare.ReportBytes.{first_byte}
use Rattle.promises.proofs.claims.Calls.{left_kept, follow_answer, follow_lent, follow_report, run_answer}
use Rattle.promises.proofs.claims.Reported.{follow_passes, run_passes}
use Rattle.demands.specs.Demands.{Seen, KeptRules, SameAnswer, CheckAndFollow, RunKeeps, Ended, CallsAlike}
use Rattle.demands.specs.Demands.{ArrivalTold, TwoOrders, Exchanged, OneClass, FollowDemands, TwoFollows, RunAsFollowed, Replayed, FollowAndRun, BothEditions, AsRun, OneForAll}

-- NO BOARD IS ABLE, by the report
verdict_byte : (e : Bool) (s : Sheet) (x : Job) (old : List ℕ) → get_or (in_front (report e s x) old) 0 0 ≡ verdict_of x.stop s x
unfolding in_front report header_bytes
verdict_byte e s x old = refl

none_left : {bs o : List ℕ} → passes bs ≡ true → (f : FollowCall bs o) → f.number ≡ 0 → get_or f.report_now 0 0 ≢ 0 →
    none_able (sheet_in bs) (left_by (sheet_in bs) o f.inbox) ≡ true
unfolding Verdicts Exact told_by
none_left {bs} {o} p f success differs = go (none_able s x) refl
  where
    s : Sheet
    s = sheet_in bs

    x : Job
    x = left_by s o f.inbox

    byte : get_or f.report_now 0 0 ≡ verdict_of x.stop s x
    byte = ap (λ (r : List ℕ). get_or r 0 0) (follow_report p f success) ∙ verdict_byte (second_in bs) s x f.report

    go : (b : Bool) → none_able s x ≡ b → b ≡ true
    go true e = refl
    go false e = absurd (differs (byte ∙ (verdicts bs f.inbox o (follow_lent p f)).still_able.1 (next_able s x e)))

-- CALLS: what a service's contract says of a call, in what the caller saw of it and the other rooms; and the same call as
-- promises has it, once number 8 does not refuse it
pub record FollowSeen (bs order : List ℕ) (f : Seen) : Type 0 where
  pub scratch : List ℕ
  pub scratch_now : List ℕ
  pub said :
      FollowSays bs order f.answer.number f.answer.place f.inbox f.inbox_now f.report f.report_now
      scratch scratch_now

pub record RunSeen (bs : List ℕ) (f : Seen) (order order_now : List ℕ) : Type 0 where
  pub scratch : List ℕ
  pub scratch_now : List ℕ
  pub said :
      RunSays bs f.answer.number f.answer.place f.inbox f.inbox_now f.report f.report_now order order_now
      scratch scratch_now

abbrev follow_call : {bs o : List ℕ} {f : Seen} → FollowSeen bs o f → f.answer.number ≢ 8 → FollowCall bs o
follow_call {bs} {o} {f} h not_short =
    record {
      number = f.answer.number;
      place = f.answer.place;
      inbox = f.inbox;
      inbox_now = f.inbox_now;
      report = f.report;
      report_now = f.report_now;
      scratch = h.scratch;
      scratch_now = h.scratch_now;
      said = h.said;
      not_short = not_short;
    }

abbrev run_call : {bs : List ℕ} {f : Seen} {o o_now : List ℕ} → RunSeen bs f o o_now → f.answer.number ≢ 8 → RunCall bs
run_call {bs} {f} {o} {o_now} h not_short =
    record {
      number = f.answer.number;
      place = f.answer.place;
      inbox = f.inbox;
      inbox_now = f.inbox_now;
      report = f.report;
      report_now = f.report_now;
      order = o;
      order_now = o_now;
      scratch = h.scratch;
      scratch_now = h.scratch_now;
      said = h.said;
      not_short = not_short;
    }

-- DEMANDS 1 AND 2
module _ {bs o : List ℕ} {f : Seen} (a : FollowSeen bs o f) where
  abbrev follow_success : f.answer.number ≡ 0 → FollowCall bs o
  follow_success e = follow_call a (λ z. omega arith)

  follow_keeps : KeptRules bs f
  unfolding FollowSays Answers FollowReports
  follow_keeps =
      record {
        refused =
            λ h. (
              left_kept _ f.inbox a.said.0.0 h a.said.1,
              left_kept _ f.report a.said.0.0 h a.said.2,
            );
        passing = λ e. follow_passes (follow_success e) e;
        reported = λ e. (follow_reports bs o (follow_success e) e).0;
      }

  module _ (checked : Answer) (c : CheckSays bs checked.number checked.place) where
    -- a refusal of the sheet is the call's
    sheet_first : checked.number ≢ 0 → SameAnswer f.answer checked
    unfolding CheckSays FollowSays Answers follow_refusal SameAnswer
    sheet_first h =
        let rest = or_else (room_refusal (second_in bs) (sheet_in bs) (length f.inbox) (length f.report) (order_room (N_of (sheet_in bs))) (length a.scratch))
        (order_refusal (follow (sheet_in bs) o f.inbox).refused_at) in
        let same = or_else_stopped (sheet_refusal bs) rest (λ z. h (c.0 ∙ z)) in
        (a.said.0.0 ∙ ap (λ (r : Refusal). r.number) same ∙ sym c.0, a.said.0.1 ∙ ap (λ (r : Refusal). r.place) same ∙ sym c.1)

    -- where the sheet passes, a call that 8 does not refuse answers 0 or 9
    order_number : (k : Option ℕ) → (order_refusal k).number ≢ 0 → (order_refusal k).number ≤ 7 → ⊥
    unfolding order_refusal refusal
    order_number none h l = h refl
    order_number (some k) h l = omega arith

    after_passing : checked.number ≡ 0 → f.answer.number ≢ 0 → f.answer.number ≤ 7 → ⊥
    unfolding CheckSays Answers passes
    after_passing z h l =
        let call = follow_call a (λ e. omega arith) in
        let number = (follow_answer (eq-eqb (sheet_refusal bs).number 0 (sym c.0 ∙ z)) call).number_is in
        order_number (follow (sheet_in bs) o f.inbox).refused_at (λ e. h (number ∙ e)) (omega (arith, number))

    pub check_and_follow : CheckAndFollow bs o checked f
    unfolding FollowReports
    check_and_follow =
        record {
          agrees =
              record {
                refused = sheet_first;
                refuses = λ h l. sheet_first (λ z. after_passing z h l);
              };
          keeps = follow_keeps;
          steps = λ e. (follow_reports bs o (follow_success e) e).1;
        }

module _ {bs : List ℕ} {f : Seen} {o o_now : List ℕ} (a : RunSeen bs f o o_now) where
  abbrev run_success : f.answer.number ≡ 0 → RunCall bs
  run_success e = run_call a (λ z. omega arith)

  pub run_keeps : RunKeeps bs f o o_now
  unfolding RunSays Answers RunReports
  run_keeps =
      record {
        keeps =
            record {
              refused =
                  λ h. (
                    left_kept _ f.inbox a.said.0.0 h a.said.1,
                    left_kept _ f.report a.said.0.0 h a.said.2,
                  );
              passing = λ e. run_passes (run_success e) e;
              reported = λ e. (run_reports bs (run_success e) e).0;
            };
        order_kept = λ h. left_kept _ o a.said.0.0 h a.said.3;
        ran = λ e. (run_reports bs (run_success e) e).1;
      }

-- DEMAND 3
module _ {bs one other : List ℕ} {f g : Seen} (a : FollowSeen bs one f) (b : FollowSeen bs other g) where
  two_orders : TwoOrders bs f g
  unfolding TwoOrders Ended CallsAlike FollowsAlike
  two_orders h end_f end_g =
      let F = follow_call a h.not_short in
      let G = follow_call b h.not_short_too in
      follows_alike bs one other F G h.passing h.calm_sheet h.same_start end_f.0 end_g.0
      (none_left h.passing F end_f.0 end_f.1) (none_left h.passing G end_g.0 end_g.1)

  exchanged : Exchanged bs one other f g
  unfolding Exchanged CallsAlike FollowSwaps
  exchanged before after p q one_is other_is h =
      follow_swaps bs before after p q
      (follow_call (subst (λ (o : List ℕ). FollowSeen bs o f) one_is a) h.not_short)
      (follow_call (subst (λ (o : List ℕ). FollowSeen bs o g) other_is b) h.not_short_too)
      h.passing h.calm_sheet h.same_start

  arrival : ArrivalTold bs one other f g
  unfolding ArrivalTold FollowByArrival
  arrival after other_is zero_f zero_g =
      follow_by_arrival bs one after (follow_success a zero_f)
      (follow_success (subst (λ (o : List ℕ). FollowSeen bs o g) other_is b) zero_g) zero_f zero_g

  one_class : OneClass bs one other f g
  unfolding OneClass CallsAlike FollowSameClass
  one_class pass sheet not_short not_short_too same in_class =
      let answer = follow_same_class bs one other (follow_call a not_short) (follow_call b not_short_too) pass sheet same in_class in
      (answer.number, answer.place, answer.left)

  follow_demands : FollowDemands bs one other f g
  follow_demands =
      record {
        end_alike = two_orders;
        exchange = exchanged;
        arrival = arrival;
        one_class = one_class;
      }

module _ {bs o : List ℕ} {f g : Seen} {w w_now : List ℕ} (a : FollowSeen bs o f) (b : RunSeen bs g w w_now) where
  run_as_followed : RunAsFollowed bs f g
  unfolding RunAsFollowed Ended CallsAlike RunAlike
  run_as_followed h end_f =
      let F = follow_call a h.not_short in
      run_alike bs o F (run_call b h.not_short_too) h.passing h.calm_sheet h.same_start end_f.0
      (none_left h.passing F end_f.0 end_f.1)

  replayed : Replayed bs o w_now f g
  unfolding Replayed RunReplayed
  replayed order_is not_short zero_g same =
      run_replayed bs (run_success b zero_g) (follow_call (subst (λ (z : List ℕ). FollowSeen bs z f) order_is a) not_short) zero_g same

  pub follow_and_run : FollowAndRun bs o w_now f g
  follow_and_run =
      record {
        end_alike = run_as_followed;
        replay = replayed;
      }

-- THE TWO EDITIONS
both_editions : {one two o : List ℕ} {f g : Seen} → FollowSeen one o f → FollowSeen two o g → BothEditions one two f g
unfolding BothEditions FollowEditions
both_editions {one} {two} {o} a b h pass_one pass_two not_short not_short_too same =
    follow_editions one two o (follow_call a not_short) (follow_call b not_short_too) h pass_one pass_two same

pub two_follows : {bs cs one other : List ℕ} {f g : Seen} → FollowSeen bs one f → FollowSeen cs other g → TwoFollows bs cs one other f g
two_follows {bs} {cs} {one} {other} {f} {g} a b =
    record {
      on_one_sheet = λ e. follow_demands a (subst (λ (z : List ℕ). FollowSeen z other g) (sym e) b);
      with_one_order = λ e. both_editions a (subst (λ (z : List ℕ). FollowSeen cs z g) (sym e) b);
    }

-- THE PREMISE SERVICE AND RUN
-- reports that are left alike tell one verdict
alike_verdict : (bs i r j q : List ℕ) → LeftAlike bs i r j q → get_or r 0 0 ≡ get_or q 0 0
unfolding LeftAlike
alike_verdict bs i r j q h =
    let p = P_of (sheet_in bs) in
    let n = N_of (sheet_in bs) in
    sym (first_byte (second_in bs) p n r) ∙ ap (λ (z : List ℕ). get_or z 0 0) h.1 ∙ first_byte (second_in bs) p n q

module _ {bs : List ℕ} (asked : Answer) (c : PremiseSays bs asked.number asked.place) {f : Seen} {o o_now : List ℕ}
    (a : RunSeen bs f o o_now) where
  holds : asked.number ≡ 0 → (passes bs ≡ true) × (calm (sheet_in bs) ≡ true)
  unfolding PremiseSays Answers
  holds e = premise_holds bs (sym c.0 ∙ e)

  as_run : asked.number ≡ 0 → f.answer.number ≢ 8 → AsRun bs f
  unfolding AsRun RunAlike
  as_run e h order g same zero_g ended =
      let P = holds e in
      let end =
      (run_alike bs order g (run_call a h) P.0 P.1 same zero_g (none_left P.0 g zero_g ended)).1 in
      (end, alike_verdict bs g.inbox_now g.report_now f.inbox_now f.report_now end)

  pub one_for_all : OneForAll bs asked f
  unfolding PremiseSays Answers
  one_for_all =
      record {
        exact = (holds, λ h. c.0 ∙ calm_premise bs h);
        runs = λ e h. (run_answer (holds e).0 (run_call a h)).number_zero;
        as_run = as_run;
      }
