-- Demand 2 of the services: what a call of follow or run with number 0 has left in inbox and report keeps every claim about
-- what is told, since the report tells what its job does.
--   reported          from a job that an order left
--   follow_passes, run_passes    number 0 says that the sheet passes
--   run_order_taken   the order that run took stands at the front of order out
--   follow_reports, follow_by_arrival, run_reports
-- Assumes nothing.
use Rattle.std.specs.Prelude.{◌≡◌, true, ℕ, length, take, drop}
use Rattle.std.proofs.Common.{sym, subst, ◌∙◌, arith}
use Rattle.std.proofs.Math.Path.{ap}
use mathlib.Core.List.{List, ◌++◌}
use borrow.Author.Tests.{eq-eqb}
use Rattle.rules.specs.Limits.{order_room}
use Rattle.rules.specs.Sheet.{second_in, sheet_in, N_of}
use Rattle.laws.specs.Decoded.{first_room}
use Rattle.rules.specs.Job.{Job, Entry, entry_at}
use Rattle.rules.specs.Refusal.{sheet_refusal, or_else}
use Rattle.rules.specs.Order.{follow, run, none_able}
use Rattle.rules.specs.Report.{report}
use Rattle.rules.specs.Service.{Answers, room_refusal, order_refusal, in_front, follow_refusal, FollowSays, run_refusal, RunSays}
use Rattle.rules.specs.Claims.{passes, accepts, left_by}
use Rattle.laws.specs.Tests.{true_not_false}
use Rattle.laws.specs.Tabled.{or_else_first}
use Rattle.invariant.specs.Invariant.{state_at, partner_at}
use Rattle.invariant.specs.deliveries.Commute.{delivery_laws}
use Rattle.invariant.specs.step.LowestAble.{next_none}
use Rattle.promises.specs.Statements.{Lent, Told, told_by, EarlierFirst, ByArrival}
use Rattle.promises.specs.Statements.{NoneFit, NoOvertaking, NoOvertakingReceives, Statuses, SendStatuses}
use Rattle.promises.specs.Statements.{Delivered, Deliveries, Exact, Verdicts, FinishedLeavesNone, NoRequestLeft, StopReasons, Steps}
use Rattle.promises.specs.Statements.{Counted, Counts, InUse, Peaks, BuffersHold, Ends, RunEnds}
use Rattle.promises.specs.Statements.{NoPairLeft, SendsInOrder, ReceivesInOrder, MatchedReceives}
use Rattle.promises.specs.Statements.{MatchedSends, WhyStopped, Charged, BufferedByMode, KeptInOne, WithinSize}
use Rattle.promises.specs.ProbeStatements.{Probes, ProbesTold, Queries, QueriesTold, ToldThenReceived, ReceivesTold}
use Rattle.promises.specs.ServiceStatements.{FollowCall, RunCall, told_in, Reported}
use Rattle.promises.specs.ServiceStatements.{FollowedSteps, FollowReports, RunReports, FollowByArrival}
use Rattle.promises.proofs.claims.OneJob.{lent_valid, lent_reached, deliveries, verdicts, no_request_left, steps, counts, in_use, kept_in_one, peaks, buffers_hold}
use Rattle.promises.proofs.claims.Matching.{none_fit, no_overtaking, no_overtaking_receives, statuses, send_statuses}
use Rattle.promises.proofs.claims.Telling.{probes, queries, told_then_received}
use Rattle.promises.proofs.claims.Stops.{stop_reasons}
use Rattle.promises.proofs.claims.Arrivals.{by_arrival}
use Rattle.promises.proofs.compare.SamePositions.{positions_rows}
use Rattle.promises.proofs.compare.TwoRooms.{rooms_same_positions}
use Rattle.promises.proofs.claims.EndsAlike.{run_ends}
use Rattle.promises.proofs.claims.Calls.{follow_lent, follow_accepted, follow_inbox, follow_report, front_report, run_answer, run_lent}
use Rattle.promises.proofs.claims.ReportTells.{report_tells}

-- A JOB that an order left, its memory in `inbox` and its report at the front of `out`
module _ {bs i : List ℕ} (h : Lent bs i) (rs : List ℕ) {inbox out : List ℕ} (old : List ℕ)
    (memory : inbox ≡ (left_by (sheet_in bs) rs i).memory)
    (written : out ≡ in_front (report (second_in bs) (sheet_in bs) (left_by (sheet_in bs) rs i)) old) where
  abbrev x : Job
  x = left_by (sheet_in bs) rs i

  tells : told_in (second_in bs) (sheet_in bs) out ≡ told_by (sheet_in bs) x
  unfolding in_front
  tells = ap (told_in (second_in bs) (sheet_in bs)) written ∙ report_tells (second_in bs) (first_room bs) (lent_valid h) (lent_reached h rs) (drop (length (report (second_in bs) (sheet_in bs) x)) old)

  pub row_tells : (j : ℕ) → (told_in (second_in bs) (sheet_in bs) out).row j ≡ entry_at x j
  unfolding told_by
  row_tells j = ap (λ (t : Told). t.row j) tells

  -- a claim about what the job tells is one about what the report tells
  of_report : (C : Told → Type 0) → C (told_by (sheet_in bs) x) → C (told_in (second_in bs) (sheet_in bs) out)
  of_report C c = subst C (sym tells) c

  pub reported : Reported (second_in bs) (sheet_in bs) i inbox out
  unfolding NoneFit NoOvertaking NoOvertakingReceives Statuses SendStatuses Probes Queries ToldThenReceived Deliveries
      Verdicts NoRequestLeft StopReasons Counts InUse KeptInOne BuffersHold
  reported =
      record {
        none_fit = of_report (NoPairLeft (sheet_in bs)) (none_fit bs i rs h);
        sends_in_order = of_report (SendsInOrder (sheet_in bs)) (no_overtaking bs i rs h);
        receives_in_order = of_report (ReceivesInOrder (sheet_in bs)) (no_overtaking_receives bs i rs h);
        matched_receives = of_report (MatchedReceives (sheet_in bs)) (statuses bs i rs h);
        matched_sends = of_report (MatchedSends (sheet_in bs)) (send_statuses bs i rs h);
        probes_told = of_report (ProbesTold (sheet_in bs)) (probes bs i rs h);
        queries_told = of_report (QueriesTold (sheet_in bs)) (queries bs i rs h);
        receives_told = of_report (ReceivesTold (sheet_in bs)) (told_then_received bs i rs h);
        delivered =
            of_report (λ t. Delivered (sheet_in bs) t i inbox)
            (subst (λ (z : List ℕ). Delivered (sheet_in bs) (told_by (sheet_in bs) x) i z) (sym memory) (deliveries bs i rs h));
        verdict_exact = of_report (Exact (sheet_in bs)) (verdicts bs i rs h);
        none_left = of_report (FinishedLeavesNone (sheet_in bs)) (no_request_left bs i rs h);
        why_stopped = of_report (WhyStopped (sheet_in bs)) (stop_reasons bs i rs h);
        counted = of_report (Counted (sheet_in bs)) (counts bs i rs h);
        charged = of_report (Charged (sheet_in bs)) (in_use bs i rs h);
        buffered_by_mode = of_report (BufferedByMode (sheet_in bs)) (kept_in_one bs i rs h);
        within_size = of_report (WithinSize (sheet_in bs)) (buffers_hold bs i rs h);
      }

  -- an accepted order's steps and peaks
  pub followed_steps : accepts (sheet_in bs) rs i ≡ true → FollowedSteps (second_in bs) (sheet_in bs) rs i out
  unfolding Steps Peaks told_by
  followed_steps accepted =
      record {
        steps = ap (λ (t : Told). t.steps) tells ∙ steps bs i rs h accepted;
        peaks = λ w r. ap (λ (t : Told). t.peak w r) tells ∙ peaks bs i rs w r h;
      }

  -- where no board is able the verdict is not 0
  pub full_verdict : none_able (sheet_in bs) x ≡ true → (told_in (second_in bs) (sheet_in bs) out).verdict ≡ 0 → ⊥
  unfolding Exact told_by
  full_verdict full e =
      let able_one = reported.verdict_exact.still_able.0 e in
      let one = ap (λ (t : Told). t.is_able able_one.0) (sym tells) ∙ able_one.1 in
      true_not_false one (next_none (sheet_in bs) (lent_valid h) x full able_one.0)

-- FOLLOW
module _ {bs o : List ℕ} (f : FollowCall bs o) (success : f.number ≡ 0) where
  pub follow_passes : passes bs ≡ true
  unfolding passes FollowSays Answers follow_refusal
  follow_passes =
      eq-eqb (sheet_refusal bs).number 0
      (or_else_first (sheet_refusal bs)
      (or_else (room_refusal (second_in bs) (sheet_in bs) (length f.inbox) (length f.report) (order_room (N_of (sheet_in bs))) (length f.scratch))
      (order_refusal (follow (sheet_in bs) o f.inbox).refused_at))
      (sym f.said.0.0 ∙ success))

pub follow_reports : FollowReports
unfolding FollowReports
follow_reports bs o f e =
    let p = follow_passes f e in (
      reported (follow_lent p f) o f.report (follow_inbox p f e) (follow_report p f e),
      followed_steps (follow_lent p f) o f.report (follow_inbox p f e) (follow_report p f e) (follow_accepted p f e),
    )

-- one order on two rooms leaves the same rows
module _ {bs i j : List ℕ} (a : Lent bs i) (b : Lent bs j) (o : List ℕ) where
  two_rows : (k : ℕ) → entry_at (left_by (sheet_in bs) o j) k ≡ entry_at (left_by (sheet_in bs) o i) k
  unfolding left_by
  two_rows =
      let g = lent_valid a in
      positions_rows g (rooms_same_positions g (delivery_laws (sheet_in bs) g) a.room b.room o).same_positions

pub follow_by_arrival : FollowByArrival
unfolding FollowByArrival EarlierFirst ByArrival told_by
follow_by_arrival bs before after f g zero_f zero_g k m q sk sm there new matched to fit =
    let done =
    by_arrival bs g.inbox before after (follow_lent pg g) k m q sk sm (omega (arith, there, early k))
    (sym (early m) ∙ new) (sym (late_state m) ∙ matched) (sym (late_partner m) ∙ to) fit in
    (late_state k ∙ done.0, omega (arith, late_partner k, done.1))
  where
    pf : passes bs ≡ true
    pf = follow_passes f zero_f

    pg : passes bs ≡ true
    pg = follow_passes g zero_g

    whole : List ℕ
    whole = before ++ after

    early : (j : ℕ) → ((told_in (second_in bs) (sheet_in bs) f.report_now).row j).state ≡ state_at (left_by (sheet_in bs) before g.inbox) j
    early j =
        ap (λ (e : Entry). e.state)
        (row_tells (follow_lent pf f) before f.report (follow_inbox pf f zero_f) (follow_report pf f zero_f) j
        ∙ sym (two_rows (follow_lent pf f) (follow_lent pg g) before j))

    late_row : (j : ℕ) → (told_in (second_in bs) (sheet_in bs) g.report_now).row j ≡ entry_at (left_by (sheet_in bs) whole g.inbox) j
    late_row j = row_tells (follow_lent pg g) whole g.report (follow_inbox pg g zero_g) (follow_report pg g zero_g) j

    late_state : (j : ℕ) → ((told_in (second_in bs) (sheet_in bs) g.report_now).row j).state ≡ state_at (left_by (sheet_in bs) whole g.inbox) j
    late_state j = ap (λ (e : Entry). e.state) (late_row j)

    late_partner : (j : ℕ) → ((told_in (second_in bs) (sheet_in bs) g.report_now).row j).partner ≡ partner_at (left_by (sheet_in bs) whole g.inbox) j
    late_partner j = ap (λ (e : Entry). e.partner) (late_row j)

-- RUN
module _ {bs : List ℕ} (f : RunCall bs) (success : f.number ≡ 0) where
  pub run_passes : passes bs ≡ true
  unfolding passes RunSays Answers run_refusal
  run_passes =
      eq-eqb (sheet_refusal bs).number 0
      (or_else_first (sheet_refusal bs)
      (room_refusal (second_in bs) (sheet_in bs) (length f.inbox) (length f.report) (length f.order) (length f.scratch))
      (sym f.said.0.0 ∙ success))

  run_there : Lent bs f.inbox
  run_there = run_lent run_passes f

  run_ended : Ends (sheet_in bs) f.inbox
  unfolding RunEnds
  run_ended = run_ends bs f.inbox run_there

  abbrev ran : List ℕ
  ran = (run (sheet_in bs) f.inbox).order

  run_memory : f.inbox_now ≡ (left_by (sheet_in bs) ran f.inbox).memory
  run_memory = (run_answer run_passes f).inbox_is ∙ ap (λ (z : Job). z.memory) (sym run_ended.same_job)

  run_written : f.report_now ≡ in_front (report (second_in bs) (sheet_in bs) (left_by (sheet_in bs) ran f.inbox)) f.report
  run_written =
      (run_answer run_passes f).report_is
      ∙ ap (λ (z : Job). in_front (report (second_in bs) (sheet_in bs) z) f.report) (sym run_ended.same_job)

  run_full : none_able (sheet_in bs) (left_by (sheet_in bs) ran f.inbox) ≡ true
  run_full = ap (λ (z : Job). none_able (sheet_in bs) z) run_ended.same_job ∙ run_ended.none_left

  run_steps : FollowedSteps (second_in bs) (sheet_in bs) ran f.inbox f.report_now
  run_steps = followed_steps run_there ran f.report run_memory run_written run_ended.accepted

  -- the order that run took stands at the front of order out
  pub run_order_taken : take (told_in (second_in bs) (sheet_in bs) f.report_now).steps f.order_now ≡ ran
  run_order_taken =
      ap (λ (z : List ℕ). take (told_in (second_in bs) (sheet_in bs) f.report_now).steps z) (run_answer run_passes f).order_is
      ∙ front_report ran f.order (told_in (second_in bs) (sheet_in bs) f.report_now).steps (sym run_steps.steps)

pub run_reports : RunReports
unfolding RunReports
run_reports bs f e = (
  reported (run_there f e) (ran f e) f.report (run_memory f e) (run_written f e),
  record {
    ended = full_verdict (run_there f e) (ran f e) f.report (run_memory f e) (run_written f e) (run_full f e);
    accepted =
        subst (λ (o : List ℕ). accepts (sheet_in bs) o f.inbox ≡ true) (sym (run_order_taken f e)) (run_ended f e).accepted;
    followed =
        subst (λ (o : List ℕ). FollowedSteps (second_in bs) (sheet_in bs) o f.inbox f.report_now) (sym (run_order_taken f e))
        (run_steps f e);
  },
)
