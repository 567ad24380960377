-- The order that a run wrote down, followed, leaves what the run left: nothing in the inboxes influences a step, so rows, places
-- and peaks are the same on both rooms, and the first bytes of the inboxes too.
--   same_report, same_memory    one order on two rooms that start with the same bytes
--   run_replayed
-- Assumes nothing.
use Rattle.std.specs.Prelude.{◌≡◌, refl, true, List, ℕ, ◌<◌}
use Rattle.std.proofs.Math.Path.{sym, ap}
use Rattle.std.proofs.Common.{subst, ◌∙◌}
use Rattle.std.proofs.Math.Option.{Option, none, some}
use Rattle.std.proofs.Math.ListN.{take}
use Rattle.rules.specs.Sheet.{Sheet, second_in, sheet_in, P_of, inbox_total}
use Rattle.rules.specs.Job.{Job, Store, peak_at}
use Rattle.rules.specs.Refusal.{refusal}
use Rattle.rules.specs.Step.{is_none}
use Rattle.rules.specs.Order.{follow, run}
use Rattle.rules.specs.Report.{report}
use Rattle.rules.specs.Service.{order_refusal}
use Rattle.rules.specs.Claims.{passes, accepts, left_by}
use Rattle.laws.specs.Tests.{true_not_false}
use Rattle.invariant.specs.sheet.Valid.{Valid}
use Rattle.invariant.specs.deliveries.Laws.{DeliveryLaws}
use Rattle.invariant.specs.deliveries.Commute.{delivery_laws}
use Rattle.promises.specs.Statements.{Lent, Peaks, Ends, RunEnds}
use Rattle.promises.specs.ServiceStatements.{FollowCall, RunCall, SameStart, SameLeft, RunReplayed}
use Rattle.promises.proofs.compare.PeaksAside.{whole_report}
use Rattle.promises.proofs.compare.SamePositions.{positions_equal}
use Rattle.promises.proofs.compare.WholeOrders.{LeftSamePositions}
use Rattle.promises.proofs.compare.TwoRooms.{start_same_positions, rooms_same_positions, positions_near, most_same}
use Rattle.promises.proofs.claims.OneJob.{lent_valid, peaks}
use Rattle.promises.proofs.claims.EndsAlike.{run_ends}
use Rattle.promises.proofs.claims.Calls.{follow_answer, follow_lent, run_lent}
use Rattle.promises.proofs.claims.Services.{Shows, follow_shows, run_shows, near_start, two_accepted}
use Rattle.promises.proofs.claims.Reported.{run_passes, run_order_taken}

-- an accepted order is answered with 0
accepted_number : (o : Option ℕ) → is_none o ≡ true → (order_refusal o).number ≡ 0
unfolding is_none order_refusal refusal
accepted_number none e = refl
accepted_number (some k) e = true_not_false e refl

-- ONE ORDER on two rooms that start with the same bytes: the same report, and the same first bytes of the inboxes
module _ {bs i j : List ℕ} (a : Lent bs i) (b : Lent bs j) (same : SameStart bs i j) (rs : List ℕ) where
  abbrev s : Sheet
  s = sheet_in bs

  g : Valid s
  g = lent_valid a

  A : DeliveryLaws s
  A = delivery_laws s g

  both : LeftSamePositions s i j (follow s rs i) (follow s rs j)
  both = rooms_same_positions g A a.room b.room rs

  same_peaks : (w : Store) (r : ℕ) → r < P_of s → peak_at w (left_by s rs i) r ≡ peak_at w (left_by s rs j) r
  unfolding Peaks
  same_peaks w r l =
      peaks bs i rs w r a ∙ most_same g A a.room b.room w r l rs (start_same_positions g i j) ∙ sym (peaks bs j rs w r b)

  same_report : report (second_in bs) s (left_by s rs i) ≡ report (second_in bs) s (left_by s rs j)
  unfolding left_by
  same_report =
      whole_report s (left_by s rs i) (left_by s rs j) (positions_equal g both.same_positions) same_peaks (second_in bs)

  same_memory : take (inbox_total s) (left_by s rs i).memory ≡ take (inbox_total s) (left_by s rs j).memory
  unfolding left_by
  same_memory = (positions_near g both.same_positions (near_start bs a.room b.room same)).same

-- the run's own order
module _ {bs : List ℕ} (g : RunCall bs) (zero_g : g.number ≡ 0) where
  abbrev order : List ℕ
  order = (run (sheet_in bs) g.inbox).order

  replayed : (f : FollowCall bs order) → SameStart bs f.inbox g.inbox →
      (f.number ≡ 0) × SameLeft bs f.inbox_now f.report_now g.inbox_now g.report_now
  unfolding RunEnds SameLeft SameStart accepts
  replayed f same = (
    zero_f,
    (
      ap (take (inbox_total s)) F.memory ∙ same_memory here there same order
          ∙ ap (λ (x : Job). take (inbox_total s) x.memory) E.same_job ∙ sym (ap (take (inbox_total s)) G.memory),
      F.reported ∙ same_report here there same order ∙ ap (report (second_in bs) s) E.same_job ∙ sym G.reported,
    ),
  )
    where
      s : Sheet
      s = sheet_in bs

      p : passes bs ≡ true
      p = run_passes g zero_g

      here : Lent bs f.inbox
      here = follow_lent p f

      there : Lent bs g.inbox
      there = run_lent p g

      E : Ends s g.inbox
      E = run_ends bs g.inbox there

      zero_f : f.number ≡ 0
      zero_f =
          (follow_answer p f).number_is
          ∙ accepted_number (follow s order f.inbox).refused_at (two_accepted there here (sym same) order E.accepted)

      F : Shows (second_in bs) s (left_by s order f.inbox) f.inbox_now f.report_now
      F = follow_shows p f zero_f

      G : Shows (second_in bs) s (run s g.inbox).end g.inbox_now g.report_now
      G = run_shows p g E

pub run_replayed : RunReplayed
unfolding RunReplayed
run_replayed bs g f zero_g same =
    subst
    (λ (o : List ℕ).
    (f : FollowCall bs o) → SameStart bs f.inbox g.inbox →
    (f.number ≡ 0) × SameLeft bs f.inbox_now f.report_now g.inbox_now g.report_now)
    (sym (run_order_taken g zero_g)) (replayed g zero_g) f same
