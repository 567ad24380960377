-- Two full orders on a calm sheet end alike, and run ends alike with both; so do the calls of the services.
--   run_ends, ends_alike, calls_follow_alike, calls_run_alike
-- Assumes nothing.
use Rattle.std.specs.Prelude.{◌≡◌, true, List, ℕ}
use Rattle.std.proofs.Common.{ap, subst, ◌∙◌}
use Rattle.rules.specs.Sheet.{Sheet, sheet_in}
use Rattle.rules.specs.Job.{Job}
use Rattle.rules.specs.Order.{run, none_able}
use Rattle.rules.specs.Claims.{left_by, Alike, Given}
use Rattle.promises.specs.Statements.{Lent, RunEnds, EndsAlike}
use Rattle.promises.specs.ServiceStatements.{FollowsAlike, RunAlike}
use Rattle.invariant.specs.deliveries.Commute.{delivery_laws}
use Rattle.invariant.specs.preserve.Orders.{left_reached}
use Rattle.invariant.specs.step.LowestAble.{next_none}
use Rattle.promises.proofs.compare.EveryEnd.{ends_same_positions}
use Rattle.promises.proofs.claims.RunEnds.{run_ended}
use Rattle.promises.proofs.compare.SamePositionsAlike.{positions_alike}
use Rattle.promises.proofs.claims.Services.{follows_alike, run_alike}
use Rattle.promises.proofs.claims.OneJob.{lent_valid}

pub run_ends : RunEnds
unfolding RunEnds
run_ends bs i h = run_ended (lent_valid h) (delivery_laws (sheet_in bs) (lent_valid h)) i h.room

module _ {bs i : List ℕ} (h : Given bs i) where
  abbrev s : Sheet
  s = sheet_in bs

  lent : Lent bs i
  lent =
      record {
        passing = h.passing;
        room = h.room;
      }

  -- two orders after which no board is able
  full_alike : (a b : List ℕ) → none_able s (left_by s a i) ≡ true → none_able s (left_by s b i) ≡ true →
      Alike s (left_by s a i) (left_by s b i)
  full_alike a b full_a full_b =
      let g = lent_valid lent in
      let A = delivery_laws s g in
      positions_alike g
      (ends_same_positions g A h.calm_sheet a b i h.room (next_none s g (left_by s a i) full_a) (next_none s g (left_by s b i) full_b)
      (left_reached g A h.room a) (left_reached g A h.room b))

pub ends_alike : EndsAlike
unfolding EndsAlike RunEnds
ends_alike bs i a b h accepted_a accepted_b full_a full_b =
    let E = run_ends bs i (lent h) in
    let order = (run (sheet_in bs) i).order in
    let full_run : none_able (sheet_in bs) (left_by (sheet_in bs) order i) ≡ true =
    ap (λ (x : Job). none_able (sheet_in bs) x) E.same_job ∙ E.none_left in (
      full_alike h a b full_a full_b,
      subst (λ (x : Job). Alike (sheet_in bs) (left_by (sheet_in bs) a i) x) E.same_job (full_alike h a order full_a full_run),
    )

pub calls_follow_alike : FollowsAlike
calls_follow_alike = follows_alike ends_alike

pub calls_run_alike : RunAlike
calls_run_alike = run_alike ends_alike run_ends
