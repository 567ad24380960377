-- On a calm sheet any two neighbouring able steps of different boards may be exchanged: a case of SwapAnySource, since there
-- nothing is from any source and no step stops the job.
--   swap_same
-- Assumes nothing.
use Rattle.std.specs.Prelude.{◌≡◌, ◌≢◌, Bool, true, false, ◌&&◌, not, List, ℕ, eqb}
use Rattle.std.proofs.Common.{sym, ap}
use Rattle.std.proofs.Math.Option.{none}
use Rattle.rules.specs.Sheet.{Sheet, Op, op, board, sheet_in, is_receive, tells_message, tells_completion}
use Rattle.rules.specs.Job.{Job}
use Rattle.rules.specs.Step.{able, step, next_op}
use Rattle.rules.specs.Claims.{is_any_source, left_by, calm}
use Rattle.laws.specs.Calm.{calm_rooms}
use Rattle.laws.specs.Tests.{and_left, and_right, true_not_false, not_so}
use Rattle.promises.specs.Statements.{Lent, SwapSame}
use Rattle.promises.specs.ExchangeStatements.{is_any_receive, is_any_probe, no_query, no_any_probe, ExchangeSheet, send_to_one, has_any_receive, may_race}
use Rattle.promises.specs.ExchangeStatements.{GoesOn, Exchangeable, SameOutcome, SwapAnySource}
use Rattle.invariant.specs.deliveries.Commute.{delivery_laws}
use Rattle.promises.proofs.compare.Exchange.{E, swap_able}
use Rattle.promises.proofs.compare.CalmSheets.{calm_going, calm_not_any_source, calm_no_query}
use Rattle.promises.proofs.compare.ScriptTests.{none_each, none_script}
use Rattle.promises.proofs.claims.OneJob.{lent_valid, lent_reached}
use Rattle.promises.proofs.claims.SwapAnySource.{swap_any_source}

-- THE SHEET: neither queries nor operations from any source, and rooms that cover
calm_exchange_sheet : (bs : List ℕ) → calm (sheet_in bs) ≡ true → ExchangeSheet bs
unfolding no_query no_any_probe is_any_probe op
calm_exchange_sheet bs c =
    record {
      no_queries = none_each tells_completion s.ops (calm_no_query s c);
      no_any_probes =
          none_each is_any_probe s.ops (λ k. not_so (tells_message (op s k) && is_any_source (op s k)) (λ h. true_not_false
          (and_right (tells_message (op s k)) (is_any_source (op s k)) h) (calm_not_any_source s c k)));
      rooms = λ _. calm_rooms s c;
    }
  where
    s : Sheet
    s = sheet_in bs

calm_no_race : (s : Sheet) → calm s ≡ true → (x : Job) (p q : ℕ) → may_race s x p q ≡ false
unfolding may_race has_any_receive is_any_receive op
calm_no_race s c x p q =
    let a = op s (next_op s x p) in
    let there : Op → Bool = λ o. is_any_receive o && eqb o.comm a.comm in
    not_so (may_race s x p q) (λ h. true_not_false (and_right (send_to_one s x p q) (has_any_receive s a.peer a.comm) h)
    (ap not (none_script there (board s a.peer) s.ops (none_each there s.ops (λ k. not_so (there (op s k)) (λ w.
    true_not_false (and_right (is_receive (op s k)) (is_any_source (op s k)) (and_left (is_any_receive (op s k)) (eqb (op s k).comm a.comm) w))
    (calm_not_any_source s c k)))))))

-- THE STEPS: none stops the job
module _ {bs i : List ℕ} (h : Lent bs i) (before : List ℕ) (c : calm (sheet_in bs) ≡ true) where
  abbrev s : Sheet
  s = sheet_in bs

  abbrev x : Job
  x = left_by s before i

  calm_on : (j k : ℕ) → j ≢ k → able s x j ≡ true → able s x k ≡ true → (step s k (step s j x)).stop ≡ none
  calm_on j k e a b =
      let g = lent_valid h in
      let A = delivery_laws s g in
      let X = lent_reached h before in
      let going = calm_going g c X j a in
      calm_going g c (E g A h.room X j a going).reached k (swap_able g A h.room X j a going k (λ f. e (sym f)) b)

  calm_exchangeable : (p q : ℕ) → p ≢ q → able s x p ≡ true → able s x q ≡ true → Exchangeable s x p q
  unfolding GoesOn
  calm_exchangeable p q d a b =
      record {
        differ = d;
        able_one = a;
        able_other = b;
        goes_on = (calm_on p q d a b, calm_on q p (λ e. d (sym e)) b a);
        no_race = calm_no_race s c x p q;
      }

pub swap_same : SwapSame
unfolding SwapSame SwapAnySource SameOutcome
swap_same bs i before after p q h accepted d a b =
    swap_any_source bs i before after p q lent (calm_exchange_sheet bs h.calm_sheet) accepted
    (calm_exchangeable lent before h.calm_sheet p q d a b)
  where
    lent : Lent bs i
    lent =
        record {
          passing = h.passing;
          room = h.room;
        }
