-- Arrival decides across senders: what a beginning of an order has entered arrived before all that enters later, and the
-- earliest that fits is taken.
--   grown_left, grown_beginning    the order of arrival along the rest of an order
--   by_arrival
-- Assumes nothing.
use Rattle.std.specs.Prelude.{◌≡◌, Bool, cond, ℕ, suc, ◌≤◌, length}
use Rattle.std.proofs.Math.Path.{refl}
use Rattle.std.proofs.Common.{subst, arith}
use Rattle.std.proofs.Math.Bool.{true, false}
use mathlib.Core.List.{List, [], ◌∷◌, ◌++◌}
use Rattle.std.proofs.Math.Option.{some}
use Rattle.rules.specs.Sheet.{Sheet, sheet_in, inbox_total}
use Rattle.rules.specs.Job.{Job}
use Rattle.rules.specs.Step.{able, step}
use Rattle.rules.specs.Order.{followed, follow_from, follow}
use Rattle.rules.specs.Claims.{left_by}
use Rattle.invariant.specs.sheet.Valid.{Valid}
use Rattle.invariant.specs.deliveries.Laws.{DeliveryLaws}
use Rattle.invariant.specs.deliveries.Commute.{delivery_laws}
use Rattle.invariant.specs.Invariant.{MatchedPair, Reached}
use Rattle.invariant.specs.preserve.Step.{step_sound}
use Rattle.invariant.specs.preserve.Orders.{start_reached, follow_from_keeps}
use Rattle.promises.specs.Statements.{told_by, EarlierFirst, ByArrival}
use Rattle.promises.proofs.compare.ArrivalGrowth.{ArrivalsGrew, arrivals_none, arrivals_step, arrivals_trans}
use Rattle.promises.proofs.claims.OneJob.{lent_valid}

-- y is x some steps later
record Later {s : Sheet} {i : List ℕ} {x : Job} (X : Reached s i x) (y : Job) : Type 0 where
  reached : Reached s i y
  grew : ArrivalsGrew X reached

-- what a beginning of an order left, and what the whole order left
record Beginning (s : Sheet) (i : List ℕ) (x y : Job) : Type 0 where
  early : Reached s i x
  late : Later early y

module _ {s : Sheet} (g : Valid s) (A : DeliveryLaws s) {i : List ℕ} (room : inbox_total s ≤ length i) where
  grown_left : (k : ℕ) (rs : List ℕ) {x : Job} (X : Reached s i x) → Later X (follow_from k s rs x).left
  grown_left k rs {x} X =
      follow_from_keeps s (Later X)
      (λ y r L a.
      let E = step_sound g A room L.reached r a in
      record {
        reached = E.reached;
        grew = arrivals_trans L.grew (arrivals_step E);
      })
      k rs x
      (record {
        reached = X;
        grew = arrivals_none X;
      })

  grown_beginning : (k : ℕ) (before after : List ℕ) {x : Job} → Reached s i x →
      Beginning s i (follow_from k s before x).left (follow_from k s (before ++ after) x).left
  unfolding follow_from followed
  grown_beginning k [] after X =
      record {
        early = X;
        late = grown_left k after X;
      }
  grown_beginning k (r ∷ before) after {x} X =
      go (able s x r) refl (λ a. grown_beginning (suc k) before after (step_sound g A room X r a).reached)
    where
      go : (b : Bool) → able s x r ≡ b →
          (able s x r ≡ true →
          Beginning s i (follow_from (suc k) s before (step s r x)).left (follow_from (suc k) s (before ++ after) (step s r x)).left) →
          Beginning s i (cond b (follow_from (suc k) s before (step s r x)) (followed (some k) x)).left
          (cond b (follow_from (suc k) s (before ++ after) (step s r x)) (followed (some k) x)).left
      go true a on = on a
      go false a on =
          record {
            early = X;
            late =
                record {
                  reached = X;
                  grew = arrivals_none X;
                };
          }

pub by_arrival : ByArrival
unfolding ByArrival EarlierFirst told_by left_by follow
by_arrival bs i before after h k m q sk sm there new matched to f =
    let g = lent_valid h in
    let B = grown_beginning g (delivery_laws (sheet_in bs) g) h.room 0 before after (start_reached g i) in
    let L = B.late.reached in
    let met = subst (λ (z : ℕ). MatchedPair (sheet_in bs) (left_by (sheet_in bs) (before ++ after) i) m z) to (L.stable.message_pair m sm matched) in
    L.stable.first_sent m q k met sk (B.late.grew.on k there)
    (B.late.grew.new k m there (omega arith) (λ e. omega (arith, e))) f
