-- On a calm sheet every order stays behind every end: let no board of y be able; a board that is able in x, which is behind
-- y, stands before its place in y, so that x stepped is behind y still. Two ends are therefore behind each other, and alike.
--   step_behind            one step; left_behind: a whole order
--   calm_left              an order on a calm sheet never stops
--   ends_same_positions    two ends
-- Assumes nothing.
use Rattle.std.specs.Prelude.{◌≡◌, Bool, true, false, ◌||◌, cond, List, length}
use Rattle.std.proofs.Math.Path.{refl}
use Rattle.std.proofs.Common.{sym, ap, subst, ◌∙◌, arith}
use Rattle.std.proofs.Math.Option.{Option, none}
use Prim.Native.Nat.{ℕ, ◌+◌, ◌*◌, ◌≤◌, ◌<◌}
use Rattle.std.proofs.Math.Decide.{ℕ_discrete}
use Rattle.rules.specs.Sheet.{Sheet, op, board, P_of, N_of, rank_of, inbox_total, only_half, no_half}
use Rattle.rules.specs.Job.{Job, Stop, place_at, started, job}
use Rattle.rules.specs.Step.{able, step, next_op, in_waiting_half, is_none}
use Rattle.rules.specs.Claims.{calm, left_by}
use Rattle.laws.specs.Tests.{true_not_false}
use Rattle.laws.specs.Calm.{calm_rooms}
use Rattle.invariant.specs.sheet.Valid.{Valid}
use Rattle.invariant.specs.deliveries.Laws.{DeliveryLaws}
use Rattle.laws.specs.Sums.{sum_below, sum_same}
use Rattle.invariant.specs.Invariant.{reach, steps_done, Reached}
use Rattle.invariant.specs.step.Places.{Next, Moved, able_next}
use Rattle.invariant.specs.preserve.Step.{step_sound}
use Rattle.invariant.specs.preserve.Orders.{start_reached, start_position, left_keeps}
use Rattle.invariant.specs.step.Position.{position, position_finished, position_waiting}
use Rattle.promises.proofs.compare.Behind.{Behind, still_able, places_entered}
use Rattle.promises.proofs.compare.AfterStep.{finishing, position_on, moved_position, moved_position_other}
use Rattle.promises.proofs.compare.Exchange.{step_moved}
use Rattle.promises.proofs.compare.SamePositions.{SamePositions}
use Rattle.promises.proofs.compare.CalmSheets.{calm_going, calm_order, calm_no_query, covered_kept}

-- x is reached, and behind y
record ReachedBehind (s : Sheet) (i : List ℕ) (y x : Job) : Type 0 where
  reached : Reached s i x
  places : (r : ℕ) → r < P_of s → position x r ≤ position y r

-- ONE STEP, of a calm sheet
module _ {s : Sheet} (g : Valid s) (A : DeliveryLaws s) (c : calm s ≡ true) (i : List ℕ) {j : List ℕ} (room : inbox_total s ≤ length i)
    {y : Job} (Y : Reached s j y) (going : y.stop ≡ none) (end : (r : ℕ) → able s y r ≡ false) where
  module _ {x : Job} (C : ReachedBehind s i y x) (r : ℕ) (a : able s x r ≡ true) where
    X : Reached s i x
    X = C.reached

    behind : Behind X Y
    behind =
        record {
          places = C.places;
          order = calm_order c X Y;
          kept = covered_kept (calm_rooms s c) X Y (places_entered g X.placed Y.placed C.places);
        }

    n : Next s x r
    n = able_next s g x r a

    before : position x r < position y r
    before = go (ℕ_discrete (position x r) (position y r))
      where
        go : Dec (position x r ≡ position y r) → position x r < position y r
        go (yes e) = true_not_false (still_able g X Y behind r e a going) (end r)
        go (no d) = omega (arith, C.places r n.rank_small)

    moved : Moved x (step s r x) r (finishing s x r)
    moved = step_moved g A room X r a (calm_going g c X r a)

    -- an operation that is finished in one step has no waiting half in which y could stand
    not_between : in_waiting_half s x r || no_half (op s (next_op s x r)) ≡ true → (place_at x r).waiting ≡ false →
        (place_at y r).finished ≡ (place_at x r).finished → (place_at y r).waiting ≡ true → ⊥
    unfolding in_waiting_half next_op
    not_between h w e v =
        go (only_half (op s k)) refl (no_half (op s k)) refl
        (sym (ap (λ (b : Bool). (b || only_half (op s k)) || no_half (op s k)) w) ∙ h)
      where
        k : ℕ
        k = (board s r).first + (place_at x r).finished

        same : (board s r).first + (place_at y r).finished ≡ k
        same = ap (λ (z : ℕ). (board s r).first + z) e

        go : (a : Bool) → only_half (op s k) ≡ a → (b : Bool) → no_half (op s k) ≡ b → a || b ≡ true → ⊥
        go true p b q o =
            true_not_false p (ap (λ (z : ℕ). only_half (op s z)) (sym same)
            ∙ Y.placed.waiting_not_only_half r n.rank_small v)
        go false p true q o =
            true_not_false q
            (ap (λ (z : ℕ). no_half (op s z)) (sym same) ∙ Y.placed.waiting_not_no_half r n.rank_small v)
        go false p false q o = true_not_false o refl

    stepped_before : position (step s r x) r ≤ position y r
    unfolding position position_on
    stepped_before =
        go (finishing s x r) refl (place_at x r).waiting refl (place_at y r).waiting refl (moved_position moved) before
      where
        f : ℕ
        f = (place_at x r).finished

        h : ℕ
        h = (place_at y r).finished

        go : (last : Bool) → finishing s x r ≡ last → (w : Bool) → (place_at x r).waiting ≡ w → (v : Bool) →
            (place_at y r).waiting ≡ v →
            position (step s r x) r ≡ position_on last f → 2 * f + cond w 1 0 < 2 * h + cond v 1 0 →
            position (step s r x) r ≤ 2 * h + cond v 1 0
        go false p w q v o e l = omega (arith, e)
        go true p true q v o e l = omega (arith, e)
        go true p false q false o e l = omega (arith, e)
        go true p false q true o e l = less (ℕ_discrete h f)
          where
            less : Dec (h ≡ f) → position (step s r x) r ≤ 2 * h + 1
            less (yes d) = absurd (not_between p q d o)
            less (no d) = omega (arith, e)

    step_behind : ReachedBehind s i y (step s r x)
    step_behind =
        record {
          reached = (step_sound g A room X r a).reached;
          places = λ q l. go q l (ℕ_discrete q r);
        }
      where
        go : (q : ℕ) → q < P_of s → Dec (q ≡ r) → position (step s r x) q ≤ position y q
        go q l (yes e) = subst (λ (z : ℕ). position (step s r x) z ≤ position y z) (sym e) stepped_before
        go q l (no d) = omega (arith, moved_position_other moved q d, C.places q l)

  -- A WHOLE ORDER stays behind y
  pub left_behind : (rs : List ℕ) → (r : ℕ) → r < P_of s → position (left_by s rs i) r ≤ position y r
  left_behind rs = (left_keeps s (ReachedBehind s i y) (λ x r C a. step_behind C r a) rs i start).places
    where
      start : ReachedBehind s i y (started s i)
      start =
          record {
            reached = start_reached g i;
            places = λ r l. omega (arith, start_position g i r);
          }

-- on a calm sheet nothing stops
pub calm_left : {s : Sheet} → Valid s → DeliveryLaws s → calm s ≡ true → (rs lent : List ℕ) → inbox_total s ≤ length lent →
    Reached s lent (left_by s rs lent) × ((left_by s rs lent).stop ≡ none)
unfolding started job
calm_left {s} g A c rs lent room =
    left_keeps s (λ x. Reached s lent x × (x.stop ≡ none))
    (λ x r h a. ((step_sound g A room h.0 r a).reached, calm_going g c h.0 r a)) rs lent (start_reached g lent, refl)

-- STEPS by where the boards stand
steps_same : {s : Sheet} → Valid s → (x y : Job) → ((r : ℕ) → r < P_of s → position x r ≡ position y r) →
    sum_below (N_of s) (steps_done s x) ≡ sum_below (N_of s) (steps_done s y)
unfolding steps_done reach next_op
steps_same {s} g x y same = sum_same (N_of s) (steps_done s x) (steps_done s y) at
  where
    at : (j : ℕ) → j < N_of s → steps_done s x j ≡ steps_done s y j
    at j l =
        let r = rank_of s j in
        let e = same r (g.rank_small j l) in
        cc (position_finished x y r e, position_waiting x y r e)

-- TWO ENDS
pub ends_same_positions : {s : Sheet} (g : Valid s) (A : DeliveryLaws s) (c : calm s ≡ true) (a b lent : List ℕ) → inbox_total s ≤ length lent →
    ((r : ℕ) → able s (left_by s a lent) r ≡ false) → ((r : ℕ) → able s (left_by s b lent) r ≡ false) →
    (X : Reached s lent (left_by s a lent)) (Y : Reached s lent (left_by s b lent)) → SamePositions X Y
unfolding is_none
ends_same_positions {s} g A c a b lent room end_a end_b X Y =
    record {
      stop = going_x ∙ sym going_y;
      steps =
          X.steps_sum ∙ ap (λ (o : Option Stop). sum_below (N_of s) (steps_done s x) + cond (is_none o) 0 1) going_x
          ∙ ap (λ (k : ℕ). k + 0) (steps_same g x y places)
          ∙ sym (Y.steps_sum ∙ ap (λ (o : Option Stop). sum_below (N_of s) (steps_done s y) + cond (is_none o) 0 1) going_y);
      places = places;
      order = calm_order c X Y;
      order_back = calm_order c Y X;
      queries = λ k t. true_not_false t (calm_no_query s c k);
      kept = covered_kept (calm_rooms s c) X Y (places_entered g X.placed Y.placed (λ r l. omega (arith, places r l)));
      kept_back = covered_kept (calm_rooms s c) Y X (places_entered g Y.placed X.placed (λ r l. omega (arith, places r l)));
    }
  where
    x : Job
    x = left_by s a lent

    y : Job
    y = left_by s b lent

    going_x : x.stop ≡ none
    going_x = (calm_left g A c a lent room).1

    going_y : y.stop ≡ none
    going_y = (calm_left g A c b lent room).1

    places : (r : ℕ) → r < P_of s → position x r ≡ position y r
    places r l = omega (
      arith,
      left_behind g A c lent room Y going_y end_b a r l,
      left_behind g A c lent room X going_x end_a b r
          l,
    )
