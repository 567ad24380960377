-- Nothing in the inboxes influences a step: an order is followed alike on any two rooms that are long enough, and where they
-- start with the same bytes, so do the inboxes that it leaves.
--   rooms_same_positions    one order, two rooms
--   most_same               one order on two rooms has the same peaks
--   positions_near          the inboxes of two such jobs start with the same bytes if the lent ones did
-- Assumes nothing.
use Rattle.std.specs.Prelude.{◌≡◌, refl, Bool, true, false, ◌&&◌, cond, List, [], ◌∷◌, ℕ, zero, suc, ◌≤◌, ◌<◌, max, eqb, length}
use Rattle.std.proofs.Common.{sym, ap₂, subst, ◌∙◌, arith}
use Rattle.rules.specs.Sheet.{Sheet, op, P_of, N_of, inbox_total, is_receive}
use Rattle.rules.specs.Job.{Job, Store, in_use_at, job, started}
use Rattle.rules.specs.Step.{able, step, delivered}
use Rattle.rules.specs.Order.{follow}
use Rattle.invariant.specs.sheet.Valid.{Valid}
use Rattle.invariant.specs.deliveries.Laws.{DeliveryLaws}
use Rattle.invariant.specs.Invariant.{state_at, partner_at, replay, replayed, Reached}
use Rattle.invariant.specs.matching.Monotone.{SameOrder}
use Rattle.laws.specs.SpliceOrder.{Near, splice_near}
use Rattle.invariant.specs.preserve.Memory.{replayed_rows}
use Rattle.invariant.specs.preserve.Orders.{start_reached, start_entry, start_position, none_entered}
use Rattle.laws.specs.Tests.{true_not_false}
use Rattle.promises.specs.Statements.{most_in_use}
use Rattle.promises.proofs.compare.SamePositions.{SamePositions, positions_rows, positions_in_use, positions_able, positions_step}
use Rattle.promises.proofs.compare.WholeOrders.{LeftSamePositions, positions_follow}

-- ONE ORDER, TWO ROOMS
-- nothing is entered at the start, so there is no order of arrival to differ in
start_order : {s : Sheet} (g : Valid s) (i j : List ℕ) →
    SameOrder s (start_reached g i).arrival (started s i) (start_reached g j).arrival (started s j)
start_order g i j k m q sk sm rr fk fm there_m = none_entered g i m there_m

pub start_same_positions : {s : Sheet} (g : Valid s) (i j : List ℕ) → SamePositions (start_reached g i) (start_reached g j)
unfolding started job
start_same_positions {s} g i j =
    record {
      stop = refl;
      steps = refl;
      places = λ r l. start_position g i r ∙ sym (start_position g j r);
      order = start_order g i j;
      order_back = start_order g j i;
      queries = λ k t. start_entry g j k ∙ sym (start_entry g i k);
      kept = λ k two. none_entered g i k (omega (arith, two));
      kept_back = λ k two. none_entered g j k (omega (arith, two));
    }

pub rooms_same_positions : {s : Sheet} → Valid s → DeliveryLaws s → {i j : List ℕ} → inbox_total s ≤ length i → inbox_total s ≤ length j →
    (rs : List ℕ) → LeftSamePositions s i j (follow s rs i) (follow s rs j)
unfolding follow
rooms_same_positions g A {i} {j} room_i room_j rs = positions_follow g A room_i room_j 0 rs (start_same_positions g i j)

-- THE SAME FIRST BYTES
replay_near : {n : ℕ} {bs cs : List ℕ} (s : Sheet) (x : Job) (k : ℕ) → Near n bs cs → Near n (replay s x k bs) (replay s x k cs)
unfolding replay delivered
replay_near {n} {bs} {cs} s x k h = go (is_receive (op s k) && eqb (state_at x k) 3)
  where
    go : (b : Bool) →
        Near n (cond b (delivered s (partner_at x k) k bs) bs) (cond b (delivered s (partner_at x k) k cs) cs)
    go true = splice_near h _ _
    go false = h

replayed_near : {n : ℕ} {bs cs : List ℕ} (s : Sheet) (x : Job) (k : ℕ) → Near n bs cs →
    Near n (replayed s x k bs) (replayed s x k cs)
unfolding replayed
replayed_near s x zero h = h
replayed_near s x (suc k) h = replay_near s x k (replayed_near s x k h)

pub positions_near : {s : Sheet} → Valid s → {n : ℕ} {i j : List ℕ} {x y : Job} {X : Reached s i x} {Y : Reached s j y} → SamePositions X Y →
    Near n i j → Near n x.memory y.memory
positions_near {s} g {n} {i} {j} {x} {y} {X} {Y} K h =
    subst (λ (z : List ℕ). Near n z y.memory) (sym X.memory_replayed)
    (subst (λ (z : List ℕ). Near n (replayed s x (N_of s) i) z) (replayed_rows_back ∙ sym Y.memory_replayed)
    (replayed_near s x (N_of s) h))
  where
    replayed_rows_back : replayed s x (N_of s) j ≡ replayed s y (N_of s) j
    replayed_rows_back = sym (replayed_rows s x y (N_of s) j (positions_rows g K))

-- THE SAME PEAKS: what is in use after each step is the same
pub most_same : {s : Sheet} → Valid s → DeliveryLaws s → {i j : List ℕ} → inbox_total s ≤ length i → inbox_total s ≤ length j →
    (w : Store) (r : ℕ) → r < P_of s → (rs : List ℕ) {x y : Job} {X : Reached s i x} {Y : Reached s j y} → SamePositions X Y →
    most_in_use w s rs x r ≡ most_in_use w s rs y r
unfolding most_in_use
most_same g A room_x room_y w r l [] K = refl
most_same {s} g A room_x room_y w r l (q ∷ rs) {x} {y} K =
    go (able s x q) refl (able s y q) refl
    (λ a b.
    let after = positions_step g K A room_x room_y q a b in
    ap₂ max (positions_in_use g after w r l) (most_same g A room_x room_y w r l rs after))
  where
    go : (a : Bool) → able s x q ≡ a → (b : Bool) → able s y q ≡ b →
        (able s x q ≡ true → able s y q ≡ true →
        max (in_use_at w (step s q x) r) (most_in_use w s rs (step s q x) r)
        ≡ max (in_use_at w (step s q y) r) (most_in_use w s rs (step s q y) r)) →
        cond a (max (in_use_at w (step s q x) r) (most_in_use w s rs (step s q x) r)) 0
        ≡ cond b (max (in_use_at w (step s q y) r) (most_in_use w s rs (step s q y) r)) 0
    go true e true f same = same e f
    go true e false f same = true_not_false (sym (positions_able g K q) ∙ e) f
    go false e true f same = true_not_false (positions_able g K q ∙ f) e
    go false e false f same = refl
