-- The three ways that a board can step without stopping the job: an initiating step, the only half of an operation, the end of a
-- waiting half.
--   advances_grows                                        rows that grow, as what becomes entered
--   ongoing_initiating, ongoing_only_half, ongoing_half   the three, as `Ongoing`
-- Assumes nothing.
use Rattle.std.specs.Prelude.{◌≡◌, refl, ◌⊎◌, Bool, true, false, ◌||◌, cond, ℕ, ◌+◌}
use Rattle.std.proofs.Common.{sym, ap, ◌∙◌, inl, inr, arith}
use Rattle.rules.specs.Sheet.{Sheet, op, only_half, no_half}
use Rattle.rules.specs.Job.{Job, place_at, entry_at}
use Rattle.rules.specs.Step.{next_op, in_waiting_half}
use Rattle.laws.specs.Tests.{true_not_false}
use Rattle.invariant.specs.Invariant.{Entered, steps_of, reach, Placed}
use Rattle.invariant.specs.matching.RowChanges.{Grows, state_same}
use Rattle.invariant.specs.step.Places.{Next, Moved}
use Rattle.invariant.specs.preserve.Places.{Advances, Ongoing, ends_complete}

-- ADVANCES
pub advances_grows : {x y : Job} {i : ℕ} → Grows x y i → Advances x y i
advances_grows G =
    record {
      here = G.enters;
      on = G.on;
      back = G.back;
      complete_on = G.complete_on;
    }

-- STEPS of the operation
steps_one : (s : Sheet) (i : ℕ) → (no_half (op s i) ≡ true) ⊎ (only_half (op s i) ≡ true) → steps_of (op s i) ≡ 1
unfolding steps_of
steps_one s i (inl e) = ap (λ (b : Bool). cond (b || only_half (op s i)) 1 2) e
steps_one s i (inr e) = go (no_half (op s i)) (only_half (op s i)) e
  where
    go : (a b : Bool) → b ≡ true → ◌≡◌ {A = ℕ} (cond (a || b) 1 2) 1
    go true b e = refl
    go false true e = refl
    go false false e = true_not_false e refl

steps_two : (s : Sheet) (i : ℕ) → no_half (op s i) ≡ false → only_half (op s i) ≡ false → steps_of (op s i) ≡ 2
unfolding steps_of
steps_two s i a b = ap (λ (c : Bool). cond (c || only_half (op s i)) 1 2) a ∙ ap (λ (c : Bool). cond c 1 2) b

-- TURNS: an initiating step
pub ongoing_initiating : {s : Sheet} {x y : Job} {r : ℕ} → Next s x r → Moved x y r (no_half (op s (next_op s x r))) →
    Grows x y (next_op s x r) →
    (place_at x r).waiting ≡ false → only_half (op s (next_op s x r)) ≡ false → Ongoing s x y r (no_half (op s (next_op s x r)))
ongoing_initiating {s} {x} {y} {r} n m G w e =
    record {
      next = n;
      moved = m;
      advances = advances_grows G;
      goes_waiting = λ b. (b, e, w);
      finishes = λ a b t. true_not_false a b;
      steps_left = λ a. ap (λ (b : Bool). cond b 1 0 + 1) w ∙ sym (steps_one s (next_op s x r) (inl a));
    }

-- a wait
pub ongoing_only_half : {s : Sheet} {x y : Job} {r : ℕ} → Next s x r → Moved x y r true → Grows x y (next_op s x r) →
    (place_at x r).waiting ≡ false → only_half (op s (next_op s x r)) ≡ true → Ongoing s x y r true
unfolding in_waiting_half
ongoing_only_half {s} {x} {y} {r} n m G w e =
    record {
      next = n;
      moved = m;
      advances = advances_grows G;
      goes_waiting = λ b. true_not_false refl b;
      finishes =
          λ a b t. ends_complete s x (next_op s x r) t (n.ends (ap (λ (c : Bool). c || only_half (op s (next_op s x r))) w ∙ e));
      steps_left = λ a. ap (λ (b : Bool). cond b 1 0 + 1) w ∙ sym (steps_one s (next_op s x r) (inr e));
    }

-- a waiting half
pub ongoing_half : {s : Sheet} {x y : Job} {r : ℕ} → Placed s x → Next s x r → Moved x y r true →
    ((j : ℕ) → entry_at y j ≡ entry_at x j) →
    (place_at x r).waiting ≡ true → Ongoing s x y r true
unfolding in_waiting_half reach
ongoing_half {s} {x} {y} {r} p n m same w =
    record {
      next = n;
      moved = m;
      advances =
          record {
            here = omega (arith, state_same (same (next_op s x r)), there);
            on = λ j h. omega (arith, state_same (same j));
            back = λ j d h. omega (arith, state_same (same j));
            complete_on = λ j h. omega (arith, state_same (same j));
          };
      goes_waiting = λ b. true_not_false refl b;
      finishes =
          λ a b t. ends_complete s x (next_op s x r) t (n.ends (ap (λ (c : Bool). c || only_half (op s (next_op s x r))) w));
      steps_left =
          λ a.
          ap (λ (b : Bool). cond b 1 0 + 1) w
          ∙ sym (steps_two s (next_op s x r) (p.waiting_not_no_half r n.rank_small w) (p.waiting_not_only_half r n.rank_small w));
    }
  where
    there : Entered x (next_op s x r)
    there =
        p.entered_if (next_op s x r) n.inside
        (omega (arith, ap (λ (z : ℕ). reach s x z) n.ranked, ap (λ (b : Bool). next_op s x r + cond b 1 0) w))
