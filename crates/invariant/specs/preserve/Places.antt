-- A step moves its board on by one, and keeps `Placed`.
--   Advances            what becomes entered by a step of operation i
--   Ongoing             a step that goes on: where its board goes, and why it may
--   half_complete_on    complete stays complete; ends_complete: where a waiting half can end
--   prefix              on one board everything before an entered operation is entered
--   next_here, reach_here, next_other ..    the operations that are next and reached after the step
--   placed_step         the places stay right
-- Assumes nothing.
use Rattle.std.specs.Prelude.{◌≡◌, ◌≢◌, Bool, ◌||◌}
use Rattle.std.proofs.Math.Path.{refl, ap, subst}
use Rattle.std.proofs.Common.{sym, ◌∙◌, arith, leb-true, le-leb}
use Rattle.std.proofs.Math.Bool.{true, false, not, cond}
use Rattle.std.proofs.Math.Option.{Option, none, some}
use Prim.Native.Nat.{ℕ, suc, ◌+◌, ◌≤◌, ◌<◌}
use Rattle.std.proofs.Math.Decide.{ℕ_discrete}
use Rattle.rules.specs.Sheet.{Sheet, op, board, P_of, N_of, rank_of, only_half, no_half, frees_slot, tells_message, tells_completion, tells}
use Rattle.rules.specs.Job.{Job, place_at}
use Rattle.rules.specs.Step.{next_op, half_complete, half_ends, first_message, is_none, complete, complete_if, waited}
use Rattle.laws.specs.Tests.{true_not_false, or_false_left, or_false_right}
use Rattle.invariant.specs.sheet.Valid.{Valid}
use Rattle.invariant.specs.Invariant.{Entered, state_at, Placed, reach, steps_of}
use Rattle.invariant.specs.step.Places.{Next, Moved, moved_finished, moved_waiting, moved_finished_other, moved_waiting_other}

-- what becomes entered by a step of operation i, and what stays
pub record Advances (x y : Job) (i : ℕ) : Type 0 where
  pub here : Entered y i
  pub on : (j : ℕ) → Entered x j → Entered y j
  pub back : (j : ℕ) → j ≢ i → Entered y j → Entered x j
  pub complete_on : (j : ℕ) → 2 ≤ state_at x j → 2 ≤ state_at y j

-- `last` says that the step finishes its operation
pub record Ongoing (s : Sheet) (x y : Job) (r : ℕ) (last : Bool) : Type 0 where
  pub next : Next s x r
  pub moved : Moved x y r last
  pub advances : Advances x y (next_op s x r)
  -- an operation that is not finished by this step has a waiting half; one that is had been in it, or has none
  pub goes_waiting : last ≡ false → (no_half (op s (next_op s x r)) ≡ false) × (only_half (op s (next_op s x r)) ≡ false)
      × ((place_at x r).waiting ≡ false)
  pub finishes : last ≡ true → no_half (op s (next_op s x r)) ≡ false → tells (op s (next_op s x r)) ≡ false →
      half_complete s x (next_op s x r) ≡ true
  pub steps_left : last ≡ true → cond (place_at x r).waiting 1 0 + 1 ≡ steps_of (op s (next_op s x r))

-- complete stays complete
pub complete_if_on : (x y : Job) → ((j : ℕ) → 2 ≤ state_at x j → 2 ≤ state_at y j) → (o : Option ℕ) →
    complete_if x o ≡ true → complete_if y o ≡ true
unfolding complete complete_if
complete_if_on x y on none e = e
complete_if_on x y on (some j) e = le-leb 2 (state_at y j) (on j (leb-true 2 (state_at x j) e))

pub half_complete_on : (s : Sheet) (x y : Job) → ((j : ℕ) → 2 ≤ state_at x j → 2 ≤ state_at y j) → (i : ℕ) →
    half_complete s x i ≡ true → half_complete s y i ≡ true
unfolding half_complete complete_if
half_complete_on s x y on i = go (frees_slot (op s i))
  where
    go : (b : Bool) → cond b (complete_if x (waited s i)) (complete x i) ≡ true →
        cond b (complete_if y (waited s i)) (complete y i) ≡ true
    go true e = complete_if_on x y on (waited s i) e
    go false e = complete_if_on x y on (some i) e

-- a waiting half that can end, of an operation that does not tell, has what it waits for complete
pub ends_complete : (s : Sheet) (x : Job) (i : ℕ) → tells (op s i) ≡ false → half_ends s x i ≡ true → half_complete s x i ≡ true
unfolding tells half_ends
ends_complete s x i t e =
    go (tells_message (op s i)) (or_false_left (tells_message (op s i)) (tells_completion (op s i)) t) (tells_completion (op s i))
    (or_false_right (tells_message (op s i)) (tells_completion (op s i)) t) e
  where
    go : (a : Bool) → a ≡ false → (b : Bool) → b ≡ false →
        cond a (not (is_none (first_message s i x.messages))) (b || half_complete s x i) ≡ true → half_complete s x i ≡ true
    go true p b q h = true_not_false refl p
    go false p true q h = true_not_false refl q
    go false p false q h = h

-- on one board everything before an entered operation is entered
pub prefix : (s : Sheet) (x : Job) → Placed s x → (j i : ℕ) → Entered x i → j < i → rank_of s j ≡ rank_of s i → Entered x j
prefix s x p j i h l e =
    let only = p.entered_only i h in
    p.entered_if j (omega (arith, only.0)) (omega (arith, only.1, ap (λ (z : ℕ). reach s x z) e))

module _ {s : Sheet} {x y : Job} {r : ℕ} {last : Bool} (g : Valid s) (p : Placed s x) (T : Ongoing s x y r last) where
  abbrev pub here : ℕ
  here = next_op s x r

  n : Next s x r
  n = T.next

  abbrev pub waits : ℕ
  waits = cond (place_at x r).waiting 1 0

  -- the operations that were next and reached, and are
  pub next_here : next_op s y r ≡ cond last (suc here) here
  unfolding next_op
  next_here = go last (moved_finished T.moved)
    where
      go : (b : Bool) → (place_at y r).finished ≡ cond b (suc (place_at x r).finished) (place_at x r).finished →
          (board s r).first + (place_at y r).finished ≡ cond b (suc ((board s r).first + (place_at x r).finished))
          ((board s r).first + (place_at x r).finished)
      go true e = omega (arith, e)
      go false e = omega (arith, e)

  pub reach_here : reach s y r ≡ suc here
  unfolding reach
  reach_here = go last next_here (moved_waiting T.moved)
    where
      go : (b : Bool) → next_op s y r ≡ cond b (suc here) here → (place_at y r).waiting ≡ not b →
          next_op s y r + cond (place_at y r).waiting 1 0 ≡ suc here
      go true e w = subst (λ (c : Bool). next_op s y r + cond c 1 0 ≡ suc here) (sym w) (omega (arith, e))
      go false e w = subst (λ (c : Bool). next_op s y r + cond c 1 0 ≡ suc here) (sym w) (omega (arith, e))

  pub reach_before : reach s x r ≡ here + waits
  unfolding reach
  reach_before = refl

  pub waits_most : waits ≤ 1
  waits_most = go (place_at x r).waiting
    where
      go : (b : Bool) → cond b 1 0 ≤ 1
      go true = omega arith
      go false = omega arith

  pub next_other : (q : ℕ) → q ≢ r → next_op s y q ≡ next_op s x q
  unfolding next_op
  next_other q d = ap (λ (k : ℕ). (board s q).first + k) (moved_finished_other T.moved q d)

  pub reach_other : (q : ℕ) → q ≢ r → reach s y q ≡ reach s x q
  unfolding reach
  reach_other q d =
      ap (λ (k : ℕ). k + cond (place_at y q).waiting 1 0) (next_other q d)
      ∙ ap (λ (b : Bool). next_op s x q + cond b 1 0) (moved_waiting_other T.moved q d)

  -- the same of an operation's own board
  pub reach_mine : (j : ℕ) → rank_of s j ≡ r → reach s y (rank_of s j) ≡ suc here
  reach_mine j e = ap (λ (z : ℕ). reach s y z) e ∙ reach_here

  pub reach_mine_before : (j : ℕ) → rank_of s j ≡ r → reach s x (rank_of s j) ≡ here + waits
  reach_mine_before j e = ap (λ (z : ℕ). reach s x z) e ∙ reach_before

  pub next_mine : (j : ℕ) → rank_of s j ≡ r → next_op s y (rank_of s j) ≡ cond last (suc here) here
  next_mine j e = ap (λ (z : ℕ). next_op s y z) e ∙ next_here

  pub next_mine_before : (j : ℕ) → rank_of s j ≡ r → next_op s x (rank_of s j) ≡ here
  next_mine_before j e = ap (λ (z : ℕ). next_op s x z) e

  -- a step that goes on keeps the places right
  pub placed_step : Placed s y
  placed_step =
      record {
        entries_long = T.moved.entries_long ∙ p.entries_long;
        places_long = T.moved.places_long ∙ p.places_long;
        finished_most = λ q l. most q l (ℕ_discrete q r);
        waiting_unfinished = λ q l w. unfinished q l w (ℕ_discrete q r);
        waiting_not_no_half = λ q l w. blocking q l w (ℕ_discrete q r);
        waiting_not_only_half = λ q l w. no_wait q l w (ℕ_discrete q r);
        entered_if = λ j l h. entered_if j l h (ℕ_discrete (rank_of s j) r) (ℕ_discrete j here);
        entered_only = λ j h. entered_only j h (ℕ_discrete j here) (ℕ_discrete (rank_of s j) r);
        passed_complete = λ j l h b t. passed j l h b t (ℕ_discrete (rank_of s j) r) last refl;
      }
    where
      -- at the board that stepped: waiting means that the step did not finish its operation
      not_last : (q : ℕ) → q ≡ r → (place_at y q).waiting ≡ true → last ≡ false
      not_last q e w = go last (moved_waiting T.moved)
        where
          go : (b : Bool) → (place_at y r).waiting ≡ not b → b ≡ false
          go true h = true_not_false (ap (λ (z : ℕ). (place_at y z).waiting) (sym e) ∙ w) h
          go false h = refl

      stays : (b : Bool) → b ≡ false → next_op s y r ≡ cond b (suc here) here → next_op s y r ≡ here
      stays true e h = true_not_false refl e
      stays false e h = h

      most : (q : ℕ) → q < P_of s → Dec (q ≡ r) → (place_at y q).finished ≤ (board s q).count
      most q l (no d) = omega (arith, moved_finished_other T.moved q d, p.finished_most q l)
      most q l (yes e) =
          subst (λ (z : ℕ). (place_at y z).finished ≤ (board s z).count) (sym e)
          (go last (moved_finished T.moved))
        where
          go : (b : Bool) → (place_at y r).finished ≡ cond b (suc (place_at x r).finished) (place_at x r).finished →
              (place_at y r).finished ≤ (board s r).count
          go true h = omega (arith, n.unfinished)
          go false h = omega (arith, n.unfinished)

      unfinished : (q : ℕ) → q < P_of s → (place_at y q).waiting ≡ true → Dec (q ≡ r) → (place_at y q).finished < (board s q).count
      unfinished q l w (no d) = omega (
        arith,
        moved_finished_other T.moved q d,
        p.waiting_unfinished q l
            (sym (moved_waiting_other T.moved q d) ∙ w),
      )
      unfinished q l w (yes e) =
          subst (λ (z : ℕ). (place_at y z).finished < (board s z).count) (sym e)
          (go last (not_last q e w) (moved_finished T.moved))
        where
          go : (b : Bool) → b ≡ false → (place_at y r).finished ≡ cond b (suc (place_at x r).finished) (place_at x r).finished →
              (place_at y r).finished < (board s r).count
          go true c h = true_not_false refl c
          go false c h = omega (arith, n.unfinished)

      blocking : (q : ℕ) → q < P_of s → (place_at y q).waiting ≡ true → Dec (q ≡ r) → no_half (op s (next_op s y q)) ≡ false
      blocking q l w (no d) =
          ap (λ (k : ℕ). no_half (op s k)) (next_other q d)
          ∙ p.waiting_not_no_half q l (sym (moved_waiting_other T.moved q d) ∙ w)
      blocking q l w (yes e) =
          ap (λ (k : ℕ). no_half (op s (next_op s y k))) e
          ∙ ap (λ (k : ℕ). no_half (op s k)) (stays last (not_last q e w) next_here)
          ∙ (T.goes_waiting (not_last q e w)).0

      no_wait : (q : ℕ) → q < P_of s → (place_at y q).waiting ≡ true → Dec (q ≡ r) → only_half (op s (next_op s y q)) ≡ false
      no_wait q l w (no d) =
          ap (λ (k : ℕ). only_half (op s k)) (next_other q d)
          ∙ p.waiting_not_only_half q l (sym (moved_waiting_other T.moved q d) ∙ w)
      no_wait q l w (yes e) =
          ap (λ (k : ℕ). only_half (op s (next_op s y k))) e
          ∙ ap (λ (k : ℕ). only_half (op s k)) (stays last (not_last q e w) next_here)
          ∙ (T.goes_waiting (not_last q e w)).1

      entered_if : (j : ℕ) → j < N_of s → j < reach s y (rank_of s j) → Dec (rank_of s j ≡ r) → Dec (j ≡ here) → Entered y j
      entered_if j l h _ (yes e) = subst (λ (z : ℕ). Entered y z) (sym e) T.advances.here
      entered_if j l h (yes e) (no d) =
          T.advances.on j
          (p.entered_if j l (omega (arith, reach_mine j e, reach_mine_before j e)))
      entered_if j l h (no c) (no d) = T.advances.on j (p.entered_if j l (omega (arith, reach_other (rank_of s j) c)))

      entered_only : (j : ℕ) → Entered y j → Dec (j ≡ here) → Dec (rank_of s j ≡ r) → (j < N_of s) × (j < reach s y (rank_of s j))
      entered_only j h (yes e) _ =
          let mine : rank_of s j ≡ r = ap (λ (z : ℕ). rank_of s z) e ∙ n.ranked in
          (omega (arith, n.inside), omega (arith, reach_mine j mine))
      entered_only j h (no d) (yes e) =
          let only = p.entered_only j (T.advances.back j d h) in
          (only.0, omega (arith, only.1, reach_mine j e, reach_mine_before j e, waits_most))
      entered_only j h (no d) (no c) =
          let only = p.entered_only j (T.advances.back j d h) in
          (only.0, omega (arith, only.1, reach_other (rank_of s j) c))

      passed : (j : ℕ) → j < N_of s → j < next_op s y (rank_of s j) → no_half (op s j) ≡ false → tells (op s j) ≡ false →
          Dec (rank_of s j ≡ r) → (b : Bool) → last ≡ b →
          half_complete s y j ≡ true
      passed j l h b t (no c) _ _ =
          half_complete_on s x y T.advances.complete_on j
          (p.passed_complete j l (omega (arith, next_other (rank_of s j) c)) b t)
      passed j l h b t (yes e) c q = go (ℕ_discrete j here) c q (next_mine j e)
        where
          go : Dec (j ≡ here) → (c : Bool) → last ≡ c → next_op s y (rank_of s j) ≡ cond last (suc here) here →
              half_complete s y j ≡ true
          go (yes a) true q k =
              half_complete_on s x y T.advances.complete_on j
              (subst (λ (z : ℕ). half_complete s x z ≡ true) (sym a)
              (T.finishes q (ap (λ (z : ℕ). no_half (op s z)) (sym a) ∙ b) (ap (λ (z : ℕ). tells (op s z)) (sym a) ∙ t)))
          go (yes a) false q k = absurd (omega (arith, k, ap (λ (c : Bool). cond c (suc here) here) q))
          go (no a) true q k =
              half_complete_on s x y T.advances.complete_on j
              (p.passed_complete j l (omega (arith, k, ap (λ (c : Bool). cond c (suc here) here) q, next_mine_before j e)) b t)
          go (no a) false q k =
              half_complete_on s x y T.advances.complete_on j
              (p.passed_complete j l (omega (arith, k, ap (λ (c : Bool). cond c (suc here) here) q, next_mine_before j e)) b t)
