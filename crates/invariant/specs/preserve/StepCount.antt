-- Steps are counted by where the boards stand: a step that goes on adds one to the sum of the steps that each operation has
-- taken, and no operation takes more than two.
--   steps_step      one more
--   steps_most      at most two an operation; able_room, steps_bound: so a job takes at most 2N
-- Assumes nothing.
use Rattle.std.specs.Prelude.{◌≡◌, ◌≢◌, Bool, ◌||◌, List, ℕ, suc, ◌+◌, ◌*◌, ◌≤◌, ◌<◌, ltb}
use Rattle.std.proofs.Math.Path.{refl, ap, subst}
use Rattle.std.proofs.Common.{sym, ◌∙◌, lt-ltb, le-ltb}
use Rattle.std.proofs.Math.Bool.{true, false, cond}
use Rattle.std.proofs.Math.Option.{Option, none, some}
use native.Mathlib.Omega.{arith}
use Rattle.std.proofs.Math.Decide.{ℕ_discrete, dec_lt}
use Rattle.rules.specs.Sheet.{Sheet, Op, op, N_of, rank_of, only_half, no_half}
use Rattle.rules.specs.Job.{Job, Stop, place_at}
use Rattle.rules.specs.Step.{able, next_op, is_none}
use Rattle.invariant.specs.sheet.Valid.{Valid}
use Rattle.laws.specs.Sums.{sum_below, sum_change, sum_gap, sum_most}
use Rattle.invariant.specs.Invariant.{state_at, Placed, Reached, reach, steps_of, steps_done}
use Rattle.invariant.specs.step.Places.{Next, able_next}
use Rattle.invariant.specs.preserve.Places.{Ongoing, waits, waits_most, next_other, reach_other, reach_mine, reach_mine_before, next_mine, next_mine_before}

-- the steps of operation j, where its board has finished those below a and entered those below b
unfoldable answers : (j a b all : ℕ) → ℕ
answers j a b all = cond (ltb j a) all (cond (ltb j b) 1 0)

told_finished : (j a b all : ℕ) → j < a → answers j a b all ≡ all
unfolding answers
told_finished j a b all l = ap (λ (c : Bool). cond c all (cond (ltb j b) 1 0)) (lt-ltb j a l)

told_entered : (j a b all : ℕ) → a ≤ j → j < b → answers j a b all ≡ 1
unfolding answers
told_entered j a b all l h =
    ap (λ (c : Bool). cond c all (cond (ltb j b) 1 0)) (le-ltb j a l)
    ∙ ap (λ (c : Bool). cond c 1 0) (lt-ltb j b h)

told_none : (j a b all : ℕ) → a ≤ j → b ≤ j → answers j a b all ≡ 0
unfolding answers
told_none j a b all l h =
    ap (λ (c : Bool). cond c all (cond (ltb j b) 1 0)) (le-ltb j a l)
    ∙ ap (λ (c : Bool). cond c 1 0) (le-ltb j b h)

steps_told : (s : Sheet) (x : Job) (j : ℕ) → steps_done s x j ≡ answers j (next_op s x (rank_of s j)) (reach s x (rank_of s j))
    (steps_of (op s j))
unfolding steps_done answers
steps_told s x j = refl

-- AT MOST TWO
steps_of_most : (o : Op) → steps_of o ≤ 2
unfolding steps_of
steps_of_most o = go (no_half o || only_half o)
  where
    go : (b : Bool) → cond b 1 2 ≤ 2
    go true = omega arith
    go false = omega arith

pub steps_done_most : (s : Sheet) (x : Job) (j : ℕ) → steps_done s x j ≤ 2
unfolding steps_done
steps_done_most s x j = go (ltb j (next_op s x (rank_of s j))) (ltb j (reach s x (rank_of s j)))
  where
    go : (a b : Bool) → cond a (steps_of (op s j)) (cond b 1 0) ≤ 2
    go true b = steps_of_most (op s j)
    go false true = omega arith
    go false false = omega arith

pub steps_most : (s : Sheet) (x : Job) → sum_below (N_of s) (steps_done s x) ≤ 2 * N_of s
steps_most s x = sum_most (N_of s) 2 (steps_done s x) (λ j l. steps_done_most s x j)

-- ONE MORE
module _ {s : Sheet} {x y : Job} {r : ℕ} {last : Bool} (g : Valid s) (p : Placed s x) (T : Ongoing s x y r last) where
  abbrev mine : ℕ
  mine = next_op s x r

  steps_other : (j : ℕ) → j ≢ mine → steps_done s x j ≡ steps_done s y j
  steps_other j d = steps_told s x j ∙ go (ℕ_discrete (rank_of s j) r) (dec_lt j mine) ∙ sym (steps_told s y j)
    where
      a : ℕ
      a = next_op s x (rank_of s j)

      b : ℕ
      b = reach s x (rank_of s j)

      a_now : ℕ
      a_now = next_op s y (rank_of s j)

      b_now : ℕ
      b_now = reach s y (rank_of s j)

      all : ℕ
      all = steps_of (op s j)

      next_near : (c : Bool) → a_now ≡ cond c (suc mine) mine → (mine ≤ a_now) × (a_now ≤ suc mine)
      next_near true e = (omega (arith, e), omega (arith, e))
      next_near false e = (omega (arith, e), omega (arith, e))

      go : Dec (rank_of s j ≡ r) → Dec (j < mine) → answers j a b all ≡ answers j a_now b_now all
      go (no c) _ =
          ap (λ (k : ℕ). answers j k b all) (sym (next_other g p T (rank_of s j) c))
          ∙ ap (λ (k : ℕ). answers j a_now k all) (sym (reach_other g p T (rank_of s j) c))
      go (yes e) (yes l) =
          told_finished j a b all (omega (arith, next_mine_before g p T j e))
          ∙ sym (told_finished j a_now b_now all (omega (arith, (next_near last (next_mine g p T j e)).0)))
      go (yes e) (no l) =
          told_none j a b all (omega (arith, next_mine_before g p T j e))
          (omega (arith, reach_mine_before g p T j e, waits_most g p T))
          ∙ sym (told_none j a_now b_now all (omega (arith, (next_near last (next_mine g p T j e)).1))
          (omega (arith, reach_mine g p T j e)))

  steps_here_before : steps_done s x mine ≡ waits g p T
  steps_here_before = steps_told s x mine ∙ go (place_at x r).waiting (reach_mine_before g p T mine T.next.ranked)
    where
      go : (b : Bool) → reach s x (rank_of s mine) ≡ mine + cond b 1 0 →
          answers mine (next_op s x (rank_of s mine)) (reach s x (rank_of s mine)) (steps_of (op s mine)) ≡ cond b 1 0
      go true e =
          told_entered mine _ (reach s x (rank_of s mine)) (steps_of (op s mine))
          (omega (arith, next_mine_before g p T mine T.next.ranked)) (omega (arith, e))
      go false e =
          told_none mine _ (reach s x (rank_of s mine)) (steps_of (op s mine))
          (omega (arith, next_mine_before g p T mine T.next.ranked)) (omega (arith, e))

  steps_here : steps_done s y mine ≡ suc (waits g p T)
  steps_here = steps_told s y mine ∙ go last refl (next_mine g p T mine T.next.ranked)
    where
      a : ℕ
      a = next_op s y (rank_of s mine)

      b : ℕ
      b = reach s y (rank_of s mine)

      go : (c : Bool) → last ≡ c → a ≡ cond last (suc mine) mine → answers mine a b (steps_of (op s mine)) ≡ suc (waits g p T)
      go true q e =
          told_finished mine a b (steps_of (op s mine)) (omega (arith, e, ap (λ (c : Bool). cond c (suc mine) mine) q))
          ∙ omega (arith, T.steps_left q)
      go false q e =
          told_entered mine a b (steps_of (op s mine)) (omega (arith, e, ap (λ (c : Bool). cond c (suc mine) mine) q))
          (omega (arith, reach_mine g p T mine T.next.ranked))
          ∙ omega (arith, ap {B = ℕ} (λ (c : Bool). cond c 1 0) (T.goes_waiting q).2)

  -- a step that goes on adds one
  pub steps_step : sum_below (N_of s) (steps_done s y) ≡ suc (sum_below (N_of s) (steps_done s x))
  steps_step =
      omega (
        arith,
        sum_change (N_of s) mine (steps_done s x) (steps_done s y) T.next.inside
            (λ j l d. steps_other j d),
        steps_here,
        steps_here_before,
      )

fresh_unpassed : (s : Sheet) (x : Job) → Placed s x → (i : ℕ) → i < N_of s → state_at x i ≡ 0 → next_op s x (rank_of s i) ≤ i
unfolding reach
fresh_unpassed s x p i l e = go (dec_lt i (next_op s x (rank_of s i)))
  where
    go : Dec (i < next_op s x (rank_of s i)) → next_op s x (rank_of s i) ≤ i
    go (yes h) = absurd (omega (arith, p.entered_if i l (omega arith)))
    go (no d) = omega arith

-- ROOM LEFT: a board that is able has a step left, and a job that stopped had one
module _ {s : Sheet} {lent : List ℕ} {x : Job} (R : Reached s lent x) where
  one_left : (i : ℕ) → i < N_of s → steps_done s x i ≤ 1 → sum_below (N_of s) (steps_done s x) < 2 * N_of s
  one_left i l h =
      omega (
        arith,
        sum_gap (N_of s) i 1 (steps_done s x) (λ j. 2) l (λ j k. steps_done_most s x j) (omega arith),
        sum_most (N_of s) 2 (λ j. 2) (λ j k. omega arith),
      )

  unpassed : (i : ℕ) → next_op s x (rank_of s i) ≤ i → steps_done s x i ≤ 1
  unfolding steps_done
  unpassed i l =
      subst (λ (b : Bool). cond b (steps_of (op s i)) (cond (ltb i (reach s x (rank_of s i))) 1 0) ≤ 1)
      (sym (le-ltb i (next_op s x (rank_of s i)) l)) (go (ltb i (reach s x (rank_of s i))))
    where
      go : (b : Bool) → cond b 1 0 ≤ 1
      go true = omega arith
      go false = omega arith

  -- a job with an able board has taken fewer than 2N steps
  pub able_room : Valid s → (r : ℕ) → able s x r ≡ true → x.steps < 2 * N_of s
  unfolding is_none
  able_room g r a =
      omega (
        arith,
        one_left (next_op s x r) n.inside (unpassed (next_op s x r)
            (omega (arith, ap (λ (q : ℕ). next_op s x q) n.ranked))),
        R.steps_sum ∙ ap (λ (o : Option Stop). sum_below (N_of s) (steps_done s x) + cond (is_none o) 0 1) n.going,
      )
    where
      n : Next s x r
      n = able_next s g x r a

  -- steps are at most 2N (the engine: they fit two bytes)
  pub steps_bound : x.steps ≤ 2 * N_of s
  unfolding is_none
  steps_bound = go x.stop refl
    where
      go : (o : Option Stop) → x.stop ≡ o → x.steps ≤ 2 * N_of s
      go none e =
          omega (
            arith,
            steps_most s x,
            R.steps_sum
                ∙ ap (λ (o : Option Stop). sum_below (N_of s) (steps_done s x) + cond (is_none o) 0 1) e,
          )
      go (some t) e =
          let h = R.stop_at t e in
          omega (
            arith,
            one_left t.at_op h.op_small (unpassed t.at_op (not_passed t.at_op h.op_small h.not_entered)),
            R.steps_sum ∙ ap (λ (o : Option Stop). sum_below (N_of s) (steps_done s x) + cond (is_none o) 0 1) e,
          )
        where
          not_passed : (i : ℕ) → i < N_of s → state_at x i ≡ 0 → next_op s x (rank_of s i) ≤ i
          not_passed i l e = fresh_unpassed s x R.placed i l e
