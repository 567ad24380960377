-- A job whose boards are all finished has no request left: every operation was entered, and what had a waiting half has had it;
-- in a sheet that passes each request is waited for, so that all that can still be pending is a buffered message.
--   finished_complete    a send or a receive is complete
--   none_left            the statement NoRequestLeft, of one job that keeps the invariant
-- Assumes nothing.
use Rattle.std.specs.Prelude.{◌≡◌, ◌⊎◌, Bool, ◌&&◌, cond, List, ℕ, zero, suc, ◌≤◌, ◌<◌}
use Rattle.std.proofs.Math.Path.{refl}
use Rattle.std.proofs.Common.{sym, ap, ◌∙◌, inl, inr}
use Rattle.std.proofs.Math.Bool.{true, false}
use Rattle.std.proofs.Math.Option.{Option}
use native.Mathlib.Omega.{arith}
use Rattle.std.proofs.Math.Decide.{ℕ_discrete}
use Rattle.std.proofs.Math.Dec.{eqb}
use borrow.Author.Tests.{leb-true, ne_eqb}
use Rattle.rules.specs.Sheet.{Sheet, op, board, P_of, N_of, rank_of, is_send, is_receive, no_half, takes_slot, frees_slot, tells}
use Rattle.rules.specs.Job.{Job, place_at}
use Rattle.rules.specs.Step.{next_op, is_finished, complete, complete_if, waited, half_complete}
use Rattle.rules.specs.Report.{count_from, is_pending_receive, pending_receives}
use Rattle.laws.specs.Tests.{cond_true, cond_false}
use Rattle.invariant.specs.sheet.Valid.{Valid}
use Rattle.invariant.specs.sheet.Kinds.{send_not_frees, send_not_tells, send_no_half_takes, receive_not_frees, receive_not_tells, receive_no_half_takes}
use Rattle.invariant.specs.sheet.Kinds.{frees_only_half, frees_not_no_half, frees_not_tells}
use Rattle.invariant.specs.sheet.Extents.{send_inside, receive_inside, takes_inside}
use Rattle.invariant.specs.sheet.Waits.{Waiter, request_waited}
use Rattle.invariant.specs.Invariant.{Entered, state_at, reach, Reached}
use Rattle.invariant.specs.matching.UnmatchedState.{unmatched_send, unmatched_receive, unmatched_only_half}
use Rattle.promises.specs.Statements.{told_by, KeptByMode, WaitedFor, SlotHeld, NoneLeft}
use Rattle.promises.proofs.claims.Figures.{kept_reached}

-- none of a range counts where the test fails at each
count_none : (k i : ℕ) (f : ℕ → Bool) → ((j : ℕ) → f j ≡ false) → count_from k i f ≡ 0
unfolding count_from
count_none zero i f h = refl
count_none (suc k) i f h = omega (arith, ap {B = ℕ} (λ (b : Bool). cond b 1 0) (h i), count_none k (suc i) f h)

module _ {s : Sheet} (g : Valid s) {lent : List ℕ} {x : Job} (R : Reached s lent x)
    (done : (r : ℕ) → r < P_of s → is_finished s x r ≡ true) where
  -- EVERY OPERATION is passed and entered
  passed : (j : ℕ) → j < N_of s → j < next_op s x (rank_of s j)
  unfolding next_op is_finished
  passed j l =
      omega (
        arith,
        leb-true (board s (rank_of s j)).count (place_at x (rank_of s j)).finished (done (rank_of s j) (g.rank_small j l)),
        g.rank_high j l,
      )

  entered : (j : ℕ) → j < N_of s → Entered x j
  unfolding reach
  entered j l = R.placed.entered_if j l (omega (arith, passed j l))

  half : (j : ℕ) → j < N_of s → no_half (op s j) ≡ false → tells (op s j) ≡ false → half_complete s x j ≡ true
  half j l h t = R.placed.passed_complete j l (passed j l) h t

  -- REQUESTS: one that takes a slot was waited for, and so it is complete
  waited_by : (i : ℕ) → takes_slot (op s i) ≡ true → Waiter s i
  waited_by i t = request_waited s g i (takes_inside s i t) t

  waiter_finished : (w : ℕ) → w < N_of s → frees_slot (op s w) ≡ true → state_at x w ≡ 5
  waiter_finished w l f =
      let only = frees_only_half (op s w) f in
      let U = R.shaped.unmatched w (entered w l) (R.shaped.only_half_unmatched w only) in
      U.is ∙ unmatched_only_half s w U.kept only

  request_complete : (i : ℕ) → takes_slot (op s i) ≡ true → 2 ≤ state_at x i
  unfolding half_complete complete_if complete
  request_complete i t =
      let w = waited_by i t in
      let ended = half w.by w.inside (frees_not_no_half s g w.by w.inside w.frees_it) (frees_not_tells (op s w.by) w.frees_it) in
      leb-true 2 (state_at x i)
      (sym (ap (λ (o : Option ℕ). complete_if x o) w.waits)
      ∙ (sym (cond_true (frees_slot (op s w.by)) (complete_if x (waited s w.by)) (complete x w.by) w.frees_it) ∙ ended))

  -- SENDS AND RECEIVES: complete by their own waiting half, or as requests
  finished_complete : (j : ℕ) → j < N_of s → frees_slot (op s j) ≡ false → tells (op s j) ≡ false →
      (no_half (op s j) ≡ true → takes_slot (op s j) ≡ true) → 2 ≤ state_at x j
  unfolding half_complete complete
  finished_complete j l f t takes = go (no_half (op s j)) refl
    where
      go : (b : Bool) → no_half (op s j) ≡ b → 2 ≤ state_at x j
      go true e = request_complete j (takes e)
      go false e =
          leb-true 2 (state_at x j)
          (sym (cond_false (frees_slot (op s j)) (complete_if x (waited s j)) (complete x j) f) ∙ half j l e t)

  receive_matched : (q : ℕ) → is_receive (op s q) ≡ true → state_at x q ≡ 3
  receive_matched q e = go (ℕ_discrete (state_at x q) 3)
    where
      go : Dec (state_at x q ≡ 3) → state_at x q ≡ 3
      go (yes m) = m
      go (no d) =
          let l = receive_inside s q e in
          absurd
          (omega (
            arith,
            finished_complete q l (receive_not_frees (op s q) e) (receive_not_tells (op s q) e) (receive_no_half_takes (op s q) e),
            unmatched_receive s q e (R.shaped.unmatched q (entered q l) d),
          ))

  send_matched : (m : ℕ) → is_send (op s m) ≡ true → (state_at x m ≡ 3) ⊎ ((state_at x m ≡ 2) × KeptByMode s m)
  send_matched m e = go (ℕ_discrete (state_at x m) 3)
    where
      l : m < N_of s
      l = send_inside s m e

      buffered : (k : Bool) → state_at x m ≡ cond k 2 1 → state_at x m ≡ 2
      buffered true v = v
      buffered false v =
          absurd (omega (arith, finished_complete m l (send_not_frees (op s m) e) (send_not_tells (op s m) e) (send_no_half_takes (op s m) e)))

      go : Dec (state_at x m ≡ 3) → (state_at x m ≡ 3) ⊎ ((state_at x m ≡ 2) × KeptByMode s m)
      go (yes q) = inl q
      go (no d) =
          let U = R.shaped.unmatched m (entered m l) d in
          let two = buffered U.kept (U.is ∙ unmatched_send s m U.kept e) in
          inr (two, kept_reached R m two)

  none_pending : pending_receives s x ≡ 0
  unfolding pending_receives is_pending_receive
  none_pending = count_none (N_of s) 0 (is_pending_receive s x) (λ j. go j (is_receive (op s j)) refl)
    where
      go : (j : ℕ) (b : Bool) → is_receive (op s j) ≡ b → (b && eqb (state_at x j) 1) ≡ false
      go j true e = ne_eqb (state_at x j) 1 (λ z. omega (arith, receive_matched j e))
      go j false e = refl

  pub none_left : NoneLeft s (told_by s x)
  unfolding told_by SlotHeld
  none_left =
      record {
        waited_for = waited_for;
        requests_complete = request_complete;
        slots_free = λ r k h. h.5 (waited_for h.0 h.2);
        receives_matched = receive_matched;
        none_pending = none_pending;
        sends_matched = send_matched;
      }
    where
      waited_for : (i : ℕ) → takes_slot (op s i) ≡ true → WaitedFor s (told_by s x) i
      waited_for i t =
          let w = waited_by i t in
          record {
            by = w.by;
            frees = w.frees_it;
            waits = w.waits;
            finished = waiter_finished w.by w.inside w.frees_it;
          }
