-- Calm sheets never stop, and messages that one receive could take, or one probe tell, come in script order. Where rooms are 0 or
-- cover all, an unmatched standard send is buffered or not by the sheet alone.
--   calm_not_any_source   no receive or probe from any source, also past the operations; calm_no_query: nor a query
--   calm_going            an able step goes on
--   calm_order            one order of arrival
--   covered_kept          what is kept in one job is complete in a job in which it is entered
--   covered_fits          whether the next standard send fits its board's room does not depend on the job
-- Assumes nothing.
use Rattle.std.specs.Prelude.{◌≡◌, ◌⊎◌, Bool, ◌&&◌, cond, List, ℕ, ◌≤◌, ◌<◌, ltb}
use Rattle.std.proofs.Math.Path.{refl, ap}
use Rattle.std.proofs.Common.{sym, subst, ◌∙◌, inl, inr, arith, le-ltb, eq-eqb}
use Rattle.std.proofs.Math.Bool.{true, false}
use Rattle.std.proofs.Math.Option.{none}
use Rattle.std.proofs.Math.Decide.{ℕ_discrete, dec_lt}
use Rattle.std.proofs.Math.ListN.{get_or-eq_default}
use Rattle.rules.specs.Limits.{any}
use Rattle.rules.specs.Sheet.{Sheet, op, board, no_op, N_of, rank_of, is_receive, is_probe, is_query, tells_message, tells_completion, selects, only_half, is_ready, is_standard, is_buffered}
use Rattle.rules.specs.Job.{Job, in_attached, in_room, place_at}
use Rattle.rules.specs.Step.{able, step, next_op, in_waiting_half, is_none, first_receive, fits_beside, fits_buffer, fits_room, kept_in, fits_with}
use Rattle.rules.specs.Claims.{calm, rooms_cover, is_any_source}
use Rattle.laws.specs.Calm.{Covered, RoomCovered, calm_op, calm_covered, rooms_each}
use Rattle.laws.specs.Tests.{and_both, or_false_left, true_not_false}
use Rattle.invariant.specs.sheet.Valid.{Valid}
use Rattle.invariant.specs.sheet.Kinds.{fit_source}
use Rattle.invariant.specs.Invariant.{Entered, state_at, unmatched_state, Keeps, Unmatched, Reached}
use Rattle.invariant.specs.matching.RowChanges.{state_name}
use Rattle.invariant.specs.matching.Monotone.{SameOrder}
use Rattle.invariant.specs.preserve.Places.{prefix}
use Rattle.invariant.specs.preserve.Covered.{fits_covered}
use Rattle.invariant.specs.step.Places.{Next, able_next, next_fresh}
use Rattle.promises.proofs.compare.AfterStep.{stop_after, step_stop}

-- TAME
module _ (s : Sheet) (c : calm s ≡ true) where
  -- past the operations there is neither receive, probe nor query
  pub calm_not_any_source : (k : ℕ) → is_any_source (op s k) ≡ false
  unfolding is_any_source selects is_receive tells_message is_probe op N_of no_op
  calm_not_any_source k = go (dec_lt k (N_of s))
    where
      go : Dec (k < N_of s) → is_any_source (op s k) ≡ false
      go (yes l) = (calm_op s c k l).0
      go (no d) = ap is_any_source (get_or-eq_default s.ops no_op {n = k} (omega arith))

  pub calm_no_query : (k : ℕ) → tells_completion (op s k) ≡ false
  unfolding tells_completion is_query op N_of no_op
  calm_no_query k = go (dec_lt k (N_of s))
    where
      go : Dec (k < N_of s) → tells_completion (op s k) ≡ false
      go (yes l) = (calm_op s c k l).2
      go (no d) = ap tells_completion (get_or-eq_default s.ops no_op {n = k} (omega arith))

-- NEVER STOPS
module _ {s : Sheet} (g : Valid s) (c : calm s ≡ true) {lent : List ℕ} {x : Job} (R : Reached s lent x) (r : ℕ)
    (a : able s x r ≡ true) where
  n : Next s x r
  n = able_next s g x r a

  abbrev i : ℕ
  i = next_op s x r

  -- the next buffered send has room
  room_left : in_waiting_half s x r ≡ false → is_buffered (op s i) ≡ true → fits_buffer s r i x ≡ true
  unfolding fits_buffer in_waiting_half kept_in
  room_left half b = fits_covered in_attached g R r n fresh b (calm_covered s c r n.rank_small)
    where
      fresh : state_at x i ≡ 0
      fresh = next_fresh s x r R.placed n (or_false_left (place_at x r).waiting (only_half (op s i)) half)

  -- an able step on a calm sheet does not stop the job
  pub calm_going : (step s r x).stop ≡ none
  unfolding stop_after
  calm_going =
      step_stop s r x ∙ go (in_waiting_half s x r) refl (is_receive (op s i)) (is_none (first_receive s i x.receives))
      (is_ready (op s i)) (calm_op s c i n.inside).1 (is_buffered (op s i)) refl ∙ n.going
    where
      go : (h : Bool) → in_waiting_half s x r ≡ h → (b d e : Bool) → e ≡ false → (k : Bool) → is_buffered (op s i) ≡ k →
          stop_after r i h b d e k (fits_buffer s r i x) x.stop ≡ x.stop
      go true p b d e q k o = refl
      go false p true d e q k o = refl
      go false p false false e q k o = refl
      go false p false true true q k o = true_not_false refl q
      go false p false true false q false o = refl
      go false p false true false q true o = fits (fits_buffer s r i x) (room_left p o)
        where
          fits : (z : Bool) → z ≡ true → stop_after r i false false true false true z x.stop ≡ x.stop
          fits true t = refl
          fits false t = true_not_false t refl

-- ONE ORDER OF ARRIVAL
pub calm_order : {s : Sheet} → calm s ≡ true → {i j : List ℕ} {x y : Job} (X : Reached s i x) (Y : Reached s j y) →
    SameOrder s X.arrival x Y.arrival y
unfolding is_any_source
calm_order {s} c {i} {j} {x} {y} X Y k m q sk sm rr fk fm hm hk l = go (dec_lt k m) (dec_lt m k)
  where
    source : (z : ℕ) → fits_with s z q ≡ true → (op s q).peer ≡ rank_of s z
    source z f = answers (fit_source s z q f)
      where
        answers : ((op s q).peer ≡ any) ⊎ ((op s q).peer ≡ rank_of s z) → (op s q).peer ≡ rank_of s z
        answers (inl e) = true_not_false (and_both rr (eq-eqb (op s q).peer any e)) (calm_not_any_source s c q)
        answers (inr e) = e

    same : rank_of s k ≡ rank_of s m
    same = sym (source k fk) ∙ source m fm

    go : Dec (k < m) → Dec (m < k) → Entered x k × (X.arrival k < X.arrival m)
    go (yes h) _ =
        let there = prefix s x X.placed k m hm h same in
        (there, X.arrived.in_script k m sk sm there hm same h)
    go (no h) (yes o) = absurd (omega (
      arith,
      l,
      Y.arrived.in_script m k sm sk (prefix s y Y.placed m k hk o (sym same)) hk
          (sym same) o,
    ))
    go (no h) (no o) = absurd (omega (arith, l, ap Y.arrival (let e : k ≡ m = omega arith in e)))

-- STANDARD SENDS where rooms are 0 or cover all
pub covered_kept : {s : Sheet} → rooms_cover s ≡ true → {i j : List ℕ} {x y : Job} → Reached s i x → Reached s j y →
    ((k : ℕ) → Entered x k → Entered y k) → (k : ℕ) → state_at x k ≡ 2 → 2 ≤ state_at y k
unfolding unmatched_state
covered_kept {s} c {i} {j} {x} {y} X Y on k two = go (ℕ_discrete (state_at y k) 3)
  where
    U : Unmatched s k (state_at x k)
    U = X.shaped.unmatched k (omega (arith, two)) (λ e. omega (arith, two))

    by : {kept : Bool} → Keeps s k kept → (is_buffered (op s k) ≡ true) ⊎ ((is_standard (op s k) ≡ true) × (0 < (board s (rank_of s k)).room)) →
        kept ≡ true
    by K (inl e) = K.buffered e
    by K (inr e) = K.covered c e.0 e.1

    half_or_kept : (a b : Bool) → U.kept ≡ b → ◌≡◌ {A = ℕ} (cond a 5 (cond b 2 1)) 2 → U.kept ≡ true
    half_or_kept true b e h = absurd (omega arith)
    half_or_kept false true e h = e
    half_or_kept false false e h = absurd (omega arith)

    go : Dec (state_at y k ≡ 3) → 2 ≤ state_at y k
    go (yes e) = omega (arith, e)
    go (no d) =
        let W = Y.shaped.unmatched k (on k (omega (arith, two))) d in
        let kept = half_or_kept (only_half (op s k)) U.kept refl (sym U.is ∙ two) in
        complete (only_half (op s k)) (W.is ∙ ap (λ (b : Bool). cond (only_half (op s k)) 5 (cond b 2 1)) (by W.keeps (U.keeps.only kept)))
      where
        complete : (a : Bool) → state_at y k ≡ cond a 5 2 → 2 ≤ state_at y k
        complete true e = omega (arith, e)
        complete false e = omega (arith, e)

pub covered_fits : {s : Sheet} (g : Valid s) → rooms_cover s ≡ true → {i j : List ℕ} {x y : Job} (X : Reached s i x) (Y : Reached s j y) (r k : ℕ) →
    Next s x r → Next s y r → k ≡ next_op s x r → k ≡ next_op s y r → state_at x k ≡ 0 → state_at y k ≡ 0 → is_standard (op s k) ≡ true →
    fits_room s r k x ≡ fits_room s r k y
unfolding fits_room kept_in
covered_fits {s} g c {i} {j} {x} {y} X Y r k n m e f fx fy d = go (rooms_each s c r n.rank_small)
  where
    fits : {l : List ℕ} {z : Job} → Reached s l z → Next s z r → k ≡ next_op s z r → state_at z k ≡ 0 → Covered in_room (board s r) s.ops →
        fits_beside in_room s r k z ≡ true
    fits {l} {z} Z o h fresh covers =
        subst (λ (q : ℕ). fits_beside in_room s r q z ≡ true) (sym h)
        (fits_covered in_room g Z r o (state_name z (sym h) ∙ fresh) (ap (λ (q : ℕ). is_standard (op s q)) (sym h) ∙ d) covers)

    go : RoomCovered (board s r) s.ops →
        is_standard (op s k) && (ltb 0 (board s r).room && fits_beside in_room s r k x)
        ≡ is_standard (op s k) && (ltb 0 (board s r).room && fits_beside in_room s r k y)
    go (inl none_there) =
        ap (λ (b : Bool). is_standard (op s k) && (b && fits_beside in_room s r k x)) (le-ltb 0 (board s r).room (omega arith))
        ∙ ap (λ (b : Bool). is_standard (op s k) && (b && fits_beside in_room s r k y)) (sym (le-ltb 0 (board s r).room (omega arith)))
    go (inr covers) =
        ap (λ (b : Bool). is_standard (op s k) && (ltb 0 (board s r).room && b)) (fits X n e fx covers ∙ sym (fits Y m f fy covers))
