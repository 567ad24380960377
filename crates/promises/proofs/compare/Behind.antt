-- A job that is behind another can only catch up. Let no board of x be further in its script than in y, and let messages
-- that one receive could take, or one probe tell, have come in the same order: then what is matched in x is matched alike in y,
-- what is complete in x is complete in y, and a board that stands where it stood and was able is able still.
--   Behind                                                           x is behind y
--   behind_entered, behind_pair, behind_matched, behind_complete     what then holds of y
--   still_pending                                                    a message that its probe fits
--   still_able                                                       a board that stands where it stood
-- Assumes nothing.
use Rattle.std.specs.Prelude.{◌≡◌, ◌≢◌, ◌&&◌, ◌||◌, not, List, ltb, leb}
use Rattle.std.proofs.Math.Path.{refl, sym}
use Rattle.std.proofs.Common.{ap, ◌∙◌, arith}
use Rattle.std.proofs.Math.Bool.{Bool, true, false, cond}
use Rattle.std.proofs.Math.Option.{Option, none, some}
use Prim.Native.Nat.{ℕ, ◌+◌, ◌*◌, ◌≤◌, ◌<◌}
use Rattle.std.proofs.Math.Decide.{ℕ_discrete}
use Rattle.rules.specs.Sheet.{Sheet, op, board, P_of, rank_of, is_receive, only_half, tells_message, tells_completion}
use Rattle.rules.specs.Job.{Job, place_at}
use Rattle.rules.specs.Step.{able, next_op, is_finished, in_waiting_half, half_complete, half_ends, is_none, first_by, first_message, fits_with}
use Rattle.laws.specs.Tests.{and_both, and_left, and_right, true_not_false}
use Rattle.laws.specs.WaitingLists.{first_by_none, first_by_some}
use Rattle.invariant.specs.sheet.Valid.{Valid}
use Rattle.invariant.specs.sheet.Kinds.{kind_send, fit_one_board}
use Rattle.invariant.specs.Invariant.{Entered, state_at, partner_at, reach, unmatched_state, PendingMessage, MatchedPair, Placed, Reached}
use Rattle.invariant.specs.matching.Monotone.{SameOrder, matched_stays}
use Rattle.invariant.specs.step.Places.{able_next}
use Rattle.invariant.specs.step.Position.{position, position_finished, position_waiting}
use Rattle.invariant.specs.preserve.Places.{prefix, half_complete_on}

position_reach : (s : Sheet) (x y : Job) (r : ℕ) → position x r ≤ position y r → reach s x r ≤ reach s y r
unfolding position reach next_op
position_reach s x y r = go (place_at x r).waiting (place_at y r).waiting
  where
    go : (a b : Bool) → 2 * (place_at x r).finished + cond a 1 0 ≤ 2 * (place_at y r).finished + cond b 1 0 →
        (board s r).first + (place_at x r).finished + cond a 1 0 ≤ (board s r).first + (place_at y r).finished + cond b 1 0
    go true true l = omega arith
    go true false l = omega arith
    go false true l = omega arith
    go false false l = omega arith

-- no board of x is further in its script than in y, messages that one receive could take, or one probe tell, came in the same
-- order, and what is buffered in x is buffered or matched in y
pub record Behind {s : Sheet} {i j : List ℕ} {x y : Job} (X : Reached s i x) (Y : Reached s j y) : Type 0 where
  pub places : (r : ℕ) → r < P_of s → position x r ≤ position y r
  pub order : SameOrder s X.arrival x Y.arrival y
  pub kept : (k : ℕ) → state_at x k ≡ 2 → 2 ≤ state_at y k

-- what is entered goes by the places
pub places_entered : {s : Sheet} → Valid s → {x y : Job} → Placed s x → Placed s y →
    ((r : ℕ) → r < P_of s → position x r ≤ position y r) →
    (k : ℕ) → Entered x k → Entered y k
places_entered {s} g {x} {y} p q l k h =
    let only = p.entered_only k h in
    q.entered_if k only.0 (omega (
      arith,
      only.1,
      position_reach s x y (rank_of s k)
          (l (rank_of s k) (g.rank_small k only.0)),
    ))

module _ {s : Sheet} (g : Valid s) {i j : List ℕ} {x y : Job} (X : Reached s i x) (Y : Reached s j y) (B : Behind X Y) where
  pub behind_entered : (k : ℕ) → Entered x k → Entered y k
  behind_entered = places_entered g X.placed Y.placed B.places

  pub behind_pair : (m r : ℕ) → MatchedPair s x m r → MatchedPair s y m r
  behind_pair =
      matched_stays s X.arrival x Y.arrival y X.stable Y.stable Y.arrived (prefix s x X.placed)
      (record {
        entered = behind_entered;
        order = B.order;
      })

  -- what is matched in x is matched alike in y
  pub behind_matched : (k : ℕ) → state_at x k ≡ 3 → (state_at y k ≡ 3) × (partner_at y k ≡ partner_at x k)
  behind_matched k e = go (only_half (op s k)) refl (is_receive (op s k)) refl
    where
      go : (a : Bool) → only_half (op s k) ≡ a → (b : Bool) → is_receive (op s k) ≡ b → (state_at y k ≡ 3)
          × (partner_at y k ≡ partner_at x k)
      go true w b r = absurd (X.shaped.only_half_unmatched k w e)
      go false w true r =
          let met = behind_pair (partner_at x k) k (X.stable.receive_pair k r e) in
          (met.receive_matched, met.to_message)
      go false w false r =
          let sends = kind_send s g k (X.placed.entered_only k (omega arith)).0 w r in
          let met = behind_pair k (partner_at x k) (X.stable.message_pair k sends e) in
          (met.message_matched, met.to_receive)

  -- what is complete in x is complete in y
  pub behind_complete : (k : ℕ) → 2 ≤ state_at x k → 2 ≤ state_at y k
  unfolding unmatched_state
  behind_complete k l = go (ℕ_discrete (state_at x k) 3) (ℕ_discrete (state_at x k) 2) (ℕ_discrete (state_at y k) 3)
    where
      -- one that is neither matched nor buffered is only a waiting half
      half : (a : Bool) (b c : Bool) → state_at x k ≢ 2 → state_at x k ≡ cond a 5 (cond b 2 1) → state_at y k ≡ cond a 5 (cond c 2 1) →
          2 ≤ state_at y k
      half true b c d e f = omega (arith, f)
      half false true c d e f = absurd (d e)
      half false false c d e f = absurd (omega (arith, e))

      go : Dec (state_at x k ≡ 3) → Dec (state_at x k ≡ 2) → Dec (state_at y k ≡ 3) → 2 ≤ state_at y k
      go (yes e) _ _ = omega (arith, (behind_matched k e).0)
      go (no d) (yes e) _ = B.kept k e
      go (no d) (no f) (yes e) = omega arith
      go (no d) (no f) (no c) =
          let U = X.shaped.unmatched k (omega arith) d in
          let W = Y.shaped.unmatched k (behind_entered k (omega arith)) c in
          half (only_half (op s k)) U.kept W.kept f U.is W.is

  -- a pending message that fits an operation of a board which stands where it stood is pending still: only that board takes it
  still_pending : (r p m : ℕ) → position x r ≡ position y r → rank_of s p ≡ r → PendingMessage s x m → fits_with s m p ≡ true →
      PendingMessage s y m
  still_pending r p m e ranked h f =
      record {
        sends = h.sends;
        entered = behind_entered m h.entered;
        unmatched = taken;
      }
    where
      taken : state_at y m ≡ 3 → ⊥
      taken c = go (ℕ_discrete (state_at x q) 3)
        where
          q : ℕ
          q = partner_at y m

          met : MatchedPair s y m q
          met = Y.stable.message_pair m h.sends c

          mine : rank_of s q ≡ r
          mine = fit_one_board s m q p met.fit f ∙ ranked

          there : Entered x q
          there =
              let only = Y.placed.entered_only q (omega (arith, met.receive_matched)) in
              X.placed.entered_if q only.0
              (omega (
                arith,
                only.1,
                ap (λ (z : ℕ). reach s y z) mine,
                ap (λ (z : ℕ). reach s x z) mine,
                position_reach s y x r (omega (arith, e)),
              ))

          go : Dec (state_at x q ≡ 3) → ⊥
          go (yes d) =
              let same : partner_at x q ≡ m = sym (behind_matched q d).1 ∙ met.to_message in
              h.unmatched (ap (λ (z : ℕ). state_at x z) (sym same) ∙ (X.stable.receive_pair q met.receives d).message_matched)
          go (no d) =
              X.stable.none_fit m q h
              (record {
                receives = met.receives;
                entered = there;
                unmatched = d;
              })
              met.fit

  -- so a probe that can be taken still can
  still_found : (r p : ℕ) → position x r ≡ position y r → rank_of s p ≡ r → not (is_none (first_message s p x.messages)) ≡ true →
      not (is_none (first_message s p y.messages)) ≡ true
  unfolding first_message is_none
  still_found r p e ranked = go (first_by f x.messages) refl (first_by f y.messages) refl
    where
      f : ℕ → Bool
      f = λ m. fits_with s m p

      go : (a : Option ℕ) → first_by f x.messages ≡ a → (b : Option ℕ) → first_by f y.messages ≡ b → not (is_none a) ≡ true →
          not (is_none b) ≡ true
      go none c b d h = true_not_false h refl
      go (some m) c (some v) d h = refl
      go (some m) c none d h =
          let F = first_by_some f x.messages X.messages_held.sorted m c in
          let P = still_pending r p m e ranked (X.messages_held.sound m F.member) F.passes in
          true_not_false F.passes (first_by_none f y.messages d m (Y.messages_held.whole m P))

  still_ends : (r p : ℕ) → position x r ≡ position y r → rank_of s p ≡ r → half_ends s x p ≡ true → half_ends s y p ≡ true
  unfolding half_ends
  still_ends r p e ranked = go (tells_message (op s p)) (tells_completion (op s p))
    where
      go : (a b : Bool) → cond a (not (is_none (first_message s p x.messages))) (b || half_complete s x p) ≡ true →
          cond a (not (is_none (first_message s p y.messages))) (b || half_complete s y p) ≡ true
      go true b h = still_found r p e ranked h
      go false true h = refl
      go false false h = half_complete_on s x y behind_complete p h

  -- a board that stands where it stood, and was able
  pub still_able : (r : ℕ) → position x r ≡ position y r → able s x r ≡ true → y.stop ≡ none → able s y r ≡ true
  unfolding able is_finished in_waiting_half next_op is_none
  still_able r e a going =
      and_both (and_both (ap is_none going) unfinished)
      (last_part ((place_at x r).waiting || only_half (op s k)) refl (and_right first_part second_part a))
    where
      same_finished : (place_at y r).finished ≡ (place_at x r).finished
      same_finished = sym (position_finished x y r e)

      same_waiting : (place_at y r).waiting ≡ (place_at x r).waiting
      same_waiting = sym (position_waiting x y r e)

      k : ℕ
      k = (board s r).first + (place_at x r).finished

      ranked : rank_of s k ≡ r
      ranked = (able_next s g x r a).ranked

      same_next : (board s r).first + (place_at y r).finished ≡ k
      same_next = ap (λ (n : ℕ). (board s r).first + n) same_finished

      first_part : Bool
      first_part = is_none x.stop && (ltb r (P_of s) && not (leb (board s r).count (place_at x r).finished))

      second_part : Bool
      second_part = not ((place_at x r).waiting || only_half (op s k)) || half_ends s x k

      unfinished : ltb r (P_of s) && not (leb (board s r).count (place_at y r).finished) ≡ true
      unfinished =
          ap (λ (n : ℕ). ltb r (P_of s) && not (leb (board s r).count n)) same_finished
          ∙ and_right (is_none x.stop) (ltb r (P_of s) && not (leb (board s r).count (place_at x r).finished))
          (and_left first_part second_part a)

      -- in its waiting half alike, and what it waits for complete
      last_part : (b : Bool) → (place_at x r).waiting || only_half (op s k) ≡ b → not b || half_ends s x k ≡ true →
          not ((place_at y r).waiting || only_half (op s ((board s r).first + (place_at y r).finished))) || half_ends s y
          ((board s r).first + (place_at y r).finished) ≡ true
      last_part b answers h =
          ap (λ (w : Bool). not (w || only_half (op s ((board s r).first + (place_at y r).finished))) || half_ends s y
          ((board s r).first + (place_at y r).finished)) same_waiting
          ∙ ap (λ (n : ℕ). not ((place_at x r).waiting || only_half (op s n)) || half_ends s y n) same_next
          ∙ ap (λ (w : Bool). not w || half_ends s y k) answers ∙ go b h
        where
          go : (b : Bool) → not b || half_ends s x k ≡ true → not b || half_ends s y k ≡ true
          go true h = still_ends r k e ranked h
          go false h = refl
