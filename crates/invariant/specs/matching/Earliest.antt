-- A new match took the earliest on both sides: the search found the earliest on one side, and stability of what was before
-- gives the other.
--   found_first          where the search of an operation found a message: those before it that fit had been taken
--   first_for_receive    where a receive enters
--   first_for_message    where a message enters
-- Assumes nothing.
use Rattle.std.specs.Prelude.{◌≡◌, ◌≢◌, true, ℕ, ◌≤◌, ◌<◌}
use Rattle.std.proofs.Common.{sym, ap, ◌∙◌, arith}
use Rattle.std.proofs.Math.Decide.{ℕ_discrete, dec_lt}
use Rattle.rules.specs.Sheet.{Sheet, op, rank_of, is_send, is_receive}
use Rattle.rules.specs.Job.{Job}
use Rattle.rules.specs.Step.{next_op, fits_with}
use Rattle.invariant.specs.sheet.Kinds.{fit_one_board, send_receive_differ}
use Rattle.laws.specs.WaitingLists.{Holds, Found}
use Rattle.invariant.specs.Invariant.{Entered, state_at, partner_at, reach, PendingMessage, PendingReceive, MatchedPair, FirstSent, Stable, Placed}
use Rattle.invariant.specs.Invariant.{PostedBefore, ArrivedBefore}
use Rattle.invariant.specs.matching.RowChanges.{Grows, Matches, state_same, partner_same, state_name, matches_grows}
use Rattle.invariant.specs.matching.Stable.{Later, First}
use Rattle.invariant.specs.preserve.Places.{prefix}
use Rattle.invariant.specs.step.Places.{Next}

reach_least : (s : Sheet) (x : Job) (r : ℕ) → next_op s x r ≤ reach s x r
unfolding reach
reach_least s x r = omega arith

-- what is not matched is pending
pending_message : (s : Sheet) (x : Job) (k : ℕ) → is_send (op s k) ≡ true → Entered x k → state_at x k ≢ 3 → PendingMessage s x k
pending_message s x k a b c =
    record {
      sends = a;
      entered = b;
      unmatched = c;
    }

-- OPERATION i IS NOT ENTERED, and m is the earliest message that fits it
module _ {s : Sheet} {x : Job} {arrival : ℕ → ℕ} (X : Stable s arrival x) (p : Placed s x) (i : ℕ) (fresh : state_at x i ≡ 0) where
  -- an operation of i's board that is entered comes before i
  pub entered_earlier : (o : ℕ) → Entered x o → rank_of s o ≡ rank_of s i → o < i
  entered_earlier o a e = go (dec_lt o i) (dec_lt i o)
    where
      go : Dec (o < i) → Dec (i < o) → o < i
      go (yes l) _ = l
      go (no l) (yes k) = absurd (omega (arith, fresh, prefix s x p i o a k (sym e)))
      go (no l) (no k) = absurd (let c : o ≡ i = omega arith in omega (arith, fresh, state_name x c))

  -- messages that came before m and fit i had been taken, by receives before i
  pub found_first : (m : ℕ) → Holds (ArrivedBefore arrival) (PendingMessage s x) x.messages →
      Found (ArrivedBefore arrival) (λ k. fits_with s k i) x.messages m → FirstSent s arrival x m i
  found_first m H F k a there l f = go (ℕ_discrete (state_at x k) 3)
    where
      go : Dec (state_at x k ≡ 3) → (state_at x k ≡ 3) × (partner_at x k < i)
      go (yes e) =
          let met = X.message_pair k a e in
          (e, entered_earlier (partner_at x k) (omega (arith, met.receive_matched)) (fit_one_board s k (partner_at x k) i met.fit f))
      go (no d) =
          absurd
          (let late = F.earliest k (H.whole k (pending_message s x k a there d)) f (λ e. omega (arith, l, ap arrival e)) in
          omega (arith, late, l))

module _ {s : Sheet} {x y : Job} {m q i : ℕ} {arrival now : ℕ → ℕ} (X : Stable s arrival x) (p : Placed s x) (L : Later arrival now x i)
    (M : Matches s x y m q i) where
  abbrev G : Grows x y i
  G = matches_grows M

  pending_receive : (k : ℕ) → is_receive (op s k) ≡ true → Entered x k → state_at x k ≢ 3 → PendingReceive s x k
  pending_receive k a b c =
      record {
        receives = a;
        entered = b;
        unmatched = c;
      }

  -- a message that was matched in x with an earlier receive still is
  matched_on : (k : ℕ) → (state_at x k ≡ 3) × (partner_at x k < q) → (state_at y k ≡ 3) × (partner_at y k < q)
  matched_on k h = let same = G.kept k h.0 in (state_same same ∙ h.0, omega (arith, h.1, partner_same same))

  -- messages that came before m are entered in x
  before : (k : ℕ) → Entered y k → now k < now m → m ≢ i → (k ≢ i) × (arrival k < arrival m)
  before k there l d =
      let k_old : k ≢ i = λ e. omega (arith, L.new m (M.message_there d), ap now e) in
      (k_old, omega (arith, L.old k k_old, L.old m d))

  -- THE RECEIVE ENTERS, and m is the earliest message that fits it
  pub first_for_receive : q ≡ i → (r : ℕ) → Next s x r → i ≡ next_op s x r →
      Holds (ArrivedBefore arrival) (PendingMessage s x) x.messages →
      Found (ArrivedBefore arrival) (λ k. fits_with s k i) x.messages m → First s now y m q
  first_for_receive new r n mine H F =
      record {
        sent = λ k a there l f. matched_on k (sent k a there l f);
        posted = λ o a l f. posted o a l f (ℕ_discrete (state_at x o) 3);
      }
    where
      m_old : m ≢ i
      m_old e = send_receive_differ s m q M.sends M.receives (e ∙ sym new)

      -- what came before m in y came before it in x
      sent : (k : ℕ) → is_send (op s k) ≡ true → Entered y k → now k < now m → fits_with s k q ≡ true →
          (state_at x k ≡ 3) × (partner_at x k < q)
      sent k a there l f =
          let b = before k there l m_old in
          let taken = found_first X p i M.fresh m H F k a (G.back k b.0 there) b.1
          (ap (λ (z : ℕ). fits_with s k z) (sym new) ∙ f) in
          (taken.0, omega (arith, taken.1))

      posted : (o : ℕ) → is_receive (op s o) ≡ true → o < q → fits_with s m o ≡ true → Dec (state_at x o ≡ 3) → state_at y o ≡ 3
      posted o a l f (yes e) = state_same (G.kept o e) ∙ e
      posted o a l f (no d) =
          let mine_too : rank_of s o ≡ r = fit_one_board s m o q f M.fit ∙ ap (λ (z : ℕ). rank_of s z) (new ∙ mine)
          ∙ n.ranked in
          let there : Entered x o = p.entered_if o (omega (arith, n.inside))
          (omega (arith, ap (λ (z : ℕ). reach s x z) mine_too, reached)) in
          absurd (X.none_fit m o (pending_message s x m M.sends (M.message_there m_old) M.message_free)
          (pending_receive o a there d) f)
        where
          reached : next_op s x r ≤ reach s x r
          reached = reach_least s x r

  -- THE MESSAGE ENTERS, and q is the earliest posted receive that fits it
  pub first_for_message : m ≡ i → Holds (PostedBefore s) (PendingReceive s x) x.receives →
      Found (PostedBefore s) (λ k. fits_with s i k) x.receives q → First s now y m q
  first_for_message new H F =
      record {
        sent = λ k a there l f. matched_on k (sent k a there l f (ℕ_discrete (state_at x k) 3));
        posted = λ o a l f. posted o a l f (ℕ_discrete (state_at x o) 3);
      }
    where
      q_old : q ≢ i
      q_old e = send_receive_differ s m q M.sends M.receives (new ∙ sym e)

      q_pending : PendingReceive s x q
      q_pending = pending_receive q M.receives (M.receive_there q_old) M.receive_free

      sent : (k : ℕ) → is_send (op s k) ≡ true → Entered y k → now k < now m → fits_with s k q ≡ true → Dec (state_at x k ≡ 3) →
          (state_at x k ≡ 3) × (partner_at x k < q)
      sent k a there l f (no d) =
          let k_old : k ≢ i = λ e. omega (arith, ap now (e ∙ sym new)) in
          absurd (X.none_fit k q (pending_message s x k a (G.back k k_old there) d) q_pending f)
      sent k a there l f (yes e) = (e, least (dec_lt (partner_at x k) q) (dec_lt q (partner_at x k)))
        where
          met : MatchedPair s x k (partner_at x k)
          met = X.message_pair k a e

          least : Dec (partner_at x k < q) → Dec (q < partner_at x k) → partner_at x k < q
          least (yes c) _ = c
          least (no c) (yes h) = absurd (M.receive_free (X.first_posted k (partner_at x k) q met M.receives h f))
          least (no c) (no h) = absurd (let w : partner_at x k ≡ q =
              omega arith in M.receive_free (state_name x (sym w) ∙ met.receive_matched))

      posted : (o : ℕ) → is_receive (op s o) ≡ true → o < q → fits_with s m o ≡ true → Dec (state_at x o ≡ 3) → state_at y o ≡ 3
      posted o a l f (yes e) = state_same (G.kept o e) ∙ e
      posted o a l f (no d) =
          let same : rank_of s o ≡ rank_of s q = fit_one_board s m o q f M.fit in
          let there : Entered x o = prefix s x p o q (M.receive_there q_old) l same in
          absurd
          (let late = F.earliest o (H.whole o (pending_receive o a there d)) (ap (λ (z : ℕ). fits_with s z o) (sym new) ∙ f)
          (λ e. omega arith) (sym same) in
          omega arith)
