-- The waiting lists hold exactly what is pending, after a step as before.
--   queue_message, queue_receive    the list after its operation entered unmatched
--   queue-..-other                  a list that the operation is not for
--   queue-..-match                  the lists after a match
-- Assumes nothing.
use Rattle.std.specs.Prelude.{◌≡◌, refl, ◌⊎◌, ◌≢◌, true, false, List, [], ◌∷◌, ◌++◌, ℕ, ◌<◌}
use Rattle.std.proofs.Common.{sym, ap, ◌∙◌, inl, inr, arith}
use Rattle.std.proofs.Math.Decide.{ℕ_discrete, dec_lt}
use Rattle.rules.specs.Sheet.{Sheet, op, rank_of, is_send, is_receive}
use Rattle.rules.specs.Job.{Job}
use Rattle.rules.specs.Step.{without}
use Rattle.laws.specs.Tests.{true_not_false}
use Rattle.invariant.specs.sheet.Kinds.{send_receive_differ}
use Rattle.laws.specs.WaitingLists.{Holds, holds_more, holds_less, holds_same}
use Rattle.invariant.specs.Invariant.{Entered, state_at, PendingMessage, PendingReceive, Placed, PostedBefore, ArrivedBefore}
use Rattle.invariant.specs.matching.RowChanges.{Grows, Enters, Matches, state_same, state_name, enters_grows, enters_differ}
use Rattle.invariant.specs.matching.RowChanges.{matches_grows, matches_message_state, matches_receive_state, grows_message, grows_receive}
use Rattle.invariant.specs.matching.Stable.{Later}
use Rattle.invariant.specs.preserve.Places.{prefix}

-- a pending operation whose row did not change
pub pending_message_same : {s : Sheet} {x : Job} (y : Job) {m : ℕ} → state_at y m ≡ state_at x m → PendingMessage s x m →
    PendingMessage s y m
pending_message_same y e h =
    record {
      sends = h.sends;
      entered = omega (arith, e, h.entered);
      unmatched = λ c. h.unmatched (sym e ∙ c);
    }

pub pending_receive_same : {s : Sheet} {x : Job} (y : Job) {r : ℕ} → state_at y r ≡ state_at x r → PendingReceive s x r →
    PendingReceive s y r
pending_receive_same y e h =
    record {
      receives = h.receives;
      entered = omega (arith, e, h.entered);
      unmatched = λ c. h.unmatched (sym e ∙ c);
    }

-- the order of arrival among what was pending is the order that it was
later_order : {s : Sheet} {x y : Job} {i : ℕ} {arrival now : ℕ → ℕ} {l : List ℕ} → Later arrival now x i → Grows x y i →
    Holds (ArrivedBefore arrival) (PendingMessage s x) l → Holds (ArrivedBefore now) (PendingMessage s x) l
later_order {s} {x} {y} {i} {arrival} {now} L G h =
    holds_same h (λ v u p q c. omega (arith, c, L.old v (differ v p.entered), L.old u (differ u q.entered))) (λ v p. p)
    (λ v p. p)
  where
    differ : (j : ℕ) → Entered x j → j ≢ i
    differ j a e = omega (arith, G.fresh, state_name x e)

-- ENTERED UNMATCHED
module _ {s : Sheet} {x y : Job} {i v : ℕ} (E : Enters x y i v) where
  message_on : (k : ℕ) → PendingMessage s x k → PendingMessage s y k
  message_on k p = pending_message_same y (state_same (E.other k (enters_differ E k p.entered))) p

  receive_on : (q : ℕ) → PendingReceive s x q → PendingReceive s y q
  receive_on q p = pending_receive_same y (state_same (E.other q (enters_differ E q p.entered))) p

  message_back : (k : ℕ) → PendingMessage s y k → Dec (k ≡ i) → PendingMessage s x k ⊎ (k ≡ i)
  message_back k p (yes e) = inr e
  message_back k p (no d) = inl (grows_message (enters_grows E) k d p)

  receive_back : (q : ℕ) → PendingReceive s y q → Dec (q ≡ i) → PendingReceive s x q ⊎ (q ≡ i)
  receive_back q p (yes e) = inr e
  receive_back q p (no d) = inl (grows_receive (enters_grows E) q d p)

  pub queue_message : {arrival now : ℕ → ℕ} {l : List ℕ} → Later arrival now x i → is_send (op s i) ≡ true →
      Holds (ArrivedBefore arrival) (PendingMessage s x) l → Holds (ArrivedBefore now) (PendingMessage s y) (l ++ (i ∷ []))
  queue_message {arrival} {now} {l} L e h =
      holds_more i (later_order L (enters_grows E) h) (λ k p. L.new k p.entered) message_on
      (record {
        sends = e;
        entered = (enters_grows E).enters;
        unmatched = λ c. E.no_match (sym E.state ∙ c);
      })
      (λ k p. message_back k p (ℕ_discrete k i))

  pub queue_message_other : {arrival now : ℕ → ℕ} {l : List ℕ} → Later arrival now x i → is_send (op s i) ≡ false →
      Holds (ArrivedBefore arrival) (PendingMessage s x) l → Holds (ArrivedBefore now) (PendingMessage s y) l
  queue_message_other {arrival} {now} {l} L e h =
      holds_same (later_order L (enters_grows E) h) (λ a b p q c. c) message_on
      (λ k p. only k p (message_back k p (ℕ_discrete k i)))
    where
      only : (k : ℕ) → PendingMessage s y k → PendingMessage s x k ⊎ (k ≡ i) → PendingMessage s x k
      only k p (inl h) = h
      only k p (inr c) = true_not_false (ap (λ (z : ℕ). is_send (op s z)) (sym c) ∙ p.sends) e

  pub queue_receive : {l : List ℕ} → Placed s x → is_receive (op s i) ≡ true →
      Holds (PostedBefore s) (PendingReceive s x) l → Holds (PostedBefore s) (PendingReceive s y) (l ++ (i ∷ []))
  queue_receive {l} p e h =
      holds_more i h (λ q o c. late q o.entered c (dec_lt q i) (dec_lt i q)) receive_on
      (record {
        receives = e;
        entered = (enters_grows E).enters;
        unmatched = λ c. E.no_match (sym E.state ∙ c);
      })
      (λ q o. receive_back q o (ℕ_discrete q i))
    where
      -- what is entered of i's board comes before i
      late : (q : ℕ) → Entered x q → rank_of s q ≡ rank_of s i → Dec (q < i) → Dec (i < q) → q < i
      late q a c (yes b) _ = b
      late q a c (no b) (yes d) = absurd (omega (arith, E.fresh, prefix s x p i q a d (sym c)))
      late q a c (no b) (no d) = absurd (enters_differ E q a (omega arith))

  pub queue_receive_other : {l : List ℕ} → is_receive (op s i) ≡ false →
      Holds (PostedBefore s) (PendingReceive s x) l → Holds (PostedBefore s) (PendingReceive s y) l
  queue_receive_other {l} e h = holds_same h (λ a b p q c. c) receive_on (λ q o. only q o (receive_back q o (ℕ_discrete q i)))
    where
      only : (q : ℕ) → PendingReceive s y q → PendingReceive s x q ⊎ (q ≡ i) → PendingReceive s x q
      only q o (inl h) = h
      only q o (inr c) = true_not_false (ap (λ (z : ℕ). is_receive (op s z)) (sym c) ∙ o.receives) e

-- MATCHED
module _ {s : Sheet} {x y : Job} {m r i : ℕ} (M : Matches s x y m r i) where
  -- i is matched in y
  not_new : (j : ℕ) → state_at y j ≢ 3 → (i ≡ m) ⊎ (i ≡ r) → j ≢ i
  not_new j d (inl e) c = d (state_name y (c ∙ e) ∙ matches_message_state M)
  not_new j d (inr e) c = d (state_name y (c ∙ e) ∙ matches_receive_state M)

  pub queue_message_match : {arrival now : ℕ → ℕ} {l : List ℕ} → Later arrival now x i →
      Holds (ArrivedBefore arrival) (PendingMessage s x) l → Holds (ArrivedBefore now) (PendingMessage s y) (without m l)
  queue_message_match {arrival} {now} {l} L h =
      holds_less m (later_order L (matches_grows M) h) (λ k c. omega arith)
      (λ k p d. pending_message_same y (state_same (M.other k d (send_receive_differ s k r p.sends M.receives))) p)
      (λ k p. grows_message (matches_grows M) k (not_new k p.unmatched M.one) p)
      (λ p. p.unmatched (matches_message_state M))

  pub queue_receive_match : {l : List ℕ} →
      Holds (PostedBefore s) (PendingReceive s x) l → Holds (PostedBefore s) (PendingReceive s y) (without r l)
  queue_receive_match {l} h =
      holds_less r h (λ q c. let l = c refl in omega arith)
      (λ q p d. pending_receive_same y (state_same
      (M.other q (λ e. send_receive_differ s m q M.sends p.receives (sym e)) d)) p)
      (λ q p. grows_receive (matches_grows M) q (not_new q p.unmatched M.one) p)
      (λ p. p.unmatched (matches_receive_state M))
