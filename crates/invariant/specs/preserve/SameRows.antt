-- Jobs with the same rows: what the rows alone decide holds of both. Used where a step ends a waiting half or stops the job.
--   SameRows, rows_same                                          the relation
--   stable_same, arrived_same, messages_same, receives_same       the parts of the invariant
-- Assumes nothing.
use Rattle.std.specs.Prelude.{◌≡◌, List, ℕ, ◌≤◌, get_or}
use Rattle.std.proofs.Common.{sym, ap, subst, ◌∙◌, arith}
use Rattle.rules.specs.Sheet.{Sheet}
use Rattle.rules.specs.Job.{Job, Entry, bare_entry, entry_at}
use Rattle.laws.specs.WaitingLists.{Holds, holds_same}
use Rattle.invariant.specs.Invariant.{Entered, PendingMessage, PendingReceive, MatchedPair, Stable, Arrived, PostedBefore, ArrivedBefore}
use Rattle.invariant.specs.matching.RowChanges.{state_same, partner_same, pair_same}
use Rattle.invariant.specs.preserve.WaitingLists.{pending_message_same, pending_receive_same}

-- no row of x changed in y
abbrev pub SameRows : (x y : Job) → Type 0
SameRows x y = (j : ℕ) → entry_at y j ≡ entry_at x j

pub rows_same : (x y : Job) → y.entries ≡ x.entries → SameRows x y
unfolding entry_at
rows_same x y e j = ap (λ (z : List Entry). get_or z j (bare_entry 0)) e

module _ {s : Sheet} {x y : Job} (e : SameRows x y) where
  met_on : {m r : ℕ} → MatchedPair s x m r → MatchedPair s y m r
  met_on {m} {r} h = pair_same (e m) (e r) h

  met_back : {m r : ℕ} → MatchedPair s y m r → MatchedPair s x m r
  met_back {m} {r} h = pair_same (sym (e m)) (sym (e r)) h

  pub stable_same : {arrival : ℕ → ℕ} → Stable s arrival x → Stable s arrival y
  stable_same X =
      record {
        message_pair =
            λ m p h. subst (λ (z : ℕ). MatchedPair s y m z) (sym (partner_same (e m)))
            (met_on (X.message_pair m p (sym (state_same (e m)) ∙ h)));
        receive_pair =
            λ r p h. subst (λ (z : ℕ). MatchedPair s y z r) (sym (partner_same (e r)))
            (met_on (X.receive_pair r p (sym (state_same (e r)) ∙ h)));
        none_fit =
            λ m r p q. X.none_fit m r (pending_message_same x (sym (state_same (e m))) p)
            (pending_receive_same x (sym (state_same (e r))) q);
        first_sent =
            λ m r k h p there l f.
            let old = X.first_sent m r k (met_back h) p (omega (arith, state_same (e k))) l f in
            (state_same (e k) ∙ old.0, omega (arith, old.1, partner_same (e k)));
        first_posted = λ m r q h p l f. state_same (e q) ∙ X.first_posted m r q (met_back h) p l f;
      }

  pub arrived_same : {arrival : ℕ → ℕ} → x.steps ≤ y.steps → Arrived s arrival x → Arrived s arrival y
  arrived_same l A =
      record {
        past = λ m h. omega (arith, A.past m (entered_back m h));
        apart = λ k m a b hk hm. A.apart k m a b (entered_back k hk) (entered_back m hm);
        in_script = λ k m a b hk hm. A.in_script k m a b (entered_back k hk) (entered_back m hm);
      }
    where
      entered_back : (j : ℕ) → Entered y j → Entered x j
      entered_back j h = omega (arith, state_same (e j))

  pub messages_same : {arrival : ℕ → ℕ} {l : List ℕ} → Holds (ArrivedBefore arrival) (PendingMessage s x) l →
      Holds (ArrivedBefore arrival) (PendingMessage s y) l
  messages_same h =
      holds_same h (λ v u p q c. c) (λ v p. pending_message_same y (state_same (e v)) p)
      (λ v p. pending_message_same x (sym (state_same (e v))) p)

  pub receives_same : {l : List ℕ} → Holds (PostedBefore s) (PendingReceive s x) l →
      Holds (PostedBefore s) (PendingReceive s y) l
  receives_same h =
      holds_same h (λ v u p q c. c) (λ v p. pending_receive_same y (state_same (e v)) p)
      (λ v p. pending_receive_same x (sym (state_same (e v))) p)
