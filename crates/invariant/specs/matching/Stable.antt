-- A step keeps the matching stable. What was first stays first, since the operation that enters came last; so all there is
-- to show is that no fitting pair is left pending, and that a new pair took the earliest on both sides (`First`).
--   Later           the new operation came after all that were entered
--   First           a pair took the earliest on both sides; grow_sent: the half of it that speaks of messages, after a step
--   grow_stable     the law; enter_stable and match_stable are its two cases
-- Assumes nothing.
use Rattle.std.specs.Prelude.{◌≡◌, ◌⊎◌, ◌≢◌, true, ℕ, ◌<◌}
use Rattle.std.proofs.Common.{sym, ap, subst, ◌∙◌, inl, inr, arith}
use Rattle.std.proofs.Math.Decide.{ℕ_discrete}
use Rattle.rules.specs.Sheet.{Sheet, op, is_send, is_receive}
use Rattle.rules.specs.Job.{Job}
use Rattle.rules.specs.Step.{fits_with}
use Rattle.invariant.specs.sheet.Kinds.{send_receive_differ}
use Rattle.invariant.specs.Invariant.{Entered, state_at, partner_at, PendingMessage, PendingReceive, MatchedPair, FirstSent, Stable}
use Rattle.invariant.specs.matching.RowChanges.{Grows, Enters, Matches, state_same, partner_same, state_name, grows_pair, grows_message}
use Rattle.invariant.specs.matching.RowChanges.{grows_receive, enters_grows, enters_differ_now, matches_grows, matches_split}
use Rattle.invariant.specs.matching.RowChanges.{matches_message_state, matches_receive_state, matches_pair, pair_same}

-- `now` is `arrival` with i after everything entered in x
pub record Later (arrival now : ℕ → ℕ) (x : Job) (i : ℕ) : Type 0 where
  pub old : (j : ℕ) → j ≢ i → now j ≡ arrival j
  pub new : (j : ℕ) → Entered x j → now j < now i

-- the pair of message and receive took the earliest on both sides
pub record First (s : Sheet) (arrival : ℕ → ℕ) (y : Job) (m r : ℕ) : Type 0 where
  pub sent : FirstSent s arrival y m r
  pub posted : (q : ℕ) → is_receive (op s q) ≡ true → q < r → fits_with s m q ≡ true → state_at y q ≡ 3

-- what came before an entered message and fits was taken, in y as in x
pub grow_sent : (s : Sheet) {x y : Job} {i : ℕ} {arrival now : ℕ → ℕ} → Later arrival now x i → Grows x y i → (m r : ℕ) → Entered x m →
    FirstSent s arrival x m r → FirstSent s now y m r
grow_sent s {x} {y} {i} {arrival} {now} L G m r m_there was k p there l f =
    let k_old : k ≢ i = λ e. omega (arith, L.new m m_there, ap now e) in
    let m_old : m ≢ i = λ e. omega (arith, G.fresh, state_name x e) in
    let old = was k p (G.back k k_old there) (omega (arith, L.old k k_old, L.old m m_old)) f in
    let same = G.kept k old.0 in
    (state_same same ∙ old.0, omega (arith, old.1, partner_same same))

module _ {s : Sheet} {x y : Job} {i : ℕ} {arrival now : ℕ → ℕ} (X : Stable s arrival x) (L : Later arrival now x i) (G : Grows x y i) where
  -- a pair of x is first in y as it was in x
  grow_first : (m r : ℕ) → MatchedPair s x m r → First s now y m r
  grow_first m r h =
      record {
        sent = grow_sent s L G m r (omega (arith, h.message_matched)) (λ k. X.first_sent m r k h);
        posted =
            λ q p l f.
            let old = X.first_posted m r q h p l f in
            state_same (G.kept q old) ∙ old;
      }

  grow_stable : ((m : ℕ) → is_send (op s m) ≡ true → state_at y m ≡ 3 → MatchedPair s y m (partner_at y m)) →
      ((r : ℕ) → is_receive (op s r) ≡ true → state_at y r ≡ 3 → MatchedPair s y (partner_at y r) r) →
      ((m r : ℕ) → PendingMessage s y m → PendingReceive s y r → fits_with s m r ≡ true → ⊥) →
      ((m r : ℕ) → MatchedPair s y m r → First s now y m r ⊎ MatchedPair s x m r) → Stable s now y
  grow_stable message_pair receive_pair none split =
      record {
        message_pair = message_pair;
        receive_pair = receive_pair;
        none_fit = none;
        first_sent = λ m r k h. (first m r (split m r h)).sent k;
        first_posted = λ m r q h. (first m r (split m r h)).posted q;
      }
    where
      first : (m r : ℕ) → First s now y m r ⊎ MatchedPair s x m r → First s now y m r
      first m r (inl f) = f
      first m r (inr h) = grow_first m r h

-- the operation that enters fits nothing that is pending
pub enter_stable : {s : Sheet} {x y : Job} {i v : ℕ} {arrival now : ℕ → ℕ} → Stable s arrival x → Later arrival now x i → Enters x y i v →
    (is_send (op s i) ≡ true → (r : ℕ) → PendingReceive s x r → fits_with s i r ≡ true → ⊥) →
    (is_receive (op s i) ≡ true → (m : ℕ) → PendingMessage s x m → fits_with s m i ≡ true → ⊥) → Stable s now y
enter_stable {s} {x} {y} {i} {v} {arrival} {now} X L E no_receive no_message =
    grow_stable X L G
    (λ m p h.
    let same = E.other m (enters_differ_now E m h) in
    subst (λ (z : ℕ). MatchedPair s y m z) (sym (partner_same same)) (grows_pair G (X.message_pair m p (sym (state_same same) ∙ h))))
    (λ r p h.
    let same = E.other r (enters_differ_now E r h) in
    subst (λ (z : ℕ). MatchedPair s y z r) (sym (partner_same same)) (grows_pair G (X.receive_pair r p (sym (state_same same) ∙ h))))
    (λ m r p q f. none m r p q f (ℕ_discrete m i) (ℕ_discrete r i))
    (λ m r h.
    inr (pair_same (sym (E.other m (enters_differ_now E m h.message_matched)))
    (sym (E.other r (enters_differ_now E r h.receive_matched))) h))
  where
    G : Grows x y i
    G = enters_grows E

    none : (m r : ℕ) → PendingMessage s y m → PendingReceive s y r → fits_with s m r ≡ true → Dec (m ≡ i) → Dec (r ≡ i) → ⊥
    none m r p q f (yes e) _ =
        let d : r ≢ i = λ c. send_receive_differ s m r p.sends q.receives (e ∙ sym c) in
        no_receive (subst (λ (z : ℕ). is_send (op s z) ≡ true) e p.sends) r (grows_receive G r d q)
        (subst (λ (z : ℕ). fits_with s z r ≡ true) e f)
    none m r p q f (no d) (yes e) =
        no_message (subst (λ (z : ℕ). is_receive (op s z) ≡ true) e q.receives) m (grows_message G m d p)
        (subst (λ (z : ℕ). fits_with s m z ≡ true) e f)
    none m r p q f (no d) (no c) = X.none_fit m r (grows_message G m d p) (grows_receive G r c q) f

-- the new pair took the earliest on both sides
pub match_stable : {s : Sheet} {x y : Job} {m r i : ℕ} {arrival now : ℕ → ℕ} → Stable s arrival x → Later arrival now x i →
    Matches s x y m r i →
    First s now y m r → Stable s now y
match_stable {s} {x} {y} {m} {r} {i} {arrival} {now} X L M F =
    grow_stable X L G
    (λ k p h. message_pair k p h (ℕ_discrete k m))
    (λ q p h. receive_pair q p h (ℕ_discrete q r))
    (λ k q p o f. X.none_fit k q (grows_message G k (message_old M.one k p) p)
    (grows_receive G q (receive_old M.one q o) o) f)
    (λ k q h. split k q (matches_split M k q h))
  where
    G : Grows x y i
    G = matches_grows M

    message_pair : (k : ℕ) → is_send (op s k) ≡ true → state_at y k ≡ 3 → Dec (k ≡ m) → MatchedPair s y k (partner_at y k)
    message_pair k p h (yes e) =
        subst (λ (z : ℕ). MatchedPair s y z (partner_at y z)) (sym e)
        (subst (λ (z : ℕ). MatchedPair s y m z) (sym (matches_pair M).to_receive) (matches_pair M))
    message_pair k p h (no d) =
        let same = M.other k d (send_receive_differ s k r p M.receives) in
        subst (λ (z : ℕ). MatchedPair s y k z) (sym (partner_same same)) (grows_pair G (X.message_pair k p (sym (state_same same) ∙ h)))

    receive_pair : (q : ℕ) → is_receive (op s q) ≡ true → state_at y q ≡ 3 → Dec (q ≡ r) → MatchedPair s y (partner_at y q) q
    receive_pair q p h (yes e) =
        subst (λ (z : ℕ). MatchedPair s y (partner_at y z) z) (sym e)
        (subst (λ (z : ℕ). MatchedPair s y z r) (sym (matches_pair M).to_message) (matches_pair M))
    receive_pair q p h (no d) =
        let same = M.other q (λ e. send_receive_differ s m q M.sends p (sym e)) d in
        subst (λ (z : ℕ). MatchedPair s y z q) (sym (partner_same same)) (grows_pair G (X.receive_pair q p (sym (state_same same) ∙ h)))

    -- what is pending in y is not i, which is matched there
    message_old : (i ≡ m) ⊎ (i ≡ r) → (k : ℕ) → PendingMessage s y k → k ≢ i
    message_old (inl e) k p c = p.unmatched (state_name y (c ∙ e) ∙ matches_message_state M)
    message_old (inr e) k p c = p.unmatched (state_name y (c ∙ e) ∙ matches_receive_state M)

    receive_old : (i ≡ m) ⊎ (i ≡ r) → (q : ℕ) → PendingReceive s y q → q ≢ i
    receive_old (inl e) q p c = p.unmatched (state_name y (c ∙ e) ∙ matches_message_state M)
    receive_old (inr e) q p c = p.unmatched (state_name y (c ∙ e) ∙ matches_receive_state M)

    split : (k q : ℕ) → ((k ≡ m) × (q ≡ r)) ⊎ MatchedPair s x k q → First s now y k q ⊎ MatchedPair s x k q
    split k q (inl e) =
        inl (subst (λ (z : ℕ). First s now y z q) (sym e.0)
        (subst (λ (z : ℕ). First s now y m z) (sym e.1) F))
    split k q (inr h) = inr h
