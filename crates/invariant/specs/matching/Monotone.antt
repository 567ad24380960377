-- A stable matching only grows. Let y have entered whatever x has, and let messages that one receive could take have come in
-- the same order: then what is matched in x is matched alike in y. This is why a job is determined by where its boards stand.
--   SameOrder           messages that one receive could take, or one probe tell, came in the same order
--   Within               y has entered whatever x has, and the order is the same
--   Prefix               on one board everything before an entered operation is entered
--   pair_receive_same, pair_message_same    pairs are one to one
--   matched_stays        the law
-- Assumes nothing.
use Rattle.std.specs.Prelude.{◌≡◌, ◌≢◌, true, ℕ, zero, suc, ◌<◌}
use Rattle.std.proofs.Common.{sym, ap, subst, ◌∙◌, arith}
use Rattle.std.proofs.Math.Decide.{ℕ_discrete, dec_lt}
use Rattle.rules.specs.Sheet.{Sheet, op, rank_of, is_send, selects}
use Rattle.rules.specs.Job.{Job}
use Rattle.rules.specs.Step.{fits_with}
use Rattle.invariant.specs.sheet.Kinds.{fit_one_board, receive_selects}
use Rattle.invariant.specs.Invariant.{Entered, state_at, partner_at, MatchedPair, Stable, Arrived}

-- of messages that one receive could take, or one probe tell, what came before one of x's messages in y came before it in x
abbrev pub SameOrder : Sheet → (ℕ → ℕ) → Job → (ℕ → ℕ) → Job → Type 0
SameOrder s cx x cy y =
    (k m r : ℕ) → is_send (op s k) ≡ true → is_send (op s m) ≡ true → selects (op s r) ≡ true → fits_with s k r ≡ true →
    fits_with s m r ≡ true →
    Entered x m → Entered y k → cy k < cy m → Entered x k × (cx k < cx m)

-- x is within y: see above. `cx` and `cy` give the order of arrival in each
pub record Within (s : Sheet) (cx : ℕ → ℕ) (x : Job) (cy : ℕ → ℕ) (y : Job) : Type 0 where
  pub entered : (j : ℕ) → Entered x j → Entered y j
  pub order : SameOrder s cx x cy y

-- on one board everything before an entered operation is entered
abbrev pub Prefix : Sheet → Job → Type 0
Prefix s x = (j i : ℕ) → Entered x i → j < i → rank_of s j ≡ rank_of s i → Entered x j

-- a matching's pairs are one to one
pub pair_receive_same : {s : Sheet} {x : Job} {m r q : ℕ} → MatchedPair s x m r → MatchedPair s x m q → r ≡ q
pair_receive_same a b = sym a.to_receive ∙ b.to_receive

pub pair_message_same : {s : Sheet} {x : Job} {m k r : ℕ} → MatchedPair s x m r → MatchedPair s x k r → m ≡ k
pair_message_same a b = sym a.to_message ∙ b.to_message

module _ (s : Sheet) (cx : ℕ → ℕ) (x : Job) (cy : ℕ → ℕ) (y : Job) (X : Stable s cx x) (Y : Stable s cy y) (A : Arrived s cy y)
    (pre : Prefix s x) (W : Within s cx x cy y) where
  -- the receives below r are matched in y as in x
  abbrev Below : (r : ℕ) → Type 0
  Below r = (k q : ℕ) → q < r → MatchedPair s x k q → MatchedPair s y k q

  -- then a message that x matched with r has not been taken in y by an earlier receive
  stays_no_earlier : (m r q : ℕ) → Below r → MatchedPair s x m r → MatchedPair s y m q → q < r → ⊥
  stays_no_earlier m r q below a b l =
      let same : rank_of s q ≡ rank_of s r = fit_one_board s m q r b.fit a.fit in
      let there : Entered x q = pre q r (omega (arith, a.receive_matched)) l same in
      let c : MatchedPair s x (partner_at x q) q = X.receive_pair q b.receives (X.first_posted m r q a b.receives l b.fit) in
      let d : partner_at x q ≡ m = pair_message_same (below (partner_at x q) q l c) b in
      let e : r ≡ q = sym a.to_receive ∙ sym (ap (λ (z : ℕ). partner_at x z) d) ∙ c.to_receive in
      omega arith

  -- nor has r taken another message
  stays_no_other : (m r k : ℕ) → Below r → MatchedPair s x m r → MatchedPair s y k r → k ≢ m → ⊥
  stays_no_other m r k below a b d = go (dec_lt (cy m) (cy k)) (dec_lt (cy k) (cy m))
    where
      m_there : Entered x m
      m_there = omega (arith, a.message_matched)

      k_there : Entered y k
      k_there = omega (arith, b.message_matched)

      go : Dec (cy m < cy k) → Dec (cy k < cy m) → ⊥
      go (yes l) _ =
          let t = Y.first_sent k r m b a.sends (W.entered m m_there) l a.fit in
          stays_no_earlier m r (partner_at y m) below a (Y.message_pair m a.sends t.0) t.1
      go (no n) (yes l) =
          let w = W.order k m r b.sends a.sends (receive_selects (op s r) a.receives) b.fit a.fit m_there k_there l in
          let t = X.first_sent m r k a b.sends w.0 w.1 b.fit in
          let e : partner_at x k ≡ r = pair_receive_same
          (below k (partner_at x k) t.1 (X.message_pair k b.sends t.0)) b in
          omega (arith, t.1)
      go (no n) (no o) = d (A.apart k m b.sends a.sends k_there (W.entered m m_there) (omega arith))

  stays_at : (m r : ℕ) → Below r → MatchedPair s x m r → MatchedPair s y m r
  stays_at m r below a = go (ℕ_discrete (state_at y r) 3) (ℕ_discrete (state_at y m) 3)
    where
      r_there : Entered y r
      r_there = W.entered r (omega (arith, a.receive_matched))

      m_there : Entered y m
      m_there = W.entered m (omega (arith, a.message_matched))

      -- r is pending in y: the message would have gone to it
      pending : state_at y r ≢ 3 → Dec (state_at y m ≡ 3) → ⊥
      pending d (no n) =
          Y.none_fit m r
          (record {
            sends = a.sends;
            entered = m_there;
            unmatched = n;
          })
          (record {
            receives = a.receives;
            entered = r_there;
            unmatched = d;
          })
          a.fit
      pending d (yes e) = at (dec_lt (partner_at y m) r) (dec_lt r (partner_at y m))
        where
          b : MatchedPair s y m (partner_at y m)
          b = Y.message_pair m a.sends e

          at : Dec (partner_at y m < r) → Dec (r < partner_at y m) → ⊥
          at (yes l) _ = stays_no_earlier m r (partner_at y m) below a b l
          at (no n) (yes l) = d (Y.first_posted m (partner_at y m) r b a.receives l a.fit)
          at (no n) (no o) =
              let q : partner_at y m ≡ r = omega arith in
              d (ap (λ (z : ℕ). state_at y z) (sym q) ∙ b.receive_matched)

      taken : state_at y r ≡ 3 → Dec (partner_at y r ≡ m) → MatchedPair s y m r
      taken e (yes q) = subst (λ (z : ℕ). MatchedPair s y z r) q (Y.receive_pair r a.receives e)
      taken e (no d) = absurd (stays_no_other m r (partner_at y r) below a (Y.receive_pair r a.receives e) d)

      go : Dec (state_at y r ≡ 3) → Dec (state_at y m ≡ 3) → MatchedPair s y m r
      go (yes e) _ = taken e (ℕ_discrete (partner_at y r) m)
      go (no d) t = absurd (pending d t)

  stays_below : (n m r : ℕ) → r < n → MatchedPair s x m r → MatchedPair s y m r
  stays_below zero m r l a = absurd (omega arith)
  stays_below (suc n) m r l a = stays_at m r (λ k q h. stays_below n k q (omega arith)) a

  -- what is matched in x is matched alike in y
  pub matched_stays : (m r : ℕ) → MatchedPair s x m r → MatchedPair s y m r
  matched_stays m r a = stays_below (suc r) m r (omega arith) a
