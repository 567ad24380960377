-- What a step does to the rows, said relationally. Every initiating step, and every step of an operation that is only a waiting
-- half, enters its operation i: unmatched (`Enters`), or matched with a pending one (`Matches`). Either way the rows grow
-- (`Grows`), which is what most proofs ask.
--   Grows              matched rows stay, i enters, nothing else does; grows_pair, grows_message, grows_receive
--   Enters             operation i enters unmatched; enters_differ, enters_grows
--   Matches            message m and receive q are matched; one of them is i, which enters; matches_pair, matches_grows, matches_split
--   state_same, partner_same, state_name, pair_same    rows that are equal, and one row under two names
-- Assumes nothing.
use Rattle.std.specs.Prelude.{◌≡◌, ◌⊎◌, ◌≢◌, true, cond, ℕ, ◌≤◌}
use Rattle.std.proofs.Common.{sym, ap, ◌∙◌, inl, inr, arith}
use Rattle.std.proofs.Math.Decide.{ℕ_discrete}
use Rattle.rules.specs.Limits.{absent}
use Rattle.rules.specs.Sheet.{Sheet, op, rank_of, is_send, is_receive}
use Rattle.rules.specs.Job.{Job, Entry, entry, entry_at}
use Rattle.rules.specs.Step.{fits_with, is_cut}
use Rattle.invariant.specs.sheet.Kinds.{send_receive_differ}
use Rattle.invariant.specs.Invariant.{Entered, state_at, partner_at, PendingMessage, PendingReceive, MatchedPair}

-- the rows of x grow to those of y, where operation i enters
pub record Grows (x y : Job) (i : ℕ) : Type 0 where
  pub fresh : state_at x i ≡ 0
  pub enters : Entered y i
  -- what was entered is, what was matched is matched alike, and what was complete is
  pub on : (j : ℕ) → Entered x j → Entered y j
  pub kept : (j : ℕ) → state_at x j ≡ 3 → entry_at y j ≡ entry_at x j
  pub complete_on : (j : ℕ) → 2 ≤ state_at x j → 2 ≤ state_at y j
  -- what is not i was entered, and what is neither matched nor i has the row that it had
  pub back : (j : ℕ) → j ≢ i → Entered y j → Entered x j
  pub same : (j : ℕ) → j ≢ i → state_at y j ≢ 3 → entry_at y j ≡ entry_at x j

-- operation i enters unmatched, in state v
pub record Enters (x y : Job) (i v : ℕ) : Type 0 where
  pub fresh : state_at x i ≡ 0
  pub state : state_at y i ≡ v
  pub other : (j : ℕ) → j ≢ i → entry_at y j ≡ entry_at x j
  pub some_state : 1 ≤ v
  pub no_match : v ≢ 3

-- message m and receive r are matched; one of them is i, which enters
pub record Matches (s : Sheet) (x y : Job) (m r i : ℕ) : Type 0 where
  pub sends : is_send (op s m) ≡ true
  pub receives : is_receive (op s r) ≡ true
  pub fit : fits_with s m r ≡ true
  pub message_row : entry_at y m ≡ entry 3 0 r absent absent 0
  pub receive_row : entry_at y r ≡ entry 3 (cond (is_cut s m r) 1 0) m (rank_of s m) (op s m).tag (op s m).long
  pub other : (j : ℕ) → j ≢ m → j ≢ r → entry_at y j ≡ entry_at x j
  pub message_free : state_at x m ≢ 3
  pub receive_free : state_at x r ≢ 3
  -- i is the one of the two that enters; the other one is pending
  pub one : (i ≡ m) ⊎ (i ≡ r)
  pub fresh : state_at x i ≡ 0
  pub message_there : m ≢ i → Entered x m
  pub receive_there : r ≢ i → Entered x r

pub state_same : {a b : Entry} → a ≡ b → a.state ≡ b.state
state_same e = ap (λ (z : Entry). z.state) e

pub partner_same : {a b : Entry} → a ≡ b → a.partner ≡ b.partner
partner_same e = ap (λ (z : Entry). z.partner) e

-- the state of one operation under two names
pub state_name : (x : Job) {j i : ℕ} → j ≡ i → state_at x j ≡ state_at x i
state_name x e = ap (λ (z : ℕ). state_at x z) e

-- a pair is matched in y as in x where neither row changed
pub pair_same : {s : Sheet} {x y : Job} {m r : ℕ} → entry_at y m ≡ entry_at x m → entry_at y r ≡ entry_at x r → MatchedPair s x m r →
    MatchedPair s y m r
pair_same a b h =
    record {
      sends = h.sends;
      receives = h.receives;
      fit = h.fit;
      message_matched = state_same a ∙ h.message_matched;
      receive_matched = state_same b ∙ h.receive_matched;
      to_receive = partner_same a ∙ h.to_receive;
      to_message = partner_same b ∙ h.to_message;
    }

-- what grows keeps its pairs, and what is pending in y other than i was pending in x
module _ {s : Sheet} {x y : Job} {i : ℕ} (G : Grows x y i) where
  pub grows_pair : {m r : ℕ} → MatchedPair s x m r → MatchedPair s y m r
  grows_pair {m} {r} h = pair_same (G.kept m h.message_matched) (G.kept r h.receive_matched) h

  pub grows_message : (m : ℕ) → m ≢ i → PendingMessage s y m → PendingMessage s x m
  grows_message m d h =
      record {
        sends = h.sends;
        entered = G.back m d h.entered;
        unmatched = λ e. h.unmatched (state_same (G.same m d h.unmatched) ∙ e);
      }

  pub grows_receive : (r : ℕ) → r ≢ i → PendingReceive s y r → PendingReceive s x r
  grows_receive r d h =
      record {
        receives = h.receives;
        entered = G.back r d h.entered;
        unmatched = λ e. h.unmatched (state_same (G.same r d h.unmatched) ∙ e);
      }

-- ENTERS
module _ {x y : Job} {i v : ℕ} (E : Enters x y i v) where
  -- a row that says matched, or entered before, is not i's
  pub enters_differ_now : (j : ℕ) → state_at y j ≡ 3 → j ≢ i
  enters_differ_now j h e = E.no_match (sym E.state ∙ state_name y (sym e) ∙ h)

  pub enters_differ : (j : ℕ) → Entered x j → j ≢ i
  enters_differ j h e = omega (arith, E.fresh, state_name x e)

  pub enters_grows : Grows x y i
  enters_grows =
      record {
        fresh = E.fresh;
        enters = omega (arith, E.some_state);
        on = λ j h. omega (arith, state_same (E.other j (enters_differ j h)));
        kept = λ j h. E.other j (enters_differ j (omega arith));
        complete_on = λ j h. omega (arith, state_same (E.other j (enters_differ j (omega arith))));
        back = λ j d h. omega (arith, state_same (E.other j d));
        same = λ j d h. E.other j d;
      }

-- MATCHES
module _ {s : Sheet} {x y : Job} {m r i : ℕ} (M : Matches s x y m r i) where
  pub matches_message_state : state_at y m ≡ 3
  unfolding entry
  matches_message_state = state_same M.message_row

  pub matches_receive_state : state_at y r ≡ 3
  unfolding entry
  matches_receive_state = state_same M.receive_row

  pub matches_pair : MatchedPair s y m r
  unfolding entry
  matches_pair =
      record {
        sends = M.sends;
        receives = M.receives;
        fit = M.fit;
        message_matched = matches_message_state;
        receive_matched = matches_receive_state;
        to_receive = partner_same M.message_row;
        to_message = partner_same M.receive_row;
      }

  -- a row that was matched before is neither of the two
  matches_kept : (j : ℕ) → state_at x j ≡ 3 → entry_at y j ≡ entry_at x j
  matches_kept j h =
      M.other j (λ e. M.message_free (state_name x (sym e) ∙ h))
      (λ e. M.receive_free (state_name x (sym e) ∙ h))

  matches_same : (j : ℕ) → state_at y j ≢ 3 → entry_at y j ≡ entry_at x j
  matches_same j h =
      M.other j (λ e. h (state_name y e ∙ matches_message_state))
      (λ e. h (state_name y e ∙ matches_receive_state))

  pub matches_grows : Grows x y i
  matches_grows =
      record {
        fresh = M.fresh;
        enters = here M.one;
        on = λ j h. on j h (ℕ_discrete (state_at y j) 3);
        kept = matches_kept;
        complete_on = λ j h. complete j h (ℕ_discrete (state_at y j) 3);
        back = λ j d h. back j d h (ℕ_discrete j m) (ℕ_discrete j r);
        same = λ j d h. matches_same j h;
      }
    where
      here : (i ≡ m) ⊎ (i ≡ r) → Entered y i
      here (inl e) = omega (arith, state_name y e, matches_message_state)
      here (inr e) = omega (arith, state_name y e, matches_receive_state)

      on : (j : ℕ) → Entered x j → Dec (state_at y j ≡ 3) → Entered y j
      on j h (yes e) = omega arith
      on j h (no d) = omega (arith, state_same (matches_same j d))

      complete : (j : ℕ) → 2 ≤ state_at x j → Dec (state_at y j ≡ 3) → 2 ≤ state_at y j
      complete j h (yes e) = omega arith
      complete j h (no d) = omega (arith, state_same (matches_same j d))

      back : (j : ℕ) → j ≢ i → Entered y j → Dec (j ≡ m) → Dec (j ≡ r) → Entered x j
      back j d h (yes e) _ = omega (arith, state_name x e, M.message_there (λ c. d (e ∙ c)))
      back j d h (no a) (yes e) = omega (arith, state_name x e, M.receive_there (λ c. d (e ∙ c)))
      back j d h (no a) (no b) = omega (arith, state_same (M.other j a b))

  -- a pair of y is the new one or was one of x
  pub matches_split : (k q : ℕ) → MatchedPair s y k q → ((k ≡ m) × (q ≡ r)) ⊎ MatchedPair s x k q
  matches_split k q h = go (ℕ_discrete k m) (ℕ_discrete q r)
    where
      go : Dec (k ≡ m) → Dec (q ≡ r) → ((k ≡ m) × (q ≡ r)) ⊎ MatchedPair s x k q
      go (yes e) _ = inl (e, sym h.to_receive ∙ ap (λ (z : ℕ). partner_at y z) e ∙ matches_pair.to_receive)
      go (no d) (yes e) = absurd (d (sym h.to_message ∙ ap (λ (z : ℕ). partner_at y z) e ∙ matches_pair.to_message))
      go (no d) (no c) =
          let k_other : k ≢ r = send_receive_differ s k r h.sends M.receives in
          let q_other : q ≢ m = λ e. send_receive_differ s m q M.sends h.receives (sym e) in
          inr (pair_same (sym (M.other k d k_other)) (sym (M.other q q_other c)) h)
