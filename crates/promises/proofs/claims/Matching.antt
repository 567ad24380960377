-- What the matching of a job that an order left is known to be: demand 2's claims about messages and receives, read off the
-- invariant.
--   none_fit, no_overtaking, no_overtaking_receives, statuses, send_statuses
-- Assumes nothing.
use Rattle.std.specs.Prelude.{◌≡◌, true, List, ℕ, ◌<◌}
use Rattle.std.proofs.Common.{sym, subst, ◌∙◌, arith}
use Rattle.std.proofs.Math.Path.{ap}
use Rattle.std.proofs.Math.Decide.{ℕ_discrete, dec_lt}
use Rattle.rules.specs.Sheet.{Sheet, op, sheet_in, rank_of, is_send, is_receive}
use Rattle.rules.specs.Job.{Job}
use Rattle.rules.specs.Step.{fits_with}
use Rattle.rules.specs.Claims.{left_by}
use Rattle.laws.specs.Tests.{not_so}
use Rattle.promises.specs.Statements.{told_by, NoPairLeft, NoneFit, SendsInOrder, NoOvertaking, ReceivesInOrder, NoOvertakingReceives}
use Rattle.promises.specs.Statements.{Status, MatchedReceives, Statuses, MatchedSends, SendStatuses}
use Rattle.invariant.specs.sheet.Kinds.{send_not_receive, send_not_tells, receive_not_tells}
use Rattle.invariant.specs.Invariant.{Entered, state_at, partner_at, row_of, MatchedPair, Reached}
use Rattle.invariant.specs.preserve.Places.{prefix}
use Rattle.invariant.specs.preserve.Rows.{row_message, row_receive}
use Rattle.promises.proofs.claims.OneJob.{lent_reached}

pub none_fit : NoneFit
unfolding NoneFit NoPairLeft told_by
none_fit bs i rs h m q sends receives low high pending =
    not_so (fits_with (sheet_in bs) m q)
    (λ f.
    (lent_reached h rs).stable.none_fit m q
    (record {
      sends = sends;
      entered = low;
      unmatched = λ e. omega arith;
    })
    (record {
      receives = receives;
      entered = omega arith;
      unmatched = λ e. omega arith;
    })
    f)

module _ {s : Sheet} {lent : List ℕ} {x : Job} (R : Reached s lent x) where
  -- a send k that came before m and fits m's receive
  earlier_sent : {m k q : ℕ} → MatchedPair s x m q → is_send (op s k) ≡ true → k < m → rank_of s k ≡ rank_of s m →
      fits_with s k q ≡ true →
      (state_at x k ≡ 3) × (partner_at x k < q)
  earlier_sent {m} {k} {q} met sk l same f =
      let m_there : Entered x m = omega (arith, met.message_matched) in
      let k_there = prefix s x R.placed k m m_there l same in
      R.stable.first_sent m q k met sk k_there (R.arrived.in_script k m sk met.sends k_there m_there same l) f

  overtaking : (m k q : ℕ) → is_send (op s m) ≡ true → is_send (op s k) ≡ true → k < m → rank_of s k ≡ rank_of s m →
      state_at x m ≡ 3 → partner_at x m ≡ q →
      fits_with s k q ≡ true → (state_at x k ≡ 3) × (partner_at x k < q)
  overtaking m k q sm sk l same e to f =
      earlier_sent (subst (λ (z : ℕ). MatchedPair s x m z) to (R.stable.message_pair m sm e)) sk l same f

  -- message m went to q past p: then p has a message, and of m's sender only an earlier one, since else m would have gone to p
  overtaking_receives : (m p q : ℕ) → is_receive (op s q) ≡ true → is_receive (op s p) ≡ true → p < q → state_at x q ≡ 3 →
      partner_at x q ≡ m → fits_with s m p ≡ true →
      (state_at x p ≡ 3) × (rank_of s (partner_at x p) ≡ rank_of s m → partner_at x p < m)
  overtaking_receives m p q rq rp l e to f = (taken, λ same. earlier same (ℕ_discrete k m) (dec_lt m k))
    where
      met : MatchedPair s x m q
      met = subst (λ (z : ℕ). MatchedPair s x z q) to (R.stable.receive_pair q rq e)

      taken : state_at x p ≡ 3
      taken = R.stable.first_posted m q p met rp l f

      k : ℕ
      k = partner_at x p

      pair : MatchedPair s x k p
      pair = R.stable.receive_pair p rp taken

      earlier : rank_of s k ≡ rank_of s m → Dec (k ≡ m) → Dec (m < k) → k < m
      earlier same (yes z) later = absurd (omega (arith, ap (λ (j : ℕ). partner_at x j) z, pair.to_receive, met.to_receive))
      earlier same (no d) (yes a) =
          absurd (omega (arith, (earlier_sent pair met.sends a (sym same) f).1, met.to_receive))
      earlier same (no d) (no a) = omega arith

  -- the rows of a matched pair
  pub status : (m q : ℕ) → MatchedPair s x m q → Status s (told_by s x) m q
  unfolding told_by
  status m q met =
      record {
        sends = met.sends;
        receives = met.receives;
        fit = met.fit;
        message_row =
            R.shaped.row m (send_not_tells (op s m) met.sends) ∙ ap (λ (v : ℕ). row_of s m v (partner_at x m)) met.message_matched
            ∙ ap (λ (z : ℕ). row_of s m 3 z) met.to_receive
            ∙ row_message s m q (send_not_receive (op s m) met.sends);
        receive_row =
            R.shaped.row q (receive_not_tells (op s q) met.receives) ∙ ap (λ (v : ℕ). row_of s q v (partner_at x q)) met.receive_matched
            ∙ ap (λ (z : ℕ). row_of s q 3 z) met.to_message
            ∙ row_receive s q m met.receives;
      }

pub no_overtaking : NoOvertaking
unfolding NoOvertaking SendsInOrder told_by
no_overtaking bs i rs h = overtaking (lent_reached h rs)

pub no_overtaking_receives : NoOvertakingReceives
unfolding NoOvertakingReceives ReceivesInOrder told_by
no_overtaking_receives bs i rs h = overtaking_receives (lent_reached h rs)

pub statuses : Statuses
unfolding Statuses MatchedReceives told_by
statuses bs i rs h q receives e =
    let R = lent_reached h rs in
    status R (partner_at (left_by (sheet_in bs) rs i) q) q (R.stable.receive_pair q receives e)

pub send_statuses : SendStatuses
unfolding SendStatuses MatchedSends told_by
send_statuses bs i rs h m sends e =
    let R = lent_reached h rs in
    status R m (partner_at (left_by (sheet_in bs) rs i) m) (R.stable.message_pair m sends e)
