-- What probes and queries told (document 02, K9): their rows, that what is told stays, and that a receive which asks for what the
-- probe before it told takes that message. Of two messages that such a receive fits, the probe would have told the earlier.
--   told_received        the message that a probe told is matched with the receive after it
--   probes, queries, told_at_its_step, probe_then_receive, told_then_received
-- Assumes nothing.
use Rattle.std.specs.Prelude.{◌≡◌, ◌⊎◌, ◌≢◌, Bool, false, cond, List, ◌∷◌, ◌++◌, ℕ, suc, ◌≤◌, ◌<◌, length}
use Rattle.std.proofs.Math.Path.{refl, ap, subst}
use Rattle.std.proofs.Common.{sym, ◌∙◌, inl, inr, arith}
use Rattle.std.proofs.Math.Bool.{true}
use Rattle.std.proofs.Math.Option.{Option, none, some}
use Rattle.std.proofs.Math.Decide.{ℕ_discrete, dec_lt}
use borrow.Author.Tests.{leb-true}
use Rattle.rules.specs.Limits.{any}
use Rattle.rules.specs.Sheet.{Sheet, op, sheet_in, rank_of, is_receive, tells_message, tells_completion, tells}
use Rattle.rules.specs.Job.{Job, Entry, entry, entry_at, place_at}
use Rattle.rules.specs.Step.{able, step, next_op, fits_with, first_message, complete, complete_if, waited, probe_row, query_row, half_row}
use Rattle.rules.specs.Order.{Followed, followed, follow_from}
use Rattle.rules.specs.Claims.{accepts, left_by}
use Rattle.laws.specs.Tests.{true_not_false}
use Rattle.invariant.specs.sheet.Valid.{Valid}
use Rattle.invariant.specs.sheet.Kinds.{fit_board, fit_comm, fit_source, fit_tag, fit_made, message_tells, tells_only_half}
use Rattle.invariant.specs.sheet.Kinds.{send_not_tells, receive_not_tells}
use Rattle.invariant.specs.sheet.Extents.{send_inside, send_tag}
use Rattle.invariant.specs.deliveries.Laws.{DeliveryLaws}
use Rattle.invariant.specs.deliveries.Commute.{delivery_laws}
use Rattle.invariant.specs.Invariant.{Entered, state_at, partner_at, MatchedPair, ProbeTold, Reached, Extended}
use Rattle.invariant.specs.matching.RowChanges.{enters_grows}
use Rattle.invariant.specs.step.Places.{Next, able_next, next_fresh}
use Rattle.invariant.specs.step.Cases.{Outcome, ends_half, ends_only_half, posts, pends, matches, stops}
use Rattle.invariant.specs.step.CasesHold.{outcome}
use Rattle.invariant.specs.preserve.Told.{matches_tells_none}
use Rattle.invariant.specs.preserve.Places.{prefix}
use Rattle.invariant.specs.preserve.Step.{step_sound}
use Rattle.invariant.specs.preserve.Orders.{follow_from_keeps}
use Rattle.promises.specs.Statements.{Lent, told_by, Status}
use Rattle.promises.specs.ProbeStatements.{ProbeStatus, ProbesTold, Probes, QueryStatus, QueriesTold, Queries}
use Rattle.promises.specs.ProbeStatements.{ToldAtItsStep, AsksTold, ProbeThenReceive, ReceivesTold, ToldThenReceived}
use Rattle.promises.proofs.claims.OneJob.{lent_valid, lent_reached}
use Rattle.promises.proofs.claims.Matching.{status}
use Rattle.promises.proofs.compare.WholeOrders.{follow_join}

-- THE RECEIVE AFTER A PROBE, of a job that keeps the invariant: probe p told message m, and receive q after it asks for that source
-- and tag
module _ {s : Sheet} (g : Valid s) {lent : List ℕ} {x : Job} (R : Reached s lent x) (p m q : ℕ) (T : ProbeTold s R.arrival x p m)
    (after : q ≡ suc p) (receives : is_receive (op s q) ≡ true) (same_board : rank_of s q ≡ rank_of s p)
    (same_comm : (op s q).comm ≡ (op s p).comm) (same_source : (op s q).peer ≡ rank_of s m) (same_tag : (op s q).tag ≡ (op s m).tag)
    (there : Entered x q) where
  -- the receive fits the message
  told_fits : fits_with s m q ≡ true
  told_fits =
      fit_made s m q (fit_board s m p T.fit ∙ sym same_board) (fit_comm s m p T.fit ∙ sym same_comm) (inr same_source) (inr same_tag)

  -- a rank and a send's tag are not any
  one_source : (op s q).peer ≢ any
  one_source e = omega (arith, same_source, g.rank_small m (send_inside s m T.sends), g.boards_few)

  one_tag : (op s q).tag ≢ any
  one_tag e = omega (arith, same_tag, send_tag s g m T.sends)

  -- what the receive fits, the probe fits
  probe_fits : (k : ℕ) → fits_with s k q ≡ true → fits_with s k p ≡ true
  probe_fits k f =
      fit_made s k p (fit_board s k q f ∙ same_board) (fit_comm s k q f ∙ same_comm) (source (fit_source s k q f) (fit_source s m p T.fit))
      (tag (fit_tag s k q f) (fit_tag s m p T.fit))
    where
      source : ((op s q).peer ≡ any) ⊎ ((op s q).peer ≡ rank_of s k) → ((op s p).peer ≡ any) ⊎ ((op s p).peer ≡ rank_of s m) →
          ((op s p).peer ≡ any) ⊎ ((op s p).peer ≡ rank_of s k)
      source (inl e) h = absurd (one_source e)
      source (inr e) (inl h) = inl h
      source (inr e) (inr h) = inr (h ∙ sym same_source ∙ e)

      tag : ((op s q).tag ≡ any) ⊎ ((op s q).tag ≡ (op s k).tag) → ((op s p).tag ≡ any) ⊎ ((op s p).tag ≡ (op s m).tag) →
          ((op s p).tag ≡ any) ⊎ ((op s p).tag ≡ (op s k).tag)
      tag (inl e) h = absurd (one_tag e)
      tag (inr e) (inl h) = inl h
      tag (inr e) (inr h) = inr (h ∙ sym same_tag ∙ e)

  -- where the receive is matched it took m: an earlier message that fits would have been taken before the probe, and past m it
  -- takes no later one
  matched_told : state_at x q ≡ 3 → MatchedPair s x m q
  matched_told e = go (dec_lt (R.arrival k) (R.arrival m)) (dec_lt (R.arrival m) (R.arrival k))
    where
      k : ℕ
      k = partner_at x q

      met : MatchedPair s x k q
      met = R.stable.receive_pair q receives e

      k_there : Entered x k
      k_there = omega (arith, met.message_matched)

      go : Dec (R.arrival k < R.arrival m) → Dec (R.arrival m < R.arrival k) → MatchedPair s x m q
      go (yes l) _ =
          absurd (let taken = T.first_sent k met.sends k_there l (probe_fits k met.fit) in omega (arith, taken.1, met.to_receive))
      go (no c) (yes l) =
          absurd
          (let taken = R.stable.first_sent k q m met T.sends T.entered l told_fits in omega (arith, taken.1, T.not_taken taken.0))
      go (no c) (no d) =
          subst (λ (z : ℕ). MatchedPair s x z q) (R.arrived.apart k m met.sends T.sends k_there T.entered (omega arith)) met

  -- and it is matched: m is not pending beside it, and did not go past it
  pub told_received : MatchedPair s x m q
  told_received = go (ℕ_discrete (state_at x q) 3) (ℕ_discrete (state_at x m) 3)
    where
      go : Dec (state_at x q ≡ 3) → Dec (state_at x m ≡ 3) → MatchedPair s x m q
      go (yes e) _ = matched_told e
      go (no d) (no c) =
          absurd
          (R.stable.none_fit m q
          (record {
            sends = T.sends;
            entered = T.entered;
            unmatched = c;
          })
          (record {
            receives = receives;
            entered = there;
            unmatched = d;
          })
          told_fits)
      go (no d) (yes c) = absurd (d (past (ℕ_discrete (partner_at x m) q)))
        where
          met : MatchedPair s x m (partner_at x m)
          met = R.stable.message_pair m T.sends c

          past : Dec (partner_at x m ≡ q) → state_at x q ≡ 3
          past (yes e) = ap (λ (z : ℕ). state_at x z) (sym e) ∙ met.receive_matched
          past (no n) = R.stable.first_posted m (partner_at x m) q met receives (omega (arith, T.not_taken c)) told_fits

-- ROWS of one job
module _ {s : Sheet} (g : Valid s) {lent : List ℕ} {x : Job} (R : Reached s lent x) where
  probe_status : (p m : ℕ) → ProbeTold s R.arrival x p m → ProbeStatus s (told_by s x) p m
  unfolding told_by probe_row
  probe_status p m T =
      record {
        sends = T.sends;
        fit = T.fit;
        entered = T.entered;
        row = T.row;
        not_taken = T.not_taken;
        first_sent =
            λ k a l same f.
            let k_there = prefix s x R.placed k m T.entered l same in
            T.first_sent k a k_there (R.arrived.in_script k m a T.sends k_there T.entered same l) f;
      }

  query_status : (p : ℕ) → tells_completion (op s p) ≡ true → Entered x p → QueryStatus s (told_by s x) p
  unfolding told_by query_row complete_if complete
  query_status p t there =
      let h = R.told.queries p t there in
      record {
        answer = h.0;
        row = h.1.row;
        complete = λ e. held (waited s p) refl (h.1.complete e);
      }
    where
      held : (o : Option ℕ) → waited s p ≡ o → complete_if x o ≡ true → (j : ℕ) × (waited s p ≡ some j) × (2 ≤ state_at x j)
      held none w c = true_not_false c refl
      held (some j) w c = (j, w, leb-true 2 (state_at x j) c)

  -- the receive that asks for what its probe told
  asked_received : (p m : ℕ) → ProbeTold s R.arrival x p m → AsksTold s (told_by s x) p → Entered x (suc p) →
      Status s (told_by s x) m (suc p)
  unfolding told_by probe_row entry
  asked_received p m T A there =
      status R m (suc p)
      (told_received g R p m (suc p) T refl A.receives A.same_board A.same_comm
      (A.same_source ∙ ap (λ (e : Entry). e.source) T.row) (A.same_tag ∙ ap (λ (e : Entry). e.tag) T.row) there)

pub probes : Probes
unfolding Probes ProbesTold told_by
probes bs i rs h p t e =
    let R = lent_reached h rs in
    let T = R.told.probes p t (omega arith) in
    (T.0, probe_status (lent_valid h) R p T.0 T.1)

pub queries : Queries
unfolding Queries QueriesTold told_by
queries bs i rs h p t e = query_status (lent_valid h) (lent_reached h rs) p t (omega arith)

pub told_then_received : ToldThenReceived
unfolding ToldThenReceived ReceivesTold told_by
told_then_received bs i rs h p t e A there =
    let g = lent_valid h in
    let R = lent_reached h rs in
    let T = R.told.probes p t (omega arith) in
    (T.0, probe_status g R p T.0 T.1, asked_received g R p T.0 T.1 A there)

-- ALONG AN ORDER: a step of an operation that tells, and what stands after it
module _ {bs i : List ℕ} (lent : Lent bs i) (before after : List ℕ) (r : ℕ) where
  abbrev s : Sheet
  s = sheet_in bs

  abbrev x : Job
  x = left_by s before i

  abbrev p : ℕ
  p = next_op s x r

  module _ (accepted : accepts s before i ≡ true) (a : able s x r ≡ true) (t : tells (op s p) ≡ true) where
    g : Valid s
    g = lent_valid lent

    A : DeliveryLaws s
    A = delivery_laws s g

    X : Reached s i x
    X = lent_reached lent before

    n : Next s x r
    n = able_next s g x r a

    E : Extended X (step s r x) p
    E = step_sound g A lent.room X r a

    -- its step enters it with the row that the rule gives
    told_now : Entered (step s r x) p × (entry_at (step s r x) p ≡ half_row s x p)
    told_now = go (outcome s g i x X r n)
      where
        go : Outcome s x (step s r x) r p → Entered (step s r x) p × (entry_at (step s r x) p ≡ half_row s x p)
        go (ends_half e) =
            true_not_false (tells_only_half (op s p) t) (X.placed.waiting_not_only_half r n.rank_small e.waiting)
        go (ends_only_half e) = ((enters_grows e.enters).enters, e.row)
        go (posts e) = true_not_false t (receive_not_tells (op s p) e.is_one)
        go (pends e) = true_not_false t (send_not_tells (op s p) e.is_one)
        go (matches m q e) = true_not_false t (matches_tells_none e.rows)
        go (stops v e) = true_not_false t (send_not_tells (op s p) e.is_one)

    -- before it is not entered
    not_before : Entered x p → ⊥
    not_before there = go (place_at x r).waiting refl
      where
        go : (b : Bool) → (place_at x r).waiting ≡ b → ⊥
        go true e = true_not_false (tells_only_half (op s p) t) (X.placed.waiting_not_only_half r n.rank_small e)
        go false e = omega (arith, next_fresh s x r X.placed n e)

    -- what every able step keeps, and the job after this step has, the whole order leaves
    left_after : (P : Job → Type 0) → ((z : Job) (q : ℕ) → P z → able s z q ≡ true → P (step s q z)) → P (step s r x) →
        P (left_by s (before ++ (r ∷ after)) i)
    unfolding left_by follow_from
    left_after P keeps start =
        subst (λ (f : Followed). P f.left) (sym (follow_join s before (r ∷ after) i accepted))
        (subst (λ (b : Bool). P (cond b (follow_from (suc (length before)) s after (step s r x)) (followed (some (length before)) x)).left)
        (sym a)
        (follow_from_keeps s P keeps (suc (length before)) after (step s r x) start))

    row_stays : entry_at (left_by s (before ++ (r ∷ after)) i) p ≡ half_row s x p
    row_stays =
        (left_after (λ z. Reached s i z × Entered z p × (entry_at z p ≡ half_row s x p))
        (λ z q h b.
        let F = step_sound g A lent.room h.0 q b in
        (F.reached, F.on p h.1, F.telling.kept p t h.1 ∙ h.2))
        (E.reached, told_now.0, told_now.1)).2

    -- what was told stays told
    told_stays : (m : ℕ) → tells_message (op s p) ≡ true → first_message s p x.messages ≡ some m →
        (Z : Reached s i (left_by s (before ++ (r ∷ after)) i)) × ProbeTold s Z.arrival (left_by s (before ++ (r ∷ after)) i) p m
    told_stays m probes f =
        let all = left_after (λ z. (Z : Reached s i z) × Entered z p × ProbeTold s Z.arrival z p m)
        (λ z q h b.
        let F = step_sound g A lent.room h.0 q b in
        (F.reached, F.on p h.1, F.telling.on p m probes h.1 h.2))
        (E.reached, told_now.0, E.telling.new m probes told_now.0 not_before f) in
        (all.0, all.2)

pub told_at_its_step : ToldAtItsStep
unfolding ToldAtItsStep
told_at_its_step bs i before after r h accepted a t = row_stays h before after r accepted a t

pub probe_then_receive : ProbeThenReceive
unfolding ProbeThenReceive told_by
probe_then_receive bs i before after r m h accepted a probes f A there =
    let s = sheet_in bs in
    let p = next_op s (left_by s before i) r in
    let T = told_stays h before after r accepted a (message_tells (op s p) probes) m probes f in
    asked_received (lent_valid h) T.0 p m T.1 A there
