-- Two neighbouring able steps of different boards may be exchanged, on any sheet: where neither stops the job in either
-- order, they do not enter two messages that one any-source receive or probe fits, and a query tells the same first and second, as a
-- standard send is buffered or not.
-- After both orders the boards stand alike and the messages that one receive could take, or one probe tell, came in the same
-- order, so the jobs are alike.
--   went_on                the first of two steps that do not stop the job did not
--   step_moved             where the boards stand after a step that goes on
--   swap_able              the second step is able after the first
--   swap_same_positions    the law
-- Assumes nothing.
use Rattle.std.specs.Prelude.{◌≡◌, ◌⊎◌, ◌≢◌, Bool, false, ◌||◌, cond, List, ℕ, suc, ◌+◌, ◌≤◌, length}
use Rattle.std.proofs.Math.Path.{refl, ap, subst}
use Rattle.std.proofs.Common.{sym, ◌∙◌, inl, inr, arith, eq-eqb}
use Rattle.std.proofs.Math.Bool.{true}
use Rattle.std.proofs.Math.Option.{none}
use Rattle.std.proofs.Math.Decide.{ℕ_discrete, dec_le}
use Rattle.rules.specs.Limits.{any}
use Rattle.rules.specs.Sheet.{Sheet, op, rank_of, inbox_total, is_send, is_standard, only_half, selects, tells_completion, tells}
use Rattle.rules.specs.Job.{Job, entry_at, place_at}
use Rattle.rules.specs.Step.{able, step, next_op, in_waiting_half, fits_with, fits_room, complete_if, waited, query_row, half_row}
use Rattle.rules.specs.Claims.{is_any_source}
use Rattle.laws.specs.Tests.{and_both}
use Rattle.promises.specs.ExchangeStatements.{Harmless, TellsSame, KeepsSame}
use Rattle.invariant.specs.sheet.Valid.{Valid}
use Rattle.invariant.specs.deliveries.Laws.{DeliveryLaws}
use Rattle.invariant.specs.sheet.Kinds.{send_not_only_half, standard_send, fit_source, completion_tells}
use Rattle.invariant.specs.Invariant.{Entered, state_at, reach, is_kept, Reached, Extended}
use Rattle.invariant.specs.matching.RowChanges.{state_name}
use Rattle.invariant.specs.preserve.Told.{query_row_is}
use Rattle.invariant.specs.matching.Monotone.{SameOrder}
use Rattle.invariant.specs.step.Places.{Next, Moved, able_next}
use Rattle.invariant.specs.preserve.Step.{step_sound}
use Rattle.promises.proofs.compare.ArrivalGrowth.{ArrivalsGrew, arrivals_step, arrivals_trans, arrivals_same_order, arrivals_order}
use Rattle.invariant.specs.step.Position.{position}
use Rattle.promises.proofs.compare.Behind.{Behind, still_able, places_entered}
use Rattle.promises.proofs.compare.AfterStep.{After, continues, stops_job, step_after, step_counted, finishing, moved_position_other}
use Rattle.promises.proofs.compare.AfterStep.{position_next, position_moved, position_further, stop_stays}
use Rattle.promises.proofs.compare.NewlyKept.{is_kept_by, exchange_kept}
use Rattle.promises.proofs.compare.SamePositions.{SamePositions}

-- a step after which the next one does not stop the job did not stop it
pub went_on : {s : Sheet} (g : Valid s) {lent : List ℕ} {x : Job} (X : Reached s lent x) (r k : ℕ) → able s x r ≡ true →
    (step s k (step s r x)).stop ≡ none → (step s r x).stop ≡ none
went_on {s} g {lent} {x} X r k c e = go (step_after g X r c)
  where
    go : After s x (step s r x) r → (step s r x).stop ≡ none
    go (continues h m) = h
    go (stops_job t h m n) = absurd (stop_stays s k (step s r x) t h e)

-- A STEP of p, after which the job goes on
module _ {s : Sheet} (g : Valid s) (A : DeliveryLaws s) {lent : List ℕ} (room : inbox_total s ≤ length lent) {x : Job}
    (X : Reached s lent x)
    (p : ℕ) (a : able s x p ≡ true) (going : (step s p x).stop ≡ none) where
  abbrev pub E : Extended X (step s p x) (next_op s x p)
  E = step_sound g A room X p a

  pub step_moved : Moved x (step s p x) p (finishing s x p)
  step_moved = go (step_after g X p a)
    where
      go : After s x (step s p x) p → Moved x (step s p x) p (finishing s x p)
      go (continues e m) = m
      go (stops_job t e q k) = absurd (let z : ◌≡◌ {A = ℕ} 0 1 = cc in omega arith)

  -- the job is behind itself after the step
  step_ahead : Behind X E.reached
  step_ahead =
      record {
        places = λ r l. ahead r (ℕ_discrete r p);
        order = arrivals_same_order (arrivals_step E);
        kept = λ k two. E.complete_on k (omega (arith, two));
      }
    where
      ahead : (r : ℕ) → Dec (r ≡ p) → position x r ≤ position (step s p x) r
      ahead r (yes e) = subst (λ (z : ℕ). position x z ≤ position (step s p x) z) (sym e) (omega (arith, position_further s step_moved))
      ahead r (no d) = omega (arith, moved_position_other step_moved r d)

  -- a board that was able and did not step is able still
  pub swap_able : (q : ℕ) → q ≢ p → able s x q ≡ true → able s (step s p x) q ≡ true
  swap_able q d b = still_able g X E.reached step_ahead q (sym (moved_position_other step_moved q d)) b going

-- BOTH STEPS, in both orders
module _ {s : Sheet} (g : Valid s) (A : DeliveryLaws s) {lent : List ℕ} (room : inbox_total s ≤ length lent) {x : Job}
    (X : Reached s lent x)
    (p q : ℕ) (d : p ≢ q) (a : able s x p ≡ true) (b : able s x q ≡ true) (H : Harmless s x p q) where
  going_p : (step s p x).stop ≡ none
  going_p = went_on g X p q a H.goes_on

  going_q : (step s q x).stop ≡ none
  going_q = went_on g X q p b H.goes_on_swapped

  pub able_q : able s (step s p x) q ≡ true
  able_q = swap_able g A room X p a going_p q (λ e. d (sym e)) b

  pub able_p : able s (step s q x) p ≡ true
  able_p = swap_able g A room X q b going_q p d a

  abbrev EP : Extended X (step s p x) (next_op s x p)
  EP = step_sound g A room X p a

  abbrev EQ : Extended X (step s q x) (next_op s x q)
  EQ = step_sound g A room X q b

  abbrev pub EPQ : Extended EP.reached (step s q (step s p x)) (next_op s (step s p x) q)
  EPQ = step_sound g A room EP.reached q able_q

  abbrev pub EQP : Extended EQ.reached (step s p (step s q x)) (next_op s (step s q x) p)
  EQP = step_sound g A room EQ.reached p able_p

  MP : Moved x (step s p x) p (finishing s x p)
  MP = step_moved g A room X p a going_p

  MQ : Moved x (step s q x) q (finishing s x q)
  MQ = step_moved g A room X q b going_q

  MPQ : Moved (step s p x) (step s q (step s p x)) q (finishing s (step s p x) q)
  MPQ = step_moved g A room EP.reached q able_q H.goes_on

  MQP : Moved (step s q x) (step s p (step s q x)) p (finishing s (step s q x) p)
  MQP = step_moved g A room EQ.reached p able_p H.goes_on_swapped

  -- the board that steps second stands where it stood
  second_q : position x q ≡ position (step s p x) q
  second_q = sym (moved_position_other MP q (λ e. d (sym e)))

  second_p : position x p ≡ position (step s q x) p
  second_p = sym (moved_position_other MQ p d)

  swap_places : (r : ℕ) → position (step s q (step s p x)) r ≡ position (step s p (step s q x)) r
  swap_places r = go (ℕ_discrete r p) (ℕ_discrete r q)
    where
      go : Dec (r ≡ p) → Dec (r ≡ q) → position (step s q (step s p x)) r ≡ position (step s p (step s q x)) r
      go (yes e) _ =
          subst (λ (z : ℕ). position (step s q (step s p x)) z ≡ position (step s p (step s q x)) z) (sym e)
          (moved_position_other MPQ p d ∙ position_moved s x (step s q x) p second_p MP MQP)
      go (no c) (yes e) =
          subst (λ (z : ℕ). position (step s q (step s p x)) z ≡ position (step s p (step s q x)) z) (sym e)
          (sym (moved_position_other MQP q (λ h. d (sym h)) ∙ position_moved s x (step s p x) q second_q MQ MPQ))
      go (no c) (no h) =
          moved_position_other MPQ r h ∙ moved_position_other MP r c
          ∙ sym (moved_position_other MQP r c ∙ moved_position_other MQ r h)

  -- what entered is the one operation or the other
  entered_since : (k : ℕ) → Entered (step s q (step s p x)) k → (Entered x k → ⊥) → (k ≡ next_op s x p) ⊎ (k ≡ next_op s x q)
  entered_since k h out = go (ℕ_discrete k (next_op s x p)) (ℕ_discrete k (next_op s x q))
    where
      go : Dec (k ≡ next_op s x p) → Dec (k ≡ next_op s x q) → (k ≡ next_op s x p) ⊎ (k ≡ next_op s x q)
      go (yes e) _ = inl e
      go (no c) (yes e) = inr e
      go (no c) (no e) = absurd (out (EP.back k c (EPQ.back k (λ f. e (f ∙ sym (position_next s x (step s p x) q second_q))) h)))

  -- a board whose next operation is a send that is not entered is in no waiting half
  in_no_half : (r k : ℕ) → able s x r ≡ true → k ≡ next_op s x r → is_send (op s k) ≡ true → (Entered x k → ⊥) →
      in_waiting_half s x r ≡ false
  unfolding in_waiting_half reach
  in_no_half r k c e sends out = go (place_at x r).waiting refl
    where
      n : Next s x r
      n = able_next s g x r c

      go : (w : Bool) → (place_at x r).waiting ≡ w → w || only_half (op s (next_op s x r)) ≡ false
      go false h = ap (λ (z : ℕ). only_half (op s z)) (sym e) ∙ send_not_only_half (op s k) sends
      go true h =
          absurd
          (out
          (subst (λ (z : ℕ). Entered x z) (sym e)
          (X.placed.entered_if (next_op s x r) n.inside
          (omega (arith, ap (λ (z : ℕ). reach s x z) n.ranked, ap (λ (w : Bool). next_op s x r + cond w 1 0) h)))))

  -- the two messages do not both fit one receive or probe w
  no_race_in : (k m w : ℕ) → k ≡ next_op s x p → m ≡ next_op s x q → is_send (op s k) ≡ true → is_send (op s m) ≡ true →
      selects (op s w) ≡ true →
      fits_with s k w ≡ true → fits_with s m w ≡ true → (Entered x k → ⊥) → (Entered x m → ⊥) → ⊥
  unfolding is_any_source
  no_race_in k m w ek em sk sm rr fk fm out gone = go (fit_source s k w fk) (fit_source s m w fm)
    where
      rank_k : rank_of s k ≡ p
      rank_k = ap (λ (z : ℕ). rank_of s z) ek ∙ (able_next s g x p a).ranked

      rank_m : rank_of s m ≡ q
      rank_m = ap (λ (z : ℕ). rank_of s z) em ∙ (able_next s g x q b).ranked

      race : (op s w).peer ≡ any → ⊥
      race e =
          H.no_race w (in_no_half p k a ek sk out) (in_no_half q m b em sm gone) (ap (λ (z : ℕ). is_send (op s z)) (sym ek) ∙ sk)
          (ap (λ (z : ℕ). is_send (op s z)) (sym em) ∙ sm) (and_both rr (eq-eqb (op s w).peer any e))
          (ap (λ (z : ℕ). fits_with s z w) (sym ek) ∙ fk) (ap (λ (z : ℕ). fits_with s z w) (sym em) ∙ fm)

      go : ((op s w).peer ≡ any) ⊎ ((op s w).peer ≡ rank_of s k) → ((op s w).peer ≡ any) ⊎ ((op s w).peer ≡ rank_of s m) → ⊥
      go (inl e) _ = race e
      go (inr e) (inl f) = race f
      go (inr e) (inr f) = d (sym rank_k ∙ sym e ∙ f ∙ rank_m)

  no_races : (k m w : ℕ) → is_send (op s k) ≡ true → is_send (op s m) ≡ true → selects (op s w) ≡ true →
      fits_with s k w ≡ true → fits_with s m w ≡ true →
      Entered (step s q (step s p x)) k → Entered (step s q (step s p x)) m → (Entered x k → ⊥) → (Entered x m → ⊥) → k ≢ m → ⊥
  no_races k m w sk sm rr fk fm hk hm out gone c = go (entered_since k hk out) (entered_since m hm gone)
    where
      go : (k ≡ next_op s x p) ⊎ (k ≡ next_op s x q) → (m ≡ next_op s x p) ⊎ (m ≡ next_op s x q) → ⊥
      go (inl e) (inl f) = c (e ∙ sym f)
      go (inl e) (inr f) = no_race_in k m w e f sk sm rr fk fm out gone
      go (inr e) (inl f) = no_race_in m k w f e sm sk rr fm fk gone out
      go (inr e) (inr f) = c (e ∙ sym f)

  -- the next operations of the two boards are two
  next_apart : next_op s x p ≢ next_op s x q
  next_apart e = d (sym (able_next s g x p a).ranked ∙ ap (λ (z : ℕ). rank_of s z) e ∙ (able_next s g x q b).ranked)

  -- QUERIES tell the same in both orders
  -- in a step of board r from z, where query k is r's next operation: what it tells
  told_by_step : {z : Job} {Z : Reached s lent z} (r k : ℕ) → Extended Z (step s r z) (next_op s z r) → k ≡ next_op s z r →
      tells_completion (op s k) ≡ true → Entered (step s r z) k → (Entered z k → ⊥) →
      entry_at (step s r z) k ≡ query_row (complete_if z (waited s k))
  told_by_step {z} r k F e t inn out =
      ap (λ (v : ℕ). entry_at (step s r z) v) e
      ∙ F.telling.row (ap (λ (v : ℕ). tells (op s v)) (sym e) ∙ completion_tells (op s k) t) (omega (arith, state_name (step s r z) e))
      (λ h. out (omega (arith, state_name z e)))
      ∙ ap (λ (v : ℕ). half_row s z v) (sym e) ∙ query_row_is s z k t

  swap_queries : (on : (k : ℕ) → Entered (step s q (step s p x)) k → Entered (step s p (step s q x)) k) →
      (back : (k : ℕ) → Entered (step s p (step s q x)) k → Entered (step s q (step s p x)) k) → (k : ℕ) → tells_completion (op s k) ≡ true →
      entry_at (step s p (step s q x)) k ≡ entry_at (step s q (step s p x)) k
  unfolding TellsSame
  swap_queries on back k t = go (dec_le 1 (state_at x k)) (dec_le 1 (state_at (step s q (step s p x)) k))
    where
      told : tells (op s k) ≡ true
      told = completion_tells (op s k) t

      go : Dec (Entered x k) → Dec (Entered (step s q (step s p x)) k) →
          entry_at (step s p (step s q x)) k ≡ entry_at (step s q (step s p x)) k
      go (yes h) _ =
          EQP.telling.kept k told (EQ.on k h) ∙ EQ.telling.kept k told h
          ∙ sym (EPQ.telling.kept k told (EP.on k h) ∙ EP.telling.kept k told h)
      go (no out) (no not_now) =
          EQP.reached.shaped.row_new k (fresh (dec_le 1 (state_at (step s p (step s q x)) k)))
          ∙ sym (EPQ.reached.shaped.row_new k (omega arith))
        where
          fresh : Dec (Entered (step s p (step s q x)) k) → state_at (step s p (step s q x)) k ≡ 0
          fresh (yes h) = absurd (not_now (back k h))
          fresh (no c) = omega arith
      go (no out) (yes inn) = new (entered_since k inn out)
        where
          -- p's step, first or second
          of_p : k ≡ next_op s x p → entry_at (step s p (step s q x)) k ≡ entry_at (step s q (step s p x)) k
          of_p e =
              let not_q : k ≢ next_op s x q = λ f. next_apart (sym e ∙ f) in
              let here : k ≡ next_op s (step s q x) p = e ∙ position_next s x (step s q x) p second_p in
              let first_in : Entered (step s p x) k = EPQ.back k (λ f. not_q (f ∙ sym (position_next s x (step s p x) q second_q))) inn in
              told_by_step p k EQP here t (on k inn) (λ h. out (EQ.back k not_q h))
              ∙ ap (λ (z : Bool). query_row z)
              (ap (λ (z : ℕ). complete_if (step s q x) (waited s z)) e
              ∙ H.tells_same (ap (λ (z : ℕ). tells_completion (op s z)) (sym e) ∙ t)
              ∙ ap (λ (z : ℕ). complete_if x (waited s z)) (sym e))
              ∙ sym (EPQ.telling.kept k told first_in ∙ told_by_step p k EP e t first_in out)

          of_q : k ≡ next_op s x q → entry_at (step s p (step s q x)) k ≡ entry_at (step s q (step s p x)) k
          of_q e =
              let not_p : k ≢ next_op s x p = λ f. next_apart (sym f ∙ e) in
              let here : k ≡ next_op s (step s p x) q = e ∙ position_next s x (step s p x) q second_q in
              let first_in : Entered (step s q x) k = EQP.back k (λ f. not_p (f ∙ sym (position_next s x (step s q x) p second_p))) (on k inn) in
              EQP.telling.kept k told first_in ∙ told_by_step q k EQ e t first_in out
              ∙ sym (told_by_step q k EPQ here t inn (λ h. out (EP.back k not_p h))
              ∙ ap (λ (z : Bool). query_row z)
              (ap (λ (z : ℕ). complete_if (step s p x) (waited s z)) e
              ∙ H.tells_same_swapped (ap (λ (z : ℕ). tells_completion (op s z)) (sym e) ∙ t)
              ∙ ap (λ (z : ℕ). complete_if x (waited s z)) (sym e)))

          new : (k ≡ next_op s x p) ⊎ (k ≡ next_op s x q) → entry_at (step s p (step s q x)) k ≡ entry_at (step s q (step s p x)) k
          new (inl e) = of_p e
          new (inr e) = of_q e

  -- STANDARD SENDS are buffered in both orders or in neither
  -- board r's send k, which is its next one, is kept by the job and by the job after board j's step
  same_kept : (r j k : ℕ) → able s x r ≡ true → KeepsSame s x r j → k ≡ next_op s x r → (Entered x k → ⊥) →
      is_kept s (rank_of s k) k x ≡ is_kept s (rank_of s k) k (step s j x)
  unfolding KeepsSame
  same_kept r j k c same e out =
      subst (λ (z : ℕ). is_kept s z k x ≡ is_kept s z k (step s j x))
      (sym (ap (λ (z : ℕ). rank_of s z) e ∙ (able_next s g x r c).ranked))
      (is_kept_by s r k x (step s j x)
      (λ t. subst (λ (z : ℕ). fits_room s r z x ≡ fits_room s r z (step s j x)) (sym e)
      (sym (same (in_no_half r k c e (standard_send (op s k) t) out) (ap (λ (z : ℕ). is_standard (op s z)) (sym e) ∙ t)))))

  -- after both orders the boards stand at the same places
  pub swap_same_positions : SamePositions EPQ.reached EQP.reached
  swap_same_positions =
      record {
        stop = H.goes_on ∙ sym H.goes_on_swapped;
        steps =
            step_counted g EP.reached q able_q ∙ ap suc (step_counted g X p a)
            ∙ sym (step_counted g EQ.reached p able_p ∙ ap suc (step_counted g X q b));
        places = λ r l. swap_places r;
        order =
            arrivals_order grown_pq grown_qp (λ k h. h) (λ k h. h) back same
            (λ k m w sk sm rr fk fm hk hm. no_races k m w sk sm rr fk fm (back k hk) hm);
        order_back =
            arrivals_order grown_qp grown_pq (λ k h. h) (λ k h. h) on same
            (λ k m w sk sm rr fk fm hk hm. no_races k m w sk sm rr fk fm hk (back m hm));
        queries = swap_queries on back;
        kept = exchange_kept EP EPQ EQ EQP next_p next_q next_apart on same_p same_q;
        kept_back = exchange_kept EQ EQP EP EPQ next_q next_p (λ e. next_apart (sym e)) back same_q same_p;
      }
    where
      grown_pq : ArrivalsGrew X EPQ.reached
      grown_pq = arrivals_trans (arrivals_step EP) (arrivals_step EPQ)

      grown_qp : ArrivalsGrew X EQP.reached
      grown_qp = arrivals_trans (arrivals_step EQ) (arrivals_step EQP)

      same : SameOrder s X.arrival x X.arrival x
      same k m w sk sm rr fk fm hm hk l = (hk, l)

      on : (k : ℕ) → Entered (step s q (step s p x)) k → Entered (step s p (step s q x)) k
      on = places_entered g EPQ.reached.placed EQP.reached.placed (λ r l. omega (arith, swap_places r))

      next_p : next_op s x p ≡ next_op s (step s q x) p
      next_p = position_next s x (step s q x) p second_p

      next_q : next_op s x q ≡ next_op s (step s p x) q
      next_q = position_next s x (step s p x) q second_q

      same_p : (Entered x (next_op s x p) → ⊥) →
          is_kept s (rank_of s (next_op s x p)) (next_op s x p) x ≡ is_kept s (rank_of s (next_op s x p)) (next_op s x p) (step s q x)
      same_p = same_kept p q (next_op s x p) a H.keeps_same refl

      same_q : (Entered x (next_op s x q) → ⊥) →
          is_kept s (rank_of s (next_op s x q)) (next_op s x q) x ≡ is_kept s (rank_of s (next_op s x q)) (next_op s x q) (step s p x)
      same_q = same_kept q p (next_op s x q) b H.keeps_same_swapped refl

      back : (k : ℕ) → Entered (step s p (step s q x)) k → Entered (step s q (step s p x)) k
      back = places_entered g EQP.reached.placed EPQ.reached.placed (λ r l. omega (arith, swap_places r))
