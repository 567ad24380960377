-- Jobs whose boards stand at the same places, in which messages that one receive could take, or one probe tell, came in the same
-- order, in which queries told the same and the same is buffered: the same rows, use and ables; a step of one board keeps them so.
--   SamePositions                                      the relation
--   positions_rows, positions_in_use, positions_able    what is equal in both; positions_equal: all but peaks and memory
--   positions_step                                      one step
-- Assumes nothing.
use Rattle.std.specs.Prelude.{◌≡◌, ◌≢◌, Bool, true, ◌&&◌, List, ℕ, suc, ◌+◌, ◌≤◌, ◌<◌, ltb, length}
use Rattle.std.proofs.Math.Path.{refl, sym, ap}
use Rattle.std.proofs.Common.{subst, ◌∙◌, arith}
use Rattle.std.proofs.Math.Option.{Option, none, some}
use Rattle.std.proofs.Math.Decide.{ℕ_discrete, dec_le}
use Rattle.std.proofs.Math.Dec.{leb}
use Rattle.std.proofs.Math.Seq.{ext_get_or}
use Rattle.rules.specs.Sheet.{Sheet, op, board, P_of, N_of, rank_of, inbox_total, is_standard, tells_completion, tells}
use Rattle.rules.specs.Job.{Job, Stop, Store, in_attached, in_room, in_use_at, bare_entry, entry_at}
use Rattle.rules.specs.Step.{able, step, next_op, is_none, first_message, first_receive, fits_with, fits_beside, fits_buffer, fits_room, size_of, charge_of, complete}
use Rattle.rules.specs.Step.{complete_if}
use Rattle.rules.specs.Step.{waited, query_row, half_row}
use Rattle.invariant.specs.sheet.Valid.{Valid}
use Rattle.invariant.specs.deliveries.Laws.{DeliveryLaws}
use Rattle.laws.specs.Sums.{sum_same}
use Rattle.laws.specs.WaitingLists.{holds_found}
use Rattle.invariant.specs.sheet.Kinds.{completion_tells}
use Rattle.invariant.specs.Invariant.{Entered, state_at, charge_in, is_kept, Reached, Extended}
use Rattle.invariant.specs.matching.Monotone.{SameOrder}
use Rattle.invariant.specs.matching.RowChanges.{state_same, state_name}
use Rattle.invariant.specs.preserve.Charges.{charge_same}
use Rattle.invariant.specs.preserve.WaitingLists.{pending_message_same, pending_receive_same}
use Rattle.invariant.specs.preserve.Told.{query_row_is}
use Rattle.invariant.specs.step.Places.{Moved, able_next}
use Rattle.invariant.specs.preserve.Step.{step_sound}
use Rattle.promises.proofs.compare.PeaksAside.{EqualButPeaks, equal_able}
use Rattle.promises.proofs.compare.ArrivalGrowth.{arrivals_step, arrivals_order}
use Rattle.invariant.specs.step.Position.{position, position_finished, position_waiting}
use Rattle.promises.proofs.compare.Behind.{Behind, places_entered, behind_entered}
use Rattle.promises.proofs.compare.BothBehind.{both_behind_rows}
use Rattle.promises.proofs.compare.NewlyKept.{is_kept_by, step_keeps}
use Rattle.promises.proofs.compare.AfterStep.{stop_after, step_stop, After, continues, stops_job, step_after, step_counted, finishing}
use Rattle.promises.proofs.compare.AfterStep.{moved_position_other, places_position, position_next, position_half, position_moved}

-- the boards of x and y stand at the same places, messages that one receive could take, or one probe tell, came in the same
-- order, queries told the same, and what is buffered in one is buffered or matched in the other
pub record SamePositions {s : Sheet} {i j : List ℕ} {x y : Job} (X : Reached s i x) (Y : Reached s j y) : Type 0 where
  pub stop : x.stop ≡ y.stop
  pub steps : x.steps ≡ y.steps
  pub places : (r : ℕ) → r < P_of s → position x r ≡ position y r
  pub order : SameOrder s X.arrival x Y.arrival y
  pub order_back : SameOrder s Y.arrival y X.arrival x
  pub queries : (k : ℕ) → tells_completion (op s k) ≡ true → entry_at y k ≡ entry_at x k
  pub kept : (k : ℕ) → state_at x k ≡ 2 → 2 ≤ state_at y k
  pub kept_back : (k : ℕ) → state_at y k ≡ 2 → 2 ≤ state_at x k

module _ {s : Sheet} (g : Valid s) {i j : List ℕ} {x y : Job} {X : Reached s i x} {Y : Reached s j y} (K : SamePositions X Y) where
  pub positions_behind : Behind X Y
  positions_behind =
      record {
        places = λ r l. omega (arith, K.places r l);
        order = K.order;
        kept = K.kept;
      }

  pub positions_ahead : Behind Y X
  positions_ahead =
      record {
        places = λ r l. omega (arith, K.places r l);
        order = K.order_back;
        kept = K.kept_back;
      }

  pub positions_rows : (k : ℕ) → entry_at y k ≡ entry_at x k
  positions_rows = both_behind_rows g X Y positions_behind positions_ahead K.queries

  pub positions_in_use : (w : Store) (r : ℕ) → r < P_of s → in_use_at w x r ≡ in_use_at w y r
  positions_in_use w r l =
      X.in_use_sum w r l
      ∙ sum_same (N_of s) (charge_in w s x r) (charge_in w s y r) (λ k h. charge_same w s x y r k (state_same (positions_rows k)))
      ∙ sym (Y.in_use_sum w r l)

  -- a pending message fits an operation in both, or in neither
  same_message : (k : ℕ) → is_none (first_message s k x.messages) ≡ is_none (first_message s k y.messages)
  unfolding first_message
  same_message k =
      holds_found (λ m. fits_with s m k) X.messages_held Y.messages_held
      (λ v. pending_message_same y (state_same (positions_rows v))) (λ v. pending_message_same x (sym (state_same (positions_rows v))))

  -- rows, stop, steps and places are equal, peaks aside
  pub positions_equal : EqualButPeaks s x y
  unfolding entry_at
  positions_equal =
      record {
        entries =
            ext_get_or (bare_entry 0) x.entries y.entries (X.placed.entries_long ∙ sym Y.placed.entries_long)
            (λ k l. sym (positions_rows k));
        stop = K.stop;
        steps = K.steps;
        finished = λ r l. position_finished x y r (K.places r l);
        waiting = λ r l. position_waiting x y r (K.places r l);
        in_use = positions_in_use;
        found = same_message;
      }

  pub positions_able : (r : ℕ) → able s x r ≡ able s y r
  positions_able = equal_able s x y positions_equal

  -- THE NEXT STEP of board r
  module _ (r : ℕ) (l : r < P_of s) where
    pub same_next : next_op s x r ≡ next_op s y r
    same_next = position_next s x y r (K.places r l)

    -- what fits a store of board r fits it in both
    same_beside : (w : Store) (k : ℕ) → fits_beside w s r k x ≡ fits_beside w s r k y
    unfolding fits_beside
    same_beside w k = ap (λ (n : ℕ). leb (n + charge_of w (op s k)) (size_of w (board s r))) (positions_in_use w r l)

    same_room : fits_buffer s r (next_op s x r) x ≡ fits_buffer s r (next_op s y r) y
    unfolding fits_buffer
    same_room = same_beside in_attached (next_op s x r) ∙ ap (λ (k : ℕ). fits_beside in_attached s r k y) same_next

    same_kept : (k : ℕ) → is_kept s r k x ≡ is_kept s r k y
    unfolding fits_room
    same_kept k =
        is_kept_by s r k x y
        (λ e. ap (λ (b : Bool). is_standard (op s k) && (ltb 0 (board s r).room && b)) (same_beside in_room k))

  -- a posted receive that fits is pending in both
  same_found : (m : ℕ) → is_none (first_receive s m x.receives) ≡ is_none (first_receive s m y.receives)
  unfolding first_receive
  same_found m =
      holds_found (λ q. fits_with s m q) X.receives_held Y.receives_held
      (λ v. pending_receive_same y (state_same (positions_rows v))) (λ v. pending_receive_same x (sym (state_same (positions_rows v))))

  pub positions_stop : (r : ℕ) → r < P_of s → (step s r x).stop ≡ (step s r y).stop
  unfolding stop_after
  positions_stop r l =
      step_stop s r x
      ∙ cc (same_next r l, position_half s x y r (K.places r l), same_room r l, same_found (next_op s y r), K.stop)
      ∙ sym (step_stop s r y)

  -- ONE STEP, where there is room for the inboxes of both
  module _ (A : DeliveryLaws s) (room_x : inbox_total s ≤ length i) (room_y : inbox_total s ≤ length j) (r : ℕ) (a : able s x r ≡ true)
      (b : able s y r ≡ true) where
    abbrev EX : Extended X (step s r x) (next_op s x r)
    EX = step_sound g A room_x X r a

    abbrev EY : Extended Y (step s r y) (next_op s y r)
    EY = step_sound g A room_y Y r b

    small : r < P_of s
    small = (able_next s g x r a).rank_small

    step_places : (q : ℕ) → q < P_of s → position (step s r x) q ≡ position (step s r y) q
    step_places q l = go (step_after g X r a) (step_after g Y r b)
      where
        moved : Moved x (step s r x) r (finishing s x r) → Moved y (step s r y) r (finishing s y r) → Dec (q ≡ r) →
            position (step s r x) q ≡ position (step s r y) q
        moved m n (yes e) =
            subst (λ (z : ℕ). position (step s r x) z ≡ position (step s r y) z) (sym e) (position_moved s x y r (K.places r small) m n)
        moved m n (no d) = moved_position_other m q d ∙ K.places q l ∙ sym (moved_position_other n q d)

        -- one cannot stop where the other goes on
        apart : {o : Option Stop} {t : Stop} → o ≡ none → o ≡ some t → ⊥
        apart p q = let z : ◌≡◌ {A = ℕ} 0 1 = cc in omega arith

        go : After s x (step s r x) r → After s y (step s r y) r → position (step s r x) q ≡ position (step s r y) q
        go (continues p m) (continues o n) = moved m n (ℕ_discrete q r)
        go (continues p m) (stops_job t o e k) = absurd (apart p (positions_stop r small ∙ o))
        go (stops_job t p e k) (continues o n) = absurd (apart o (sym (positions_stop r small) ∙ p))
        go (stops_job t p e k) (stops_job u o f n) =
            places_position x (step s r x) e q ∙ K.places q l
            ∙ sym (places_position y (step s r y) f q)

    step_steps : (step s r x).steps ≡ (step s r y).steps
    step_steps = counted X r a ∙ ap suc K.steps ∙ sym (counted Y r b)
      where
        counted : {l : List ℕ} {z : Job} (Z : Reached s l z) (r : ℕ) → able s z r ≡ true → (step s r z).steps ≡ suc z.steps
        counted Z r c = step_counted g Z r c

    entered_on : (k : ℕ) → Entered (step s r x) k → Entered (step s r y) k
    entered_on = places_entered g EX.reached.placed EY.reached.placed (λ q l. omega (arith, step_places q l))

    entered_back : (k : ℕ) → Entered (step s r y) k → Entered (step s r x) k
    entered_back = places_entered g EY.reached.placed EX.reached.placed (λ q l. omega (arith, step_places q l))

    -- only one operation entered
    one_entered : (k m : ℕ) → Entered (step s r x) k → Entered (step s r x) m → (Entered x k → ⊥) → (Entered x m → ⊥) → k ≢ m → ⊥
    one_entered k m hk hm out gone d = go (ℕ_discrete k (next_op s x r)) (ℕ_discrete m (next_op s x r))
      where
        go : Dec (k ≡ next_op s x r) → Dec (m ≡ next_op s x r) → ⊥
        go (no c) _ = out (EX.back k c hk)
        go (yes c) (no e) = gone (EX.back m e hm)
        go (yes c) (yes e) = d (c ∙ sym e)

    -- what holds the slot of query k is complete in both, or in neither
    same_complete : (o : Option ℕ) → complete_if x o ≡ complete_if y o
    unfolding complete_if complete
    same_complete none = refl
    same_complete (some v) = ap (λ (n : ℕ). leb 2 n) (sym (state_same (positions_rows v)))

    -- a query that this step entered told the same; another keeps its row, or is entered in neither
    step_queries : (k : ℕ) → tells_completion (op s k) ≡ true → entry_at (step s r y) k ≡ entry_at (step s r x) k
    step_queries k t = go (dec_le 1 (state_at x k)) (dec_le 1 (state_at (step s r x) k))
      where
        told : tells (op s k) ≡ true
        told = completion_tells (op s k) t

        not_there : (Entered x k → ⊥) → Entered y k → ⊥
        not_there out h = out (behind_entered g Y X positions_ahead k h)

        -- the row of a query is what the rule gives
        answered : {l : List ℕ} {z : Job} {Z : Reached s l z} {n : ℕ} → Extended Z (step s r z) n → Entered (step s r z) k → (Entered z k → ⊥) →
            entry_at (step s r z) k ≡ query_row (complete_if z (waited s k))
        answered {l} {z} {Z} {n} E inn out = at (ℕ_discrete k n)
          where
            at : Dec (k ≡ n) → entry_at (step s r z) k ≡ query_row (complete_if z (waited s k))
            at (no d) = absurd (out (E.back k d inn))
            at (yes e) =
                ap (λ (v : ℕ). entry_at (step s r z) v) e
                ∙ E.telling.row (ap (λ (v : ℕ). tells (op s v)) (sym e) ∙ told) (omega (arith, state_name (step s r z) e))
                (λ h. out (omega (arith, state_name z e)))
                ∙ ap (λ (v : ℕ). half_row s z v) (sym e) ∙ query_row_is s z k t

        go : Dec (Entered x k) → Dec (Entered (step s r x) k) → entry_at (step s r y) k ≡ entry_at (step s r x) k
        go (yes h) _ =
            EY.telling.kept k told (behind_entered g X Y positions_behind k h) ∙ K.queries k t ∙ sym (EX.telling.kept k told h)
        go (no out) (yes inn) =
            answered EY (entered_on k inn) (not_there out) ∙ ap (λ (b : Bool). query_row b) (sym (same_complete (waited s k)))
            ∙ sym (answered EX inn out)
        go (no out) (no not_now) =
            EY.reached.shaped.row_new k (omega (arith, fresh (dec_le 1 (state_at (step s r y) k))))
            ∙ sym (EX.reached.shaped.row_new k (omega arith))
          where
            fresh : Dec (Entered (step s r y) k) → state_at (step s r y) k ≡ 0
            fresh (yes h) = absurd (not_now (entered_back k h))
            fresh (no d) = omega arith

    -- the operation that the step enters is kept in both jobs or in neither
    kept_both : is_kept s (rank_of s (next_op s x r)) (next_op s x r) x ≡ is_kept s (rank_of s (next_op s x r)) (next_op s x r) y
    kept_both =
        subst (λ (q : ℕ). is_kept s q (next_op s x r) x ≡ is_kept s q (next_op s x r) y) (sym (able_next s g x r a).ranked)
        (same_kept r small (next_op s x r))

    kept_both_back : is_kept s (rank_of s (next_op s y r)) (next_op s y r) y ≡ is_kept s (rank_of s (next_op s y r)) (next_op s y r) x
    kept_both_back = subst (λ (k : ℕ). is_kept s (rank_of s k) k y ≡ is_kept s (rank_of s k) k x) (same_next r small) (sym kept_both)

    -- a step of one board in both keeps them so
    pub positions_step : SamePositions EX.reached EY.reached
    positions_step =
        record {
          stop = positions_stop r small;
          steps = step_steps;
          places = step_places;
          order =
              arrivals_order (arrivals_step EX) (arrivals_step EY) (behind_entered g X Y positions_behind)
              (behind_entered g Y X positions_ahead) entered_back K.order
              (λ k m q sk sm rq fk fm hk hm out gone d. one_entered k m (entered_back k hk) hm out gone d);
          order_back =
              arrivals_order (arrivals_step EY) (arrivals_step EX) (behind_entered g Y X positions_ahead)
              (behind_entered g X Y positions_behind) entered_on K.order_back
              (λ k m q sk sm rq fk fm hk hm out gone d.
              one_entered k m hk (entered_back m hm) (λ h. out (behind_entered g X Y positions_behind k h))
              (λ h. gone (behind_entered g X Y positions_behind m h)) d);
          queries = step_queries;
          kept = step_keeps EX EY (same_next r small) K.kept (behind_entered g Y X positions_ahead) entered_on kept_both;
          kept_back =
              step_keeps EY EX (sym (same_next r small)) K.kept_back (behind_entered g X Y positions_behind) entered_back
              kept_both_back;
        }
