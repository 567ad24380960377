-- An able step keeps the whole invariant.
--   Parts               what is to be shown of a step that goes on
--   extended_ongoing    the rest follows from where the boards stand
--   sound_half ..       the parts, case by case of `Outcome`
--   step_sound          the law
-- Assumes nothing.
use Rattle.std.specs.Prelude.{◌≡◌, ◌⊎◌, ◌≢◌, true, false, ◌&&◌, cond, ℕ, suc, ◌+◌, ◌-◌, ◌≤◌, ◌<◌, length}
use Rattle.std.proofs.Math.Path.{refl, sym, ap, subst}
use Rattle.std.proofs.Common.{◌∙◌, inl, inr, arith, eqb-true, leb-true}
use Rattle.std.proofs.Math.Bool.{Bool}
use mathlib.Core.List.{List}
use Rattle.std.proofs.Math.Option.{Option, none}
use Rattle.std.proofs.Math.Decide.{ℕ_discrete}
use Rattle.std.proofs.Math.Dec.{eqb}
use Rattle.rules.specs.Sheet.{Sheet, op, board, P_of, N_of, rank_of, inbox_total, is_send, is_receive, only_half, is_standard, is_buffered, no_half, tells}
use Rattle.rules.specs.Job.{Job, Stop, Store, in_use_at, bare_entry, entry_at, place_at}
use Rattle.rules.specs.Step.{able, step, next_op, in_waiting_half, half_ends, half_row, first_message, first_receive, fits_with, delivered, is_none, fits_beside, kept_in, size_of, charge_of}
use Rattle.laws.specs.Tests.{not_so, or_right, true_not_false}
use Rattle.invariant.specs.sheet.Valid.{Valid}
use Rattle.invariant.specs.deliveries.Laws.{DeliveryLaws}
use Rattle.invariant.specs.sheet.Kinds.{send_not_only_half, receive_not_only_half, receive_not_send, send_not_receive, standard_send, receive_not_standard, receive_not_buffered, send_not_tells, receive_not_tells}
use Rattle.laws.specs.Sums.{sum_below, sum_same}
use Rattle.laws.specs.WaitingLists.{Holds, first_by_none, first_by_some}
use Rattle.invariant.specs.Invariant.{Entered, state_at, unmatched_state, is_kept, Unmatched, steps_done, charge_in, replayed, PendingMessage, PendingReceive}
use Rattle.invariant.specs.Invariant.{Stable, Arrived, Placed, Shaped, Telling, PostedBefore, ArrivedBefore, Reached, Extended}
use Rattle.invariant.specs.matching.RowChanges.{Grows, Enters, Matches, state_same, state_name, enters_grows, matches_grows, matches_message_state, matches_receive_state}
use Rattle.invariant.specs.matching.Stable.{Later, First, enter_stable, match_stable}
use Rattle.invariant.specs.step.Places.{Next, next_fresh, moved_peak, able_next}
use Rattle.invariant.specs.step.BufferUse.{Use, use_kept, use_charged, use_released}
use Rattle.invariant.specs.step.Cases.{EndsHalf, EndsOnlyHalf, Posts, Pends, MatchStep, Finds, Cause, Outcome, ends_half, ends_only_half, posts, pends, matches, stops}
use Rattle.invariant.specs.step.CasesHold.{outcome}
use Rattle.invariant.specs.preserve.Kept.{keeps_kept, is_kept_receive}
use Rattle.invariant.specs.preserve.Places.{Ongoing, placed_step}
use Rattle.invariant.specs.preserve.StepCount.{steps_step}
use Rattle.invariant.specs.preserve.ArrivalOrder.{arrival_with, arrival_other, arrives_later, arrived_step}
use Rattle.invariant.specs.preserve.Rows.{shaped_same, shaped_enters, shaped_matches}
use Rattle.invariant.specs.preserve.WaitingLists.{queue_message, queue_message_other, queue_receive, queue_receive_other, queue_message_match, queue_receive_match}
use Rattle.invariant.specs.preserve.Charges.{charge_same, charging_other, charging_enters, charging_matches}
use Rattle.invariant.specs.matching.UnmatchedState.{unmatched_plain, receive_state, unmatched_only_half}
use Rattle.invariant.specs.preserve.Memory.{replayed_length, replayed_rows, replayed_enters, replayed_matches}
use Rattle.invariant.specs.preserve.SameRows.{SameRows, rows_same, stable_same, arrived_same, messages_same, receives_same}
use Rattle.invariant.specs.preserve.Told.{plain_row_is, telling_same, telling_enters, matches_tells_none, telling_matches, told_step}
use Rattle.invariant.specs.matching.Earliest.{first_for_receive, first_for_message}
use Rattle.invariant.specs.preserve.Stop.{stops_extended}
use Rattle.invariant.specs.preserve.OngoingSteps.{ongoing_initiating, ongoing_only_half, ongoing_half}

-- what is to be shown of a step that goes on and takes x to y, where `arrival` is the order of arrival in y
record Parts {s : Sheet} {lent : List ℕ} {x : Job} (R : Reached s lent x) (y : Job) (i : ℕ) (arrival : ℕ → ℕ) : Type 0 where
  old : (j : ℕ) → Entered x j → arrival j ≡ R.arrival j
  new : Entered y i → (Entered x i → ⊥) → (j : ℕ) → Entered x j → arrival j < arrival i
  stable : Stable s arrival y
  arrived : Arrived s arrival y
  shaped : Shaped s y
  same_state : (j : ℕ) → Entered x j → state_at y j ≢ 3 → state_at y j ≡ state_at x j
  new_state : Entered y i → (Entered x i → ⊥) → state_at y i ≢ 3 →
      state_at y i ≡ unmatched_state (is_kept s (rank_of s i) i x) (op s i)
  telling : Telling s R.arrival x arrival y i
  tells_ends : tells (op s i) ≡ true → Entered y i → (Entered x i → ⊥) → half_ends s x i ≡ true
  messages : Holds (ArrivedBefore arrival) (PendingMessage s y) y.messages
  receives : Holds (PostedBefore s) (PendingReceive s y) y.receives
  in_use_sum : (w : Store) (q : ℕ) → q < P_of s → in_use_at w y q ≡ sum_below (N_of s) (charge_in w s y q)
  fitting : (w : Store) (q : ℕ) → q < P_of s → in_use_at w y q ≤ size_of w (board s q)
  memory : y.memory ≡ replayed s y (N_of s) lent

module _ {s : Sheet} (g : Valid s) (A : DeliveryLaws s) {lent : List ℕ} (room : inbox_total s ≤ length lent) {x : Job}
    (R : Reached s lent x) where
  extended_ongoing : {y : Job} {r : ℕ} {last : Bool} {arrival : ℕ → ℕ} → Ongoing s x y r last → Parts R y (next_op s x r) arrival →
      Extended R y (next_op s x r)
  extended_ongoing {y} {r} {last} {arrival} T parts =
      record {
        reached =
            record {
              arrival = arrival;
              stable = parts.stable;
              arrived = parts.arrived;
              placed = placed;
              shaped = parts.shaped;
              told = told_step R.told parts.telling T.advances.back T.advances.complete_on parts.tells_ends;
              messages_held = parts.messages;
              receives_held = parts.receives;
              in_use_sum = parts.in_use_sum;
              in_use_peak = λ w q. omega (arith, moved_peak T.moved w q);
              peak_size = λ w q l. omega (arith, moved_peak T.moved w q, parts.fitting w q l, R.peak_size w q l);
              memory_replayed = parts.memory;
              memory_long =
                  ap (λ (z : List ℕ). length z) parts.memory
                  ∙ replayed_length g A parts.stable placed parts.shaped (N_of s) lent room;
              steps_sum =
                  T.moved.steps_more ∙ ap suc R.steps_sum
                  ∙ ap (λ (o : Option Stop). suc (sum_below (N_of s) (steps_done s x) + cond (is_none o) 0 1)) T.next.going
                  ∙ omega (arith, steps_step g R.placed T, ap {B = ℕ} (λ (o : Option Stop). cond (is_none o) 0 1) going);
              stop_at = λ t e. absurd (let z : ◌≡◌ {A = ℕ} 0 1 = cc in omega arith);
            };
        on = T.advances.on;
        back = T.advances.back;
        complete_on = T.advances.complete_on;
        same_state = parts.same_state;
        new_state = parts.new_state;
        old = parts.old;
        new = parts.new;
        telling = parts.telling;
      }
    where
      placed : Placed s y
      placed = placed_step g R.placed T

      going : y.stop ≡ none
      going = T.moved.stop_same ∙ T.next.going

  -- where no more is in use than was, the store holds it
  fitting_less : (y : Job) → ((w : Store) (q : ℕ) → in_use_at w y q ≤ in_use_at w x q) → (w : Store) (q : ℕ) → q < P_of s →
      in_use_at w y q ≤ size_of w (board s q)
  fitting_less y less w q l = omega (arith, less w q, R.in_use_peak w q, R.peak_size w q l)

  module _ (y : Job) (r : ℕ) (n : Next s x r) where
    abbrev i : ℕ
    i = next_op s x r

    abbrev now : ℕ → ℕ
    now = arrival_with R.arrival i x.steps

    arrival_old : Grows x y i → (j : ℕ) → Entered x j → now j ≡ R.arrival j
    arrival_old G j h = arrival_other R.arrival i x.steps j (λ e. omega (arith, G.fresh, state_name x e))

    messages_are : {arrival : ℕ → ℕ} {l : List ℕ} → y.messages ≡ l → Holds (ArrivedBefore arrival) (PendingMessage s y) l →
        Holds (ArrivedBefore arrival) (PendingMessage s y) y.messages
    messages_are {arrival} e h = subst (λ (l : List ℕ). Holds (ArrivedBefore arrival) (PendingMessage s y) l) (sym e) h

    receives_are : {l : List ℕ} → y.receives ≡ l → Holds (PostedBefore s) (PendingReceive s y) l →
        Holds (PostedBefore s) (PendingReceive s y) y.receives
    receives_are e h = subst (λ (l : List ℕ). Holds (PostedBefore s) (PendingReceive s y) l) (sym e) h

    -- A WAITING HALF ended: nothing entered
    sound_half : EndsHalf s x y r i → Extended R y i
    sound_half h =
        extended_ongoing T
        (record {
          old = λ j e. refl;
          new = λ now_in out j e. absurd (out (omega (arith, state_same (same i))));
          stable = stable_same same R.stable;
          arrived = arrived_same same (omega (arith, h.moved.steps_more)) R.arrived;
          shaped = shaped_same y R.shaped h.entries;
          same_state = λ j there d. state_same (same j);
          new_state = λ now_in out d. absurd (out (omega (arith, state_same (same i))));
          telling = telling_same i same;
          tells_ends = λ t now_in out. absurd (out (omega (arith, state_same (same i))));
          messages = messages_are h.messages (messages_same same R.messages_held);
          receives = receives_are h.receives (receives_same same R.receives_held);
          in_use_sum =
              λ w q l.
              h.uses w q ∙ R.in_use_sum w q l
              ∙ sum_same (N_of s) (charge_in w s x q) (charge_in w s y q) (λ j k. charge_same w s x y q j (state_same (same j)));
          fitting = fitting_less y (λ w q. omega (arith, h.uses w q));
          memory = h.memory ∙ R.memory_replayed ∙ sym (replayed_rows s x y (N_of s) lent same);
        })
      where
        same : SameRows x y
        same = rows_same x y h.entries

        T : Ongoing s x y r true
        T = ongoing_half R.placed n h.moved same h.waiting

    -- AN OPERATION ENTERED unmatched: what kind of operation it is decides the waiting lists and the charge
    module _ {v : ℕ} {last : Bool} (T : Ongoing s x y r last) (E : Enters x y i v) (memory : y.memory ≡ x.memory) where
      later : Later R.arrival now x i
      later = arrives_later R.arrived (enters_grows E)

      sound_enters : Unmatched s i v → v ≡ unmatched_state (is_kept s (rank_of s i) i x) (op s i) → (tells (op s i) ≡ false → entry_at y i ≡ bare_entry v) →
          (tells (op s i) ≡ true → (half_ends s x i ≡ true) × (entry_at y i ≡ half_row s x i)) →
          (is_send (op s i) ≡ true → (q : ℕ) → PendingReceive s x q → fits_with s i q ≡ true → ⊥) →
          (is_receive (op s i) ≡ true → (m : ℕ) → PendingMessage s x m → fits_with s m i ≡ true → ⊥) →
          Holds (ArrivedBefore now) (PendingMessage s y) y.messages →
          Holds (PostedBefore s) (PendingReceive s y) y.receives →
          ((w : Store) (q : ℕ) → q < P_of s → in_use_at w y q ≡ sum_below (N_of s) (charge_in w s y q)) →
          ((w : Store) (q : ℕ) → q < P_of s → in_use_at w y q ≤ size_of w (board s q)) → Extended R y i
      sound_enters state given bare here no_receive no_message messages receives uses fitting =
          extended_ongoing T
          (record {
            old = arrival_old (enters_grows E);
            new = λ now_in out. later.new;
            stable = enter_stable R.stable later E no_receive no_message;
            arrived = arrived_step R.arrived (enters_grows E) R.placed T.moved.steps_more;
            shaped = shaped_enters R.shaped E state bare;
            same_state = λ j there d. state_same (E.other j (λ e. omega (arith, E.fresh, state_name x e)));
            new_state = λ now_in out d. E.state ∙ given;
            telling =
                telling_enters R.stable R.placed R.messages_held later E (λ t. (here t).1);
            tells_ends = λ t now_in out. (here t).0;
            messages = messages;
            receives = receives;
            in_use_sum = uses;
            fitting = fitting;
            memory = memory ∙ R.memory_replayed ∙ sym (replayed_enters s (N_of s) lent E);
          })

      -- one that is not charged
      uses_other : v ≢ 2 → Use x y use_kept → (w : Store) (q : ℕ) → q < P_of s →
          in_use_at w y q ≡ sum_below (N_of s) (charge_in w s y q)
      uses_other d uses w q l = uses w q ∙ R.in_use_sum w q l ∙ charging_other w s E d q

    sound_only_half : EndsOnlyHalf s x y r i → Extended R y i
    unfolding in_waiting_half
    sound_only_half h =
        sound_enters T E h.memory (unmatched_plain s i no_standard (sym (unmatched_only_half s i (is_buffered (op s i)) h.waits)))
        (sym (unmatched_only_half s i (is_kept s (rank_of s i) i x) h.waits)) (λ t. h.row ∙ plain_row_is s x i t)
        (λ t. (n.ends half, h.row)) (λ a. true_not_false a no_send)
        (λ a. true_not_false a no_receive)
        (messages_are h.messages (queue_message_other E (later T E h.memory) no_send R.messages_held))
        (receives_are h.receives (queue_receive_other E no_receive R.receives_held))
        (uses_other T E h.memory (omega arith) h.uses) (fitting_less y (λ w q. omega (arith, h.uses w q)))
      where
        E : Enters x y i 5
        E = h.enters

        T : Ongoing s x y r true
        T = ongoing_only_half n h.moved (enters_grows E) h.not_waiting h.waits

        half : in_waiting_half s x r ≡ true
        half = or_right (place_at x r).waiting (only_half (op s i)) h.waits

        no_send : is_send (op s i) ≡ false
        no_send = not_so (is_send (op s i)) (λ a. true_not_false h.waits (send_not_only_half (op s i) a))

        no_standard : is_standard (op s i) ≡ false
        no_standard = not_so (is_standard (op s i)) (λ a. true_not_false (standard_send (op s i) a) no_send)

        no_receive : is_receive (op s i) ≡ false
        no_receive = not_so (is_receive (op s i)) (λ a. true_not_false h.waits (receive_not_only_half (op s i) a))

    sound_posts : Posts s x y r i → Extended R y i
    unfolding first_message
    sound_posts h =
        sound_enters T E h.memory (unmatched_plain s i (receive_not_standard (op s i) h.is_one) (sym (receive_state s i (receive_not_buffered (op s i) h.is_one) h.is_one)))
        (sym (receive_state s i (is_kept_receive s (rank_of s i) i x h.is_one) h.is_one)) (λ t. h.row)
        (λ t. true_not_false t (receive_not_tells (op s i) h.is_one)) (λ a. true_not_false a no_send)
        (λ a k p f. true_not_false f (first_by_none (λ k. fits_with s k i) x.messages h.none_fits k
        (R.messages_held.whole k p)))
        (messages_are h.messages (queue_message_other E (later T E h.memory) no_send R.messages_held))
        (receives_are h.receives (queue_receive E R.placed h.is_one R.receives_held))
        (uses_other T E h.memory (omega arith) h.uses) (fitting_less y (λ w q. omega (arith, h.uses w q)))
      where
        E : Enters x y i 1
        E = h.enters

        T : Ongoing s x y r (no_half (op s i))
        T = ongoing_initiating n h.moved (enters_grows E) h.not_waiting (receive_not_only_half (op s i) h.is_one)

        no_send : is_send (op s i) ≡ false
        no_send = receive_not_send (op s i) h.is_one

    sound_pends : Pends s x y r i → Extended R y i
    unfolding first_receive use_charged fits_beside
    sound_pends h =
        sound_enters T E h.memory state (ap (λ (q : ℕ). unmatched_state (is_kept s q i x) (op s i)) (sym n.ranked)) (λ t. h.row) (λ t. true_not_false t (send_not_tells (op s i) h.is_one))
        (λ a q p f. true_not_false f (first_by_none (λ q. fits_with s i q) x.receives h.none_fits q
        (R.receives_held.whole q p)))
        (λ a. true_not_false a no_receive)
        (messages_are h.messages (queue_message E (later T E h.memory) h.is_one R.messages_held))
        (receives_are h.receives (queue_receive_other E no_receive R.receives_held))
        (λ w q l.
        h.uses w q
        ∙ charging_enters w s kept r q (in_use_at w x q) E n.inside n.ranked h.is_one (R.in_use_sum w q l))
        (λ w q l.
        subst (λ (k : ℕ). k ≤ size_of w (board s q)) (sym (h.uses w q))
        (fitting w q l (eqb q r) refl (kept_in w (op s i)) refl kept refl))
      where
        kept : Bool
        kept = is_kept s r i x

        E : Enters x y i (unmatched_state kept (op s i))
        E = h.enters

        state : Unmatched s i (unmatched_state kept (op s i))
        state =
            record {
              kept = kept;
              keeps = keeps_kept g R r n (next_fresh s x r R.placed n h.not_waiting);
              is = refl;
            }

        T : Ongoing s x y r (no_half (op s i))
        T = ongoing_initiating n h.moved (enters_grows E) h.not_waiting (send_not_only_half (op s i) h.is_one)

        no_receive : is_receive (op s i) ≡ false
        no_receive = send_not_receive (op s i) h.is_one

        -- the charge of this send fits
        fitting : (w : Store) (q : ℕ) → q < P_of s → (a : Bool) → eqb q r ≡ a → (b : Bool) → kept_in w (op s i) ≡ b →
            (c : Bool) → kept ≡ c →
            cond (a && (b && c)) (in_use_at w x q + charge_of w (op s i)) (in_use_at w x q) ≤ size_of w (board s q)
        fitting w q l true p true o true k =
            subst (λ (z : ℕ). in_use_at w x z + charge_of w (op s i) ≤ size_of w (board s z)) (sym (eqb-true q r p))
            (leb-true (in_use_at w x r + charge_of w (op s i)) (size_of w (board s r)) (h.fits w o k))
        fitting w q l true p true o false k = omega (arith, R.in_use_peak w q, R.peak_size w q l)
        fitting w q l true p false o c k = omega (arith, R.in_use_peak w q, R.peak_size w q l)
        fitting w q l false p b o c k = omega (arith, R.in_use_peak w q, R.peak_size w q l)

    -- A MESSAGE AND A RECEIVE were matched
    sound_matches : (m q : ℕ) → MatchStep s x y r i m q → Extended R y i
    unfolding first_message first_receive use_released
    sound_matches m q h =
        extended_ongoing (ongoing_initiating n h.moved G h.not_waiting (not_wait M.one))
        (record {
          old = arrival_old G;
          new = λ now_in out. L.new;
          stable = match_stable R.stable L M (first h.finds);
          arrived = arrived_step R.arrived G R.placed h.moved.steps_more;
          shaped = shaped_matches R.shaped M;
          same_state = λ j there d. state_same (G.same j (λ e. omega (arith, G.fresh, state_name x e)) d);
          new_state = λ now_in out d. absurd (d (matched_new M.one));
          telling = telling_matches R.stable R.placed L M;
          tells_ends = λ t now_in out. true_not_false t (matches_tells_none M);
          messages = messages_are h.messages (queue_message_match M L R.messages_held);
          receives = receives_are h.receives (queue_receive_match M R.receives_held);
          in_use_sum =
              λ w o l. h.uses w o ∙ charging_matches w o (in_use_at w x o) M R.shaped inside_m (R.in_use_sum w o l);
          fitting =
              fitting_less y
              (λ w o.
              released_less (eqb o (rank_of s m) && (kept_in w (op s m) && eqb (state_at x m) 2)) (in_use_at w x o)
              (charge_of w (op s m)) (h.uses w o));
          memory =
              h.memory ∙ ap (λ (z : List ℕ). delivered s m q z) R.memory_replayed
              ∙ sym (replayed_matches g A R.stable R.placed R.shaped M inside_m inside_q (N_of s) lent inside_q room);
        })
      where
        M : Matches s x y m q i
        M = h.rows

        G : Grows x y i
        G = matches_grows M

        L : Later R.arrival now x i
        L = arrives_later R.arrived G

        matched_new : (i ≡ m) ⊎ (i ≡ q) → state_at y i ≡ 3
        matched_new (inl e) = state_name y e ∙ matches_message_state M
        matched_new (inr e) = state_name y e ∙ matches_receive_state M

        released_less : {k : ℕ} (b : Bool) (n c : ℕ) → k ≡ cond b (n - c) n → k ≤ n
        released_less true n c e = omega (arith, e)
        released_less false n c e = omega (arith, e)

        not_wait : (i ≡ m) ⊎ (i ≡ q) → only_half (op s i) ≡ false
        not_wait (inl e) = ap (λ (z : ℕ). only_half (op s z)) e ∙ send_not_only_half (op s m) M.sends
        not_wait (inr e) = ap (λ (z : ℕ). only_half (op s z)) e ∙ receive_not_only_half (op s q) M.receives

        inside : (j : ℕ) → (j ≢ i → Entered x j) → Dec (j ≡ i) → j < N_of s
        inside j there (yes e) = omega (arith, n.inside)
        inside j there (no d) = (R.placed.entered_only j (there d)).0

        inside_m : m < N_of s
        inside_m = inside m M.message_there (ℕ_discrete m i)

        inside_q : q < N_of s
        inside_q = inside q M.receive_there (ℕ_discrete q i)

        first : Finds s x i m q → First s now y m q
        first (inl e) =
            first_for_receive R.stable R.placed L M e.0 r n refl R.messages_held
            (first_by_some (λ k. fits_with s k i) x.messages R.messages_held.sorted m e.1)
        first (inr e) =
            first_for_message R.stable R.placed L M e.0 R.receives_held
            (first_by_some (λ k. fits_with s i k) x.receives R.receives_held.sorted q e.1)

  -- AN ABLE STEP keeps the invariant
  sound : (y : Job) (r : ℕ) → Next s x r → Outcome s x y r (next_op s x r) → Extended R y (next_op s x r)
  sound y r n (ends_half h) = sound_half y r n h
  sound y r n (ends_only_half h) = sound_only_half y r n h
  sound y r n (posts h) = sound_posts y r n h
  sound y r n (pends h) = sound_pends y r n h
  sound y r n (matches m q h) = sound_matches y r n m q h
  sound y r n (stops v h) =
      subst (λ (z : Job). Extended R z (next_op s x r)) (sym h.job_is) (stops_extended R v r n (known h.cause) h.not_waiting)
    where
      known : Cause s x r (next_op s x r) v → (v ≡ 3) ⊎ (v ≡ 4)
      known (inl e) = inl e.0
      known (inr e) = inr e.0

  -- an able step keeps the invariant
  pub step_sound : (r : ℕ) → able s x r ≡ true → Extended R (step s r x) (next_op s x r)
  step_sound r a = let n = able_next s g x r a in sound (step s r x) r n (outcome s g lent x R r n)
