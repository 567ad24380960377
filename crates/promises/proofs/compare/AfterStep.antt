-- What a step does to the stop and to where the boards stand, by what was known before it.
--   stop_after, step_stop      whether and how a step stops the job; stop_stays: a stopped job stays stopped
--   finishing                  whether a step that goes on finishes its operation
--   After, step_after          the boards' places after a step that goes on (`continues`), and after one that stops (`stops_job`)
--   step_counted               every step is counted
--   moved_position ..          where the board stands then; position_next, position_half, position_moved: what its place decides
-- Assumes nothing.
use Rattle.std.specs.Prelude.{◌≡◌, ◌⊎◌, ◌≢◌, Bool, ◌||◌, not, List, ℕ, suc, ◌+◌, ◌*◌, ◌<◌, get_or}
use Rattle.std.proofs.Math.Path.{refl, ap}
use Rattle.std.proofs.Common.{sym, subst, ◌∙◌, inl, inr, arith}
use Rattle.std.proofs.Math.Bool.{true, false, cond}
use Rattle.std.proofs.Math.Option.{Option, none, some}
use Rattle.rules.specs.Sheet.{Sheet, op, board, is_receive, only_half, is_ready, is_buffered, no_half}
use Rattle.rules.specs.Job.{Job, Stop, Place, in_attached, in_room, first_place, job, place_at, with_entries, with_places, with_messages, with_receives, with_stop, with_steps}
use Rattle.rules.specs.Step.{able, step, next_op, in_waiting_half, is_none, first_message, first_receive, matched, with_place, with_state, charge}
use Rattle.rules.specs.Step.{pend_message, pend_receive, stopped, initiated, fits_buffer, fits_room, kept, not_kept, unmatched, sent, received, initiating, ended, with_row, half_row}
use Rattle.invariant.specs.sheet.Valid.{Valid}
use Rattle.invariant.specs.sheet.Kinds.{send_not_only_half, receive_not_only_half}
use Rattle.invariant.specs.Invariant.{Reached}
use Rattle.invariant.specs.step.Places.{Next, Moved, able_next, moved_finished, moved_waiting, moved_finished_other, moved_waiting_other}
use Rattle.invariant.specs.step.BufferUse.{matched_is}
use Rattle.invariant.specs.step.Cases.{Outcome, ends_half, ends_only_half, posts, pends, matches, stops}
use Rattle.invariant.specs.step.CasesHold.{outcome}
use Rattle.invariant.specs.step.Position.{position, position_finished, position_waiting}

-- STOPS
unfoldable pub stop_at_op : (verdict r i : ℕ) → Stop
stop_at_op v r i =
    record {
      verdict = v;
      rank = r;
      at_op = i;
    }

-- a send that no posted receive fits, and that is ready or has no room in the attached buffer, stops the job
unfoldable pub stop_after : (r i : ℕ) → (half receives none_fits ready buffered room : Bool) → Option Stop → Option Stop
stop_after r i half receives none_fits ready buffered room old =
    cond half old
    (cond receives old
    (cond none_fits (cond ready (some (stop_at_op 4 r i)) (cond buffered (cond room old (some (stop_at_op 3 r i))) old)) old))

module _ (s : Sheet) (r i : ℕ) (x : Job) where
  matched_stop : (m q : ℕ) → (matched s m q x).stop ≡ x.stop
  unfolding job
  matched_stop m q = ap (λ (z : Job). z.stop) (matched_is s m q x)

  ended_stop : (ended s r i x).stop ≡ x.stop
  unfolding ended with_place with_places with_entries job
  ended_stop = go (only_half (op s i))
    where
      go : (b : Bool) → (cond b (with_row i (half_row s x i) x) x).stop ≡ x.stop
      go true = refl
      go false = refl

  received_stop : (o : Option ℕ) → (received s r i o x).stop ≡ x.stop
  unfolding received initiated pend_receive with_receives with_place with_places with_state with_entries job
  received_stop none = refl
  received_stop (some m) = matched_stop m i

  sent_stop : (o : Option ℕ) →
      (sent s r i o x).stop ≡ cond (is_none o)
      (cond (is_ready (op s i)) (some (stop_at_op 4 r i))
      (cond (is_buffered (op s i)) (cond (fits_buffer s r i x) x.stop (some (stop_at_op 3 r i))) x.stop)) x.stop
  unfolding sent unmatched kept not_kept initiated charge pend_message with_messages with_place with_places with_state with_entries stopped
      with_stop stop_at_op is_none job
  sent_stop (some q) = matched_stop i q
  sent_stop none = go (is_ready (op s i)) (is_buffered (op s i)) (fits_buffer s r i x) (fits_room s r i x)
    where
      go : (a b c d : Bool) →
          (cond a (stopped 4 r i x) (cond b (cond c (kept in_attached s r i x) (stopped 3 r i x))
          (cond d (kept in_room s r i x) (not_kept s r i x)))).stop
          ≡ cond a (some (stop_at_op 4 r i)) (cond b (cond c x.stop (some (stop_at_op 3 r i))) x.stop)
      go true b c d = refl
      go false true true d = refl
      go false true false d = refl
      go false false c true = refl
      go false false c false = refl

pub step_stop : (s : Sheet) (r : ℕ) (x : Job) →
    (step s r x).stop
    ≡ stop_after r (next_op s x r) (in_waiting_half s x r) (is_receive (op s (next_op s x r)))
    (is_none (first_receive s (next_op s x r) x.receives)) (is_ready (op s (next_op s x r)))
    (is_buffered (op s (next_op s x r)))
    (fits_buffer s r (next_op s x r) x) x.stop
unfolding step initiating stop_after with_steps job
step_stop s r x = go (in_waiting_half s x r) (is_receive (op s i))
  where
    i : ℕ
    i = next_op s x r

    go : (a b : Bool) →
        (cond a (ended s r i x) (cond b (received s r i (first_message s i x.messages) x)
        (sent s r i (first_receive s i x.receives) x))).stop
        ≡ cond a x.stop
        (cond b x.stop
        (cond (is_none (first_receive s i x.receives))
        (cond (is_ready (op s i)) (some (stop_at_op 4 r i))
        (cond (is_buffered (op s i)) (cond (fits_buffer s r i x) x.stop (some (stop_at_op 3 r i))) x.stop))
        x.stop))
    go true b = ended_stop s r i x
    go false true = received_stop s r i x (first_message s i x.messages)
    go false false = sent_stop s r i x (first_receive s i x.receives)

-- PLACES
-- whether a step that goes on finishes its operation
abbrev pub finishing : Sheet → Job → (r : ℕ) → Bool
finishing s x r = in_waiting_half s x r || no_half (op s (next_op s x r))

-- an initiating step is of a board that is in no waiting half
initiates : (s : Sheet) (x : Job) (r : ℕ) → (place_at x r).waiting ≡ false → only_half (op s (next_op s x r)) ≡ false →
    no_half (op s (next_op s x r)) ≡ finishing s x r
unfolding in_waiting_half
initiates s x r w e =
    sym
    (ap (λ (b : Bool). (b || only_half (op s (next_op s x r))) || no_half (op s (next_op s x r))) w
    ∙ ap (λ (b : Bool). b || no_half (op s (next_op s x r))) e)

-- what a step of board r did: the job goes on, or it stopped
pub data After (s : Sheet) (x y : Job) (r : ℕ) : Type 0 where
  continues : y.stop ≡ none → Moved x y r (finishing s x r) → After s x y r
  stops_job : (t : Stop) → y.stop ≡ some t → y.places ≡ x.places → y.steps ≡ suc x.steps → After s x y r

module _ {s : Sheet} {x y : Job} {r : ℕ} (n : Next s x r) where
  turned : (last : Bool) → Moved x y r last → last ≡ finishing s x r → After s x y r
  turned last m e = continues (m.stop_same ∙ n.going) (subst (λ (b : Bool). Moved x y r b) e m)

  after : Outcome s x y r (next_op s x r) → After s x y r
  unfolding in_waiting_half stopped with_stop with_steps job
  after (ends_half h) =
      turned true h.moved
      (sym (ap (λ (b : Bool). (b || only_half (op s (next_op s x r))) || no_half (op s (next_op s x r))) h.waiting))
  after (ends_only_half h) =
      turned true h.moved
      (sym
      (ap (λ (b : Bool). (b || only_half (op s (next_op s x r))) || no_half (op s (next_op s x r))) h.not_waiting
      ∙ ap (λ (b : Bool). b || no_half (op s (next_op s x r))) h.waits))
  after (posts h) =
      turned (no_half (op s (next_op s x r))) h.moved
      (initiates s x r h.not_waiting (receive_not_only_half (op s (next_op s x r)) h.is_one))
  after (pends h) =
      turned (no_half (op s (next_op s x r))) h.moved
      (initiates s x r h.not_waiting (send_not_only_half (op s (next_op s x r)) h.is_one))
  after (matches m q h) =
      turned (no_half (op s (next_op s x r))) h.moved
      (initiates s x r h.not_waiting (not_wait h.rows.one))
    where
      not_wait : (next_op s x r ≡ m) ⊎ (next_op s x r ≡ q) → only_half (op s (next_op s x r)) ≡ false
      not_wait (inl e) = ap (λ (z : ℕ). only_half (op s z)) e ∙ send_not_only_half (op s m) h.rows.sends
      not_wait (inr e) = ap (λ (z : ℕ). only_half (op s z)) e ∙ receive_not_only_half (op s q) h.rows.receives
  after (stops v h) =
      stops_job
      (record {
        verdict = v;
        rank = r;
        at_op = next_op s x r;
      })
      (ap (λ (z : Job). z.stop) h.job_is) (ap (λ (z : Job). z.places) h.job_is)
      (ap (λ (z : Job). z.steps) h.job_is)

-- a step of an able board did one or the other
pub step_after : {s : Sheet} (g : Valid s) {lent : List ℕ} {x : Job} → Reached s lent x → (r : ℕ) → able s x r ≡ true →
    After s x (step s r x) r
step_after {s} g {lent} {x} R r a = let n = able_next s g x r a in after n (outcome s g lent x R r n)

-- every step is counted
pub step_counted : {s : Sheet} (g : Valid s) {lent : List ℕ} {x : Job} → Reached s lent x → (r : ℕ) → able s x r ≡ true →
    (step s r x).steps ≡ suc x.steps
step_counted {s} g {lent} {x} R r a = go (step_after g R r a)
  where
    go : After s x (step s r x) r → (step s r x).steps ≡ suc x.steps
    go (continues e m) = m.steps_more
    go (stops_job t e p k) = k

-- where the board stands after a step that goes on
unfoldable pub position_on : (last : Bool) → (finished : ℕ) → ℕ
position_on last f = 2 * cond last (suc f) f + cond (not last) 1 0

pub moved_position : {x y : Job} {r : ℕ} {last : Bool} → Moved x y r last → position y r ≡ position_on last (place_at x r).finished
unfolding position position_on
moved_position {x} {y} {r} {last} m =
    ap (λ (k : ℕ). 2 * k + cond (place_at y r).waiting 1 0) (moved_finished m)
    ∙ ap (λ (b : Bool). 2 * cond last (suc (place_at x r).finished) (place_at x r).finished + cond b 1 0) (moved_waiting m)

pub moved_position_other : {x y : Job} {r : ℕ} {last : Bool} → Moved x y r last → (q : ℕ) → q ≢ r → position y q ≡ position x q
unfolding position
moved_position_other {x} {y} m q d =
    ap (λ (k : ℕ). 2 * k + cond (place_at y q).waiting 1 0) (moved_finished_other m q d)
    ∙ ap (λ (b : Bool). 2 * (place_at x q).finished + cond b 1 0) (moved_waiting_other m q d)

pub places_position : (x y : Job) → y.places ≡ x.places → (q : ℕ) → position y q ≡ position x q
unfolding position place_at
places_position x y e q = ap (λ (l : List Place). position_in l q) e
  where
    position_in : List Place → ℕ → ℕ
    position_in l q = 2 * (get_or l q first_place).finished + cond (get_or l q first_place).waiting 1 0

-- WHAT THE PLACE OF A BOARD DECIDES
module _ (s : Sheet) (x y : Job) (r : ℕ) (e : position x r ≡ position y r) where
  pub position_next : next_op s x r ≡ next_op s y r
  unfolding next_op
  position_next = ap (λ (k : ℕ). (board s r).first + k) (position_finished x y r e)

  pub position_half : in_waiting_half s x r ≡ in_waiting_half s y r
  unfolding in_waiting_half
  position_half =
      ap (λ (b : Bool). b || only_half (op s (next_op s x r))) (position_waiting x y r e)
      ∙ ap (λ (k : ℕ). (place_at y r).waiting || only_half (op s k)) position_next

  position_finishing : finishing s x r ≡ finishing s y r
  position_finishing =
      ap (λ (b : Bool). b || no_half (op s (next_op s x r))) position_half
      ∙ ap (λ (k : ℕ). in_waiting_half s y r || no_half (op s k)) position_next

  -- a step that goes on takes it to the same place
  pub position_moved : {x_now y_now : Job} → Moved x x_now r (finishing s x r) → Moved y y_now r (finishing s y r) →
      position x_now r ≡ position y_now r
  position_moved m n =
      moved_position m ∙ ap (λ (k : ℕ). position_on (finishing s x r) k) (position_finished x y r e)
      ∙ ap (λ (c : Bool). position_on c (place_at y r).finished) position_finishing ∙ sym (moved_position n)

-- and further on
pub position_further : (s : Sheet) {x y : Job} {r : ℕ} → Moved x y r (finishing s x r) → position x r < position y r
unfolding position position_on in_waiting_half
position_further s {x} {y} {r} m =
    go (place_at x r).waiting (only_half (op s (next_op s x r)))
    (no_half (op s (next_op s x r))) (moved_position m)
  where
    f : ℕ
    f = (place_at x r).finished

    go : (w a b : Bool) → position y r ≡ position_on ((w || a) || b) f → 2 * f + cond w 1 0 < position y r
    go true a b e = omega (arith, e)
    go false true b e = omega (arith, e)
    go false false true e = omega (arith, e)
    go false false false e = omega (arith, e)

-- a stopped job stays stopped
pub stop_stays : (s : Sheet) (r : ℕ) (x : Job) (t : Stop) → x.stop ≡ some t → (step s r x).stop ≡ none → ⊥
unfolding stop_after
stop_stays s r x t e h =
    go (in_waiting_half s x r) (is_receive (op s i)) (is_none (first_receive s i x.receives))
    (is_ready (op s i)) (is_buffered (op s i)) (fits_buffer s r i x) (sym (step_stop s r x) ∙ h)
  where
    i : ℕ
    i = next_op s x r

    never : {u : Stop} {o : Option Stop} → o ≡ some u → o ≡ none → ⊥
    never p q = let z : ◌≡◌ {A = ℕ} 0 1 = cc in omega arith

    go : (a b c d k l : Bool) → stop_after r i a b c d k l x.stop ≡ none → ⊥
    go true b c d k l = never e
    go false true c d k l = never e
    go false false false d k l = never e
    go false false true true k l = never refl
    go false false true false true true = never e
    go false false true false true false = never refl
    go false false true false false l = never e
