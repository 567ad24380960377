-- Why a job stopped, and what its stopping step changed.
--   stop_reason        of an able step that stopped the job
--   Stopping           the beginning of an order that led to that step; stopping: an order that leaves a stopped job has one
--   stop_reasons, stopping_steps
-- Assumes nothing.
use Rattle.std.specs.Prelude.{◌≡◌, ◌↔◌, Bool, cond, ℕ, suc, ◌+◌, ◌≤◌, ◌<◌, length}
use Rattle.std.proofs.Math.Path.{refl}
use Rattle.std.proofs.Common.{sym, ap, subst, ◌∙◌, inl, inr, arith}
use Rattle.std.proofs.Math.Bool.{true, false}
use mathlib.Core.List.{List, [], ◌∷◌, ◌++◌}
use Rattle.std.proofs.Math.Option.{Option, none, some}
use borrow.Author.Tests.{leb-false}
use Rattle.rules.specs.Sheet.{Sheet, op, board, sheet_in, inbox_total, is_buffered, is_ready}
use Rattle.rules.specs.Job.{Job, Stop, in_attached, in_use_at, job, entry_at, place_at, started, with_stop, with_steps}
use Rattle.rules.specs.Step.{able, step, next_op, is_none, fits_with, first_receive, fits_beside, fits_buffer, size_of, charge_of, stopped}
use Rattle.rules.specs.Order.{Followed, followed, follow_from, follow}
use Rattle.rules.specs.Claims.{accepts, left_by}
use Rattle.laws.specs.Tests.{true_not_false}
use Rattle.laws.specs.Fields.{ready_not_buffered}
use Rattle.laws.specs.WaitingLists.{first_by_none}
use Rattle.invariant.specs.sheet.Valid.{Valid}
use Rattle.invariant.specs.Invariant.{Reached}
use Rattle.invariant.specs.deliveries.Laws.{DeliveryLaws}
use Rattle.invariant.specs.deliveries.Commute.{delivery_laws}
use Rattle.invariant.specs.step.Places.{Next, able_next, next_fresh}
use Rattle.invariant.specs.step.Cases.{Cause, Stops, Outcome, ends_half, ends_only_half, posts, pends, matches, stops}
use Rattle.invariant.specs.step.CasesHold.{outcome}
use Rattle.invariant.specs.preserve.Step.{step_sound}
use Rattle.invariant.specs.preserve.Orders.{start_reached}
use Rattle.promises.specs.Statements.{Lent, told_by, StopReason, WhyStopped, StopReasons, StoppingSteps}
use Rattle.promises.proofs.claims.OneJob.{lent_valid}

-- a job cannot both have stopped and be going
never : {p : Stop} {o : Option Stop} {A : Type 0} → o ≡ some p → o ≡ none → A
never e f = absurd (let z : ◌≡◌ {A = ℕ} 0 1 = cc in omega arith)

-- ONE STEP of board r stops job x with verdict v
abbrev stop_by : Sheet → Job → (r v : ℕ) → Stop
stop_by s x r v =
    record {
      verdict = v;
      rank = r;
      at_op = next_op s x r;
    }

abbrev stopped_job : Sheet → Job → (r v : ℕ) → Job
stopped_job s x r v = with_steps (suc x.steps) (with_stop (stop_by s x r v) x)

module _ {s : Sheet} (g : Valid s) {lent : List ℕ} {x : Job} (R : Reached s lent x) (r : ℕ) (n : Next s x r) where
  abbrev i : ℕ
  i = next_op s x r

  overflow_is : (v : ℕ) → Cause s x r i v →
      (v ≡ 3) ↔ ((is_buffered (op s i) ≡ true) × ((board s r).attached < in_use_at in_attached x r + charge_of in_attached (op s i)))
  unfolding fits_buffer fits_beside size_of
  overflow_is v (inl c) =
      (λ e. (c.1, leb-false (in_use_at in_attached x r + charge_of in_attached (op s i)) (board s r).attached c.2), λ h. c.0)
  overflow_is v (inr c) =
      (λ e. absurd (omega (arith, c.0)), λ h. true_not_false h.0 (ready_not_buffered (op s i) c.1))

  not_ready_is : (v : ℕ) → Cause s x r i v → (v ≡ 4) ↔ (is_ready (op s i) ≡ true)
  not_ready_is v (inl c) =
      (λ e. absurd (omega (arith, c.0)), λ h. true_not_false c.1 (ready_not_buffered (op s i) h))
  not_ready_is v (inr c) = (λ e. c.1, λ h. c.0)

  stop_reason : (y : Job) (v : ℕ) → Stops s x y r i v → StopReason s (told_by s (stopped_job s x r v)) (stop_by s x r v)
  unfolding told_by with_steps with_stop job entry_at place_at next_op first_receive
  stop_reason y v h =
      record {
        rank_small = n.rank_small;
        unfinished = n.unfinished;
        next = refl;
        sends = h.is_one;
        not_entered = next_fresh s x r R.placed n h.not_waiting;
        none_posted =
            λ q receives pending.
            first_by_none (λ q. fits_with s i q) x.receives h.none_fits q
            (R.receives_held.whole q
            (record {
              receives = receives;
              entered = omega arith;
              unmatched = λ e. omega arith;
            }));
        overflow = overflow_is v h.cause;
        not_ready = not_ready_is v h.cause;
      }

-- AN ORDER
-- job x, followed over rs, leaves a job that stopped with p: the beginning that led to the stopping step
record Stopping (s : Sheet) (k : ℕ) (rs : List ℕ) (x : Job) (p : Stop) : Type 0 where
  before : List ℕ
  after : List ℕ
  order : rs ≡ before ++ (p.rank ∷ after)
  accepted : is_none (follow_from k s before x).refused_at ≡ true
  going : (follow_from k s before x).left.stop ≡ none
  changed :
      (follow_from k s rs x).left
      ≡ with_steps (suc (follow_from k s before x).left.steps) (with_stop p (follow_from k s before x).left)
  reason : StopReason s (told_by s (follow_from k s rs x).left) p

-- what follows an able step
follow_able : (s : Sheet) (k r : ℕ) (rs : List ℕ) (x : Job) → able s x r ≡ true →
    follow_from k s (r ∷ rs) x ≡ follow_from (suc k) s rs (step s r x)
unfolding follow_from
follow_able s k r rs x a = ap (λ (b : Bool). cond b (follow_from (suc k) s rs (step s r x)) (followed (some k) x)) a

-- after a stop no rank is able, so nothing more is done
stopped_stays : {s : Sheet} → Valid s → {p : Stop} (k : ℕ) (rs : List ℕ) (x : Job) → x.stop ≡ some p → (follow_from k s rs x).left ≡ x
unfolding follow_from followed
stopped_stays g k [] x e = refl
stopped_stays {s} g k (r ∷ rs) x e = go (able s x r) refl
  where
    go : (b : Bool) → able s x r ≡ b → (cond b (follow_from (suc k) s rs (step s r x)) (followed (some k) x)).left ≡ x
    go true a = never e (able_next s g x r a).going
    go false a = refl

-- a step that goes on, and a later one that stops the job
stopping_later : {s : Sheet} (k r : ℕ) (rs : List ℕ) {x : Job} → able s x r ≡ true → (p : Stop) → Stopping s (suc k) rs (step s r x) p →
    Stopping s k (r ∷ rs) x p
stopping_later {s} k r rs {x} a p S =
    record {
      before = r ∷ S.before;
      after = S.after;
      order = ap (λ (l : List ℕ). r ∷ l) S.order;
      accepted = ap (λ (f : Followed). is_none f.refused_at) first ∙ S.accepted;
      going = ap (λ (f : Followed). f.left.stop) first ∙ S.going;
      changed =
          ap (λ (f : Followed). f.left) whole ∙ S.changed
          ∙ ap (λ (f : Followed). with_steps (suc f.left.steps) (with_stop p f.left)) (sym first);
      reason = subst (λ (f : Followed). StopReason s (told_by s f.left) p) (sym whole) S.reason;
    }
  where
    first : follow_from k s (r ∷ S.before) x ≡ follow_from (suc k) s S.before (step s r x)
    first = follow_able s k r S.before x a

    whole : follow_from k s (r ∷ rs) x ≡ follow_from (suc k) s rs (step s r x)
    whole = follow_able s k r rs x a

module _ {s : Sheet} (g : Valid s) (A : DeliveryLaws s) {lent : List ℕ} (room : inbox_total s ≤ length lent) where
  -- the first step is the stopping one
  stopping_now : (k r : ℕ) (rs : List ℕ) {x : Job} (R : Reached s lent x) (a : able s x r ≡ true) (p : Stop) →
      (follow_from k s (r ∷ rs) x).left ≡ step s r x → (step s r x).stop ≡ some p → Stopping s k (r ∷ rs) x p
  unfolding follow_from followed is_none stopped with_stop with_steps job
  stopping_now k r rs {x} R a p left e = go (outcome s g lent x R r n)
    where
      n : Next s x r
      n = able_next s g x r a

      made : (v : ℕ) → Stops s x (step s r x) r (next_op s x r) v → Stopping s k (r ∷ rs) x (stop_by s x r v)
      made v h =
          record {
            before = [];
            after = rs;
            order = refl;
            accepted = refl;
            going = n.going;
            changed = left ∙ h.job_is;
            reason =
                subst (λ (z : Job). StopReason s (told_by s z) (stop_by s x r v)) (sym (left ∙ h.job_is))
                (stop_reason g R r n (step s r x) v h);
          }

      go : Outcome s x (step s r x) r (next_op s x r) → Stopping s k (r ∷ rs) x p
      go (ends_half h) = never e (h.moved.stop_same ∙ n.going)
      go (ends_only_half h) = never e (h.moved.stop_same ∙ n.going)
      go (posts h) = never e (h.moved.stop_same ∙ n.going)
      go (pends h) = never e (h.moved.stop_same ∙ n.going)
      go (matches m q h) = never e (h.moved.stop_same ∙ n.going)
      go (stops v h) =
          let there : some (stop_by s x r v) ≡ some p = sym (ap (λ (z : Job). z.stop) h.job_is) ∙ e in
          subst (λ (z : Stop). Stopping s k (r ∷ rs) x z) (let q : stop_by s x r v ≡ p = cc in q) (made v h)

  stopping : (k : ℕ) (rs : List ℕ) {x : Job} → Reached s lent x → x.stop ≡ none → (p : Stop) →
      (follow_from k s rs x).left.stop ≡ some p → Stopping s k rs x p
  unfolding follow_from followed
  stopping k [] R going p e = never e going
  stopping k (r ∷ rs) {x} R going p e =
      go (able s x r) refl e (λ a f. stopping (suc k) rs (step_sound g A room R r a).reached f p)
    where
      go : (b : Bool) → able s x r ≡ b → (cond b (follow_from (suc k) s rs (step s r x)) (followed (some k) x)).left.stop ≡ some p →
          (able s x r ≡ true → (step s r x).stop ≡ none → (follow_from (suc k) s rs (step s r x)).left.stop ≡ some p →
          Stopping s (suc k) rs (step s r x) p) →
          Stopping s k (r ∷ rs) x p
      go false a e later = never e going
      go true a e later = by (step s r x).stop refl
        where
          by : (o : Option Stop) → (step s r x).stop ≡ o → Stopping s k (r ∷ rs) x p
          by none f = stopping_later k r rs a p (later a f e)
          by (some t) f =
              let still = stopped_stays g (suc k) rs (step s r x) f in
              stopping_now k r rs R a p (ap (λ (z : Followed). z.left) (follow_able s k r rs x a) ∙ still)
              (sym (ap (λ (z : Job). z.stop) still) ∙ e)

-- THE CLAIMS
module _ {bs i : List ℕ} (h : Lent bs i) (rs : List ℕ) (p : Stop) (e : (left_by (sheet_in bs) rs i).stop ≡ some p) where
  found : Stopping (sheet_in bs) 0 rs (started (sheet_in bs) i) p
  unfolding left_by follow started job
  found =
      stopping (lent_valid h) (delivery_laws (sheet_in bs) (lent_valid h)) h.room 0 rs (start_reached (lent_valid h) i) refl p e

pub stop_reasons : StopReasons
unfolding StopReasons WhyStopped told_by left_by follow
stop_reasons bs i rs h p e = (found h rs p e).reason

pub stopping_steps : StoppingSteps
unfolding StoppingSteps accepts left_by follow
stopping_steps bs i rs p h e =
    let S = found h rs p e in
    record {
      before = S.before;
      after = S.after;
      order = S.order;
      accepted = S.accepted;
      going = S.going;
      changed = S.changed;
    }
