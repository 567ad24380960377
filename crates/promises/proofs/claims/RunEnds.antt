-- A run's order is accepted by follow and leads to the same job, within two steps an operation, where no board is able.
--   run_ended    the statement RunEnds, of one valid sheet
-- Assumes nothing.
use Rattle.std.specs.Prelude.{◌≡◌, refl, Bool, true, cond, List, [], ◌∷◌, ◌++◌, ℕ, zero, suc, ◌+◌, ◌*◌, ◌≤◌, length}
use Rattle.std.proofs.Common.{sym, ap, ◌∙◌, append_assoc, append-nil, arith}
use Rattle.std.proofs.Math.Option.{Option, none, some}
use Rattle.rules.specs.Limits.{order_room}
use Rattle.rules.specs.Sheet.{Sheet, N_of, inbox_total}
use Rattle.rules.specs.Job.{Job, started, job}
use Rattle.rules.specs.Step.{able, step, is_none}
use Rattle.rules.specs.Order.{Followed, followed, follow_from, follow, next_rank, none_able, Ran, ran, run_next, run_from, run}
use Rattle.rules.specs.Claims.{accepts, left_by}
use Rattle.promises.specs.Statements.{Ends}
use Rattle.invariant.specs.sheet.Valid.{Valid}
use Rattle.invariant.specs.deliveries.Laws.{DeliveryLaws}
use Rattle.invariant.specs.Invariant.{Reached}
use Rattle.invariant.specs.preserve.StepCount.{able_room}
use Rattle.invariant.specs.step.LowestAble.{next_some}
use Rattle.invariant.specs.preserve.Step.{step_sound}
use Rattle.promises.proofs.compare.AfterStep.{step_counted}
use Rattle.invariant.specs.preserve.Orders.{start_reached}

-- a run from x whose order so far is `o`: what it adds is followed from x
record Runs (s : Sheet) (fuel : ℕ) (o : List ℕ) (x : Job) (e : Ran) : Type 0 where
  rest : List ℕ
  order_is : e.order ≡ o ++ rest
  followed_is : (k : ℕ) → follow_from k s rest x ≡ followed none e.end
  short : length rest ≤ fuel
  ended : none_able s e.end ≡ true

run_stays : (s : Sheet) (fuel : ℕ) (o : List ℕ) (x : Job) → next_rank s x ≡ none → Runs s fuel o x (ran o x)
unfolding ran follow_from none_able is_none
run_stays s fuel o x e =
    record {
      rest = [];
      order_is = sym (append-nil o);
      followed_is = λ k. refl;
      short = omega arith;
      ended = ap is_none e;
    }

run_goes : (s : Sheet) (fuel : ℕ) (o : List ℕ) (x : Job) (r : ℕ) (e : Ran) → able s x r ≡ true →
    Runs s fuel (o ++ (r ∷ [])) (step s r x) e → Runs s (suc fuel) o x e
unfolding follow_from
run_goes s fuel o x r e a h =
    record {
      rest = r ∷ h.rest;
      order_is = h.order_is ∙ append_assoc o (r ∷ []) h.rest;
      followed_is =
          λ k.
          ap (λ (b : Bool). cond b (follow_from (suc k) s h.rest (step s r x)) (followed (some k) x)) a
          ∙ h.followed_is (suc k);
      short = omega (arith, h.short);
      ended = h.ended;
    }

run_runs : {s : Sheet} → Valid s → DeliveryLaws s → {lent : List ℕ} → inbox_total s ≤ length lent → (fuel : ℕ) (o : List ℕ) {x : Job} →
    Reached s lent x →
    2 * N_of s ≤ fuel + x.steps → Runs s fuel o x (run_from fuel s o x)
unfolding run_from run_next
run_runs {s} g A room zero o {x} R l = go (next_rank s x) refl
  where
    go : (n : Option ℕ) → next_rank s x ≡ n → Runs s 0 o x (ran o x)
    go none e = run_stays s 0 o x e
    go (some r) e = absurd (omega (arith, able_room R g r (next_some s x r e)))
run_runs {s} g A room (suc fuel) o {x} R l =
    go (next_rank s x) refl (λ r a. run_runs g A room fuel (o ++ (r ∷ [])) (step_sound g A room R r a).reached
    (omega (arith, step_counted g R r a)))
  where
    go : (n : Option ℕ) → next_rank s x ≡ n →
        ((r : ℕ) → able s x r ≡ true → Runs s fuel (o ++ (r ∷ [])) (step s r x) (run_from fuel s (o ++ (r ∷ [])) (step s r x))) →
        Runs s (suc fuel) o x (run_next n s o x (λ p y. run_from fuel s p y))
    go none e rest = run_stays s (suc fuel) o x e
    go (some r) e rest = let a = next_some s x r e in run_goes s fuel o x r (run_from fuel s (o ++ (r ∷ [])) (step s r x)) a
        (rest r a)

-- a run ends where no board is able, within two steps an operation
pub run_ended : {s : Sheet} → Valid s → DeliveryLaws s → (lent : List ℕ) → inbox_total s ≤ length lent → Ends s lent
unfolding run accepts left_by follow followed is_none started job
run_ended {s} g A lent room =
    record {
      none_left = h.ended;
      short = omega (arith, h.short, ap length h.order_is);
      accepted = ap (λ (f : Followed). is_none f.refused_at) same;
      same_job = ap (λ (f : Followed). f.left) same;
    }
  where
    h : Runs s (order_room (N_of s)) [] (started s lent) (run_from (order_room (N_of s)) s [] (started s lent))
    h = run_runs g A room (order_room (N_of s)) [] (start_reached g lent) (omega arith)

    same : follow_from 0 s (run s lent).order (started s lent) ≡ followed none (run s lent).end
    same = ap (λ (o : List ℕ). follow_from 0 s o (started s lent)) h.order_is ∙ h.followed_is 0
