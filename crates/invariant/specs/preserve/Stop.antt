-- A stopping step keeps the invariant: it changes nothing but the stop and the count of steps, and its operation isn't entered.
--   stops_extended    the law
-- Assumes nothing.
use Rattle.std.specs.Prelude.{◌≡◌, refl, ◌⊎◌, false, cond, List, ℕ, suc, ◌+◌}
use Rattle.std.proofs.Common.{sym, ap, subst, ◌∙◌, arith}
use Rattle.std.proofs.Math.Option.{Option, some}
use Rattle.rules.specs.Sheet.{Sheet, N_of}
use Rattle.rules.specs.Job.{Job, Stop, job, place_at, entry_at, with_stop, with_steps}
use Rattle.rules.specs.Step.{next_op, half_complete, complete, complete_if, stopped, is_none}
use Rattle.laws.specs.Sums.{sum_below}
use Rattle.invariant.specs.Invariant.{steps_done, charge_in, reach, Stopped, Reached, Extended}
use Rattle.invariant.specs.step.Places.{Next, next_fresh}
use Rattle.invariant.specs.preserve.Places.{half_complete_on}
use Rattle.invariant.specs.preserve.Rows.{shaped_same}
use Rattle.invariant.specs.preserve.Memory.{replayed_rows}
use Rattle.invariant.specs.preserve.Told.{telling_same, told_step}
use Rattle.invariant.specs.preserve.SameRows.{SameRows, stable_same, arrived_same, messages_same, receives_same}

-- a stopping step keeps the invariant
pub stops_extended : {s : Sheet} {lent : List ℕ} {x : Job} (R : Reached s lent x) (v r : ℕ) → Next s x r → (v ≡ 3) ⊎ (v ≡ 4) →
    (place_at x r).waiting ≡ false →
    Extended R (with_steps (suc x.steps) (stopped v r (next_op s x r) x)) (next_op s x r)
unfolding stopped with_stop with_steps job place_at entry_at next_op reach half_complete complete complete_if is_none charge_in
    steps_done
stops_extended {s} {lent} {x} R v r n reason w =
    record {
      reached =
          record {
            arrival = R.arrival;
            stable = stable_same same R.stable;
            arrived = arrived_same same (omega arith) R.arrived;
            placed =
                record {
                  entries_long = R.placed.entries_long;
                  places_long = R.placed.places_long;
                  finished_most = R.placed.finished_most;
                  waiting_unfinished = R.placed.waiting_unfinished;
                  waiting_not_no_half = R.placed.waiting_not_no_half;
                  waiting_not_only_half = R.placed.waiting_not_only_half;
                  entered_if = R.placed.entered_if;
                  entered_only = R.placed.entered_only;
                  passed_complete = λ j l h b t. half_complete_on s x y (λ k c. c) j (R.placed.passed_complete j l h b t);
                };
            shaped = shaped_same y R.shaped refl;
            told =
                told_step R.told (telling_same (next_op s x r) same) (λ j d h. h) (λ j h. h) (λ t inn out. absurd (out inn));
            messages_held = messages_same same R.messages_held;
            receives_held = receives_same same R.receives_held;
            in_use_sum = R.in_use_sum;
            in_use_peak = R.in_use_peak;
            peak_size = R.peak_size;
            memory_replayed = R.memory_replayed ∙ sym (replayed_rows s x y (N_of s) lent same);
            memory_long = R.memory_long;
            steps_sum =
                ap suc R.steps_sum
                ∙ ap (λ (o : Option Stop). suc (sum_below (N_of s) (steps_done s x) + cond (is_none o) 0 1)) n.going
                ∙ omega arith;
            stop_at = λ t e. at t e;
          };
      on = λ j h. h;
      back = λ j d h. h;
      complete_on = λ j h. h;
      same_state = λ j h d. refl;
      new_state = λ inn out d. absurd (out inn);
      old = λ j h. refl;
      new = λ inn out j h. absurd (out inn);
      telling = telling_same (next_op s x r) same;
    }
  where
    y : Job
    y = with_steps (suc x.steps) (stopped v r (next_op s x r) x)

    same : SameRows x y
    same = λ j. refl

    answers : Stop
    answers =
        record {
          verdict = v;
          rank = r;
          at_op = next_op s x r;
        }

    known : Stopped s y answers
    known =
        record {
          reason = reason;
          rank_small = n.rank_small;
          op_small = n.inside;
          not_entered = next_fresh s x r R.placed n w;
        }

    at : (t : Stop) → some answers ≡ some t → Stopped s y t
    at t e = subst (λ (z : Stop). Stopped s y z) (let q : answers ≡ t = cc in q) known
