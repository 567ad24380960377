-- Following an order of ranks, and the desk's own run (document 01, "The desk and its three services"): at each step the
-- lowest rank that is able. Assumes nothing: these are definitions.
use Rattle.std.specs.Prelude.{Bool, cond, List, [], ◌∷◌, ◌++◌, ℕ, zero, suc}
use Rattle.std.proofs.Math.Option.{Option, none, some}
use Rattle.rules.specs.Limits.{order_room}
use Rattle.rules.specs.Sheet.{Sheet, P_of, N_of}
use Rattle.rules.specs.Job.{Job, started}
use Rattle.rules.specs.Step.{able, step, is_none}

-- FOLLOW: the first index in the order whose rank isn't able, or none; and the job as the steps before it left it
pub record Followed : Type 0 where
  pub refused_at : Option ℕ
  pub left : Job

unfoldable pub followed : Option ℕ → Job → Followed
followed o x =
    record {
      refused_at = o;
      left = x;
    }

unfoldable pub follow_from : (k : ℕ) → Sheet → (order : List ℕ) → Job → Followed
follow_from k s [] x = followed none x
follow_from k s (r ∷ rs) x = cond (able s x r) (follow_from (suc k) s rs (step s r x)) (followed (some k) x)

unfoldable pub follow : Sheet → (order inboxes : List ℕ) → Followed
follow s rs i = follow_from 0 s rs (started s i)

-- RUN: the lowest rank that is able, from r on, among `left` ranks
unfoldable pub lowest_able : (left r : ℕ) → Sheet → Job → Option ℕ
lowest_able zero r s x = none
lowest_able (suc k) r s x = cond (able s x r) (some r) (lowest_able k (suc r) s x)

unfoldable pub next_rank : Sheet → Job → Option ℕ
next_rank s x = lowest_able (P_of s) 0 s x

unfoldable pub none_able : Sheet → Job → Bool
none_able s x = is_none (next_rank s x)

-- the order that was taken, and where it ended
pub record Ran : Type 0 where
  pub order : List ℕ
  pub end : Job

unfoldable pub ran : List ℕ → Job → Ran
ran o x =
    record {
      order = o;
      end = x;
    }

-- the steps of a run are at most `fuel`; the order so far is `o`
unfoldable pub run_next : Option ℕ → Sheet → (o : List ℕ) → Job → (List ℕ → Job → Ran) → Ran
run_next none s o x f = ran o x
run_next (some r) s o x f = f (o ++ (r ∷ [])) (step s r x)

unfoldable pub run_from : (fuel : ℕ) → Sheet → (o : List ℕ) → Job → Ran
run_from zero s o x = ran o x
run_from (suc k) s o x = run_next (next_rank s x) s o x (λ p y. run_from k s p y)

-- an operation has at most two steps, so a run ends within the room of its order
unfoldable pub run : Sheet → (inboxes : List ℕ) → Ran
run s i = run_from (order_room (N_of s)) s [] (started s i)
