-- A run in scratch, step by step: the order written down, and what run answers. Assumes nothing.
--   Running   the run has taken k steps; running_none, running_more, running_end: its steps
--   Runs      the answer: the order that was taken, and the job where it ended
use Rattle.std.specs.Prelude.{◌≡◌, true, None, Some, List, [], ◌∷◌, ◌++◌, length, get_or, set, drop}
use Rattle.std.proofs.Math.Path.{refl}
use Rattle.std.proofs.Common.{sym, ◌∙◌, ap, append_assoc, length-append, drop-cons}
use Rattle.std.proofs.Math.Option.{none, some}
use Prim.Native.Nat.{ℕ, zero, suc, ◌+◌, ◌-◌, ◌<◌, ◌≤◌}
use native.Mathlib.Omega.{arith}
use Rattle.std.proofs.lemmas.List.{set_at}
use Rattle.rules.specs.Limits.{order_room}
use Rattle.rules.specs.Sheet.{Sheet, sheet_in, P_of, N_of}
use Rattle.rules.specs.Job.{Job, started, job, with_steps}
use Rattle.rules.specs.Step.{able, step}
use Rattle.rules.specs.Order.{next_rank, ran, run_next, run_from, run}
use Rattle.rules.specs.Service.{in_front}
use Rattle.invariant.specs.preserve.StepCount.{able_room}
use Rattle.invariant.specs.step.LowestAble.{next_some}
use Rattle.state.specs.declared.Control.{Control}
use Rattle.simulation.specs.Represents.{Represents, Represented, RepresentedAble}
use Rattle.setup.specs.SetupWalk.{Starts}
use Rattle.orders.specs.Jobs.{Every, Lent, some_inboxes, some_lent, represented, represented_able}
use Rattle.orders.specs.Lowest.{Lowest, lowest_low}

-- after k steps the order so far stands in front of the room
pub record Ran (bs room c out : List ℕ) (t : Control) (k : ℕ) (lent : List ℕ) : Type 0 where
  pub job : Job
  pub represents : Represents bs lent c t job
  pub taken : List ℕ
  pub taken_long : length taken ≡ k
  pub counted : job.steps ≡ k
  pub left : run (sheet_in bs) lent ≡ run_from (order_room (N_of (sheet_in bs)) - k) (sheet_in bs) taken job
  pub out_is : out ≡ in_front taken room

abbrev pub Running : (bs room c out : List ℕ) → Control → (k : ℕ) → Type 0
Running bs room c out t k = Lent bs (Ran bs room c out t k)

pub record Ended (bs room c out : List ℕ) (t : Control) (lent : List ℕ) : Type 0 where
  pub job : Job
  pub represents : Represents bs lent c t job
  pub taken : List ℕ
  pub said : run (sheet_in bs) lent ≡ ran taken job
  pub out_is : out ≡ in_front taken room

abbrev pub Runs : (bs room c out : List ℕ) → Control → Type 0
Runs bs room c out t = Lent bs (Ended bs room c out t)

pub running_none : (bs room c : List ℕ) (t : Control) → Starts bs c t → Running bs room c room t 0
unfolding run started job in_front
running_none bs room c t h lent l =
    record {
      job = started (sheet_in bs) lent;
      represents = h lent l;
      taken = [];
      taken_long = refl;
      counted = refl;
      left = ap (λ (n : ℕ). run_from n (sheet_in bs) [] (started (sheet_in bs) lent)) (omega arith);
      out_is = refl;
    }

pub starts_represented : {bs c : List ℕ} {t : Control} → Starts bs c t → Represented bs c t
starts_represented {bs} {c} {t} h = represented (some_lent bs (λ lent. Represents bs lent c t (started (sheet_in bs) lent)) h)

-- one rank written behind the order so far
order_more : (taken room : List ℕ) (k r : ℕ) → length taken ≡ k → k < length room →
    set (in_front taken room) k r ≡ in_front (taken ++ (r ∷ [])) room
unfolding in_front
order_more taken room k r e l =
    let long : length (taken ++ (r ∷ [])) ≡ suc k = length-append taken (r ∷ []) ∙ omega arith in
    ap (λ (n : ℕ). set (taken ++ drop n room) k r) e
    ∙ (ap (λ (xs : List ℕ). set (taken ++ xs) k r) (drop-cons room k 0 l)
    ∙ (set_at taken (get_or room k 0) (drop (suc k) room) r k e
    ∙ (sym (append_assoc taken (r ∷ []) (drop (suc k) room)) ∙ ap (λ (n : ℕ). (taken ++ (r ∷ [])) ++ drop n room) (sym long))))

module _ {bs room c out : List ℕ} {t : Control} {k : ℕ} (h : Running bs room c out t k) where
  abbrev s : Sheet
  s = sheet_in bs

  -- no board is able: the run has ended
  run_done : (fuel : ℕ) (o : List ℕ) (x : Job) → next_rank s x ≡ none → run_from fuel s o x ≡ ran o x
  unfolding run_from run_next
  run_done zero o x e = refl
  run_done (suc n) o x e = rw e

  pub running_end : Every bs c t (λ x. Lowest s x None) → Runs bs room c out t
  running_end low lent enough =
      let q = h lent enough in
      record {
        job = q.job;
        represents = q.represents;
        taken = q.taken;
        said = q.left ∙ run_done (order_room (N_of s) - k) q.taken q.job (low lent q.job q.represents);
        out_is = q.out_is;
      }

  -- a run that goes on with rank r
  module _ {r : ℕ} (low : Every bs c t (λ x. Lowest s x (Some r))) where
    abbrev standing : Ran bs room c out t k (some_inboxes bs)
    standing = some_lent bs (Ran bs room c out t k) h

    rank_able : Every bs c t (λ x. able s x r ≡ true)
    rank_able lent x d = next_some s x r (low lent x d)

    pub running_low : r < P_of s
    running_low = lowest_low s standing.job r (low _ standing.job standing.represents)

    -- there is room in the order for one step more
    pub running_room : k < order_room (N_of s)
    running_room =
        let q = standing in
        omega (arith, q.counted, able_room q.represents.reached q.represents.good r (rank_able _ q.job q.represents))

    pub running_able : RepresentedAble bs c t r
    running_able = represented_able standing.represents (rank_able _ standing.job standing.represents)

    run_more : (fuel : ℕ) (o : List ℕ) (x : Job) → 0 < fuel → next_rank s x ≡ some r →
        run_from fuel s o x ≡ run_from (fuel - 1) s (o ++ (r ∷ [])) (step s r x)
    unfolding run_from run_next
    run_more zero o x p e = absurd (omega arith)
    run_more (suc n) o x p e = let a : suc n - 1 ≡ n = omega arith in rw (a, e)

    stepped : (x : Job) → (step s r x).steps ≡ suc x.steps
    unfolding step with_steps job
    stepped x = refl

    pub running_more : order_room (N_of s) ≤ length room → (d : List ℕ) (u : Control) →
        ((lent : List ℕ) (x : Job) → Represents bs lent c t x → able s x r ≡ true → Represents bs lent d u (step s r x)) →
        Running bs room d (set out k r) u (k + 1)
    running_more wide d u go lent enough =
        let q = h lent enough in
        let fits = running_room in
        record {
          job = step s r q.job;
          represents = go lent q.job q.represents (rank_able lent q.job q.represents);
          taken = q.taken ++ (r ∷ []);
          taken_long = length-append q.taken (r ∷ []) ∙ omega (arith, q.taken_long);
          counted = omega (arith, stepped q.job, q.counted);
          left =
              q.left
              ∙ (run_more (order_room (N_of s) - k) q.taken q.job (omega arith) (low lent q.job q.represents)
              ∙ ap (λ (n : ℕ). run_from n s (q.taken ++ (r ∷ [])) (step s r q.job)) (omega arith));
          out_is = ap (λ (o : List ℕ). set o k r) q.out_is ∙ order_more q.taken room k r q.taken_long (omega arith);
        }
