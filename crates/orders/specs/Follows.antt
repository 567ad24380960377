-- An order followed in scratch, step by step: what holds before index k, and what follow answers. Assumes nothing.
--   Reaches    the order is followed up to index k; reaches_none, reaches_more, reaches_refused, reaches_end: its steps
--   Follows    the answer: the first refused index or none, and the job as the steps before left it
use Rattle.std.specs.Prelude.{◌≡◌, refl, Bool, true, false, cond, None, Some, ℕ, ◌+◌, ◌<◌, ◌≤◌, length, get_or}
use Rattle.std.proofs.Math.Path.{sym, ap}
use Rattle.std.proofs.Common.{◌∙◌, drop-cons}
use mathlib.Core.List.{List, []}
use Rattle.std.proofs.Math.Option.{some}
use Rattle.std.proofs.Math.Numerals.{add-one}
use Rattle.std.proofs.Math.ListN.{drop, drop_of_length-le}
use Rattle.rules.specs.Sheet.{Sheet, sheet_in}
use Rattle.rules.specs.Job.{Job, started}
use Rattle.rules.specs.Step.{able, step}
use Rattle.rules.specs.Order.{followed, follow_from, follow}
use Rattle.state.specs.declared.Control.{Control}
use Rattle.simulation.specs.Represents.{Represents, Represented, RepresentedAble}
use Rattle.setup.specs.SetupWalk.{Starts}
use Rattle.orders.specs.Optional.{option_of}
use Rattle.orders.specs.Jobs.{Every, Lent, some_lent, represented, represented_able}
use Rattle.orders.specs.declared.follow.Outcome.{Outcome}

-- the order is followed up to index k, to a job that stands in scratch
pub record Reached (bs order c : List ℕ) (t : Control) (k : ℕ) (lent : List ℕ) : Type 0 where
  pub job : Job
  pub represents : Represents bs lent c t job
  pub left : follow (sheet_in bs) order lent ≡ follow_from k (sheet_in bs) (drop k order) job

abbrev pub Reaches : (bs order c : List ℕ) → Control → (k : ℕ) → Type 0
Reaches bs order c t k = Lent bs (Reached bs order c t k)

pub record Answered (bs order c : List ℕ) (o : Outcome) (lent : List ℕ) : Type 0 where
  pub job : Job
  pub represents : Represents bs lent c o.control job
  pub said : follow (sheet_in bs) order lent ≡ followed (option_of o.refused_at) job

abbrev pub Follows : (bs order c : List ℕ) → Outcome → Type 0
Follows bs order c o = Lent bs (Answered bs order c o)

pub reaches_none : (bs order c : List ℕ) (t : Control) → Starts bs c t → Reaches bs order c t 0
unfolding follow
reaches_none bs order c t h lent l =
    record {
      job = started (sheet_in bs) lent;
      represents = h lent l;
      left = refl;
    }

module _ {bs order c : List ℕ} {t : Control} {k : ℕ} (h : Reaches bs order c t k) where
  abbrev s : Sheet
  s = sheet_in bs

  pub reaches_represented : Represented bs c t
  reaches_represented = represented (some_lent bs (Reached bs order c t k) h).represents

  -- the rank at index k, and whether it is able
  module _ {r : ℕ} (l : k < length order) (e : r ≡ get_or order k 0) (b : Bool) (ask : Every bs c t (λ x. b ≡ able s x r)) where
    next : (a : Bool) → b ≡ a → (x : Job) → a ≡ able s x r →
        follow_from k s (drop k order) x ≡ cond a (follow_from (k + 1) s (drop (k + 1) order) (step s r x)) (followed (some k) x)
    unfolding follow_from
    next a f x q = rw (drop-cons order k 0 l, sym e, sym q, add-one k)

    -- it isn't: the order is refused here
    pub reaches_refused : b ≡ false → Follows bs order c (record { refused_at = Some k; control = t })
    reaches_refused f lent room =
        let q = h lent room in
        record {
          job = q.job;
          represents = q.represents;
          said = q.left ∙ next false f q.job (sym f ∙ ask lent q.job q.represents);
        }

    module _ (f : b ≡ true) where
      pub reaches_able : RepresentedAble bs c t r
      reaches_able =
          let q = some_lent bs (Reached bs order c t k) h in
          represented_able q.represents (sym (ask _ q.job q.represents) ∙ f)

      -- it is: one step more
      pub reaches_more : (d : List ℕ) (u : Control) →
          ((lent : List ℕ) (x : Job) → Represents bs lent c t x → able s x r ≡ true → Represents bs lent d u (step s r x)) →
          Reaches bs order d u (k + 1)
      reaches_more d u go lent room =
          let q = h lent room in
          let can = ask lent q.job q.represents in
          record {
            job = step s r q.job;
            represents = go lent q.job q.represents (sym can ∙ f);
            left = q.left ∙ next true f q.job (sym f ∙ can);
          }

  -- behind the last rank the order is accepted
  pub reaches_end : length order ≤ k → Follows bs order c (record { refused_at = None; control = t })
  unfolding follow_from
  reaches_end l lent room =
      let q = h lent room in
      let done : drop k order ≡ [] = drop_of_length-le order {i = k} l in
      record {
        job = q.job;
        represents = q.represents;
        said = q.left ∙ ap (λ (rs : List ℕ). follow_from k s rs q.job) done;
      }
