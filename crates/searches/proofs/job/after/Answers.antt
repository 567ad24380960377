-- `searches::job::after` meets its contract: the order leads to a job that stands in scratch, and the searches are over its list.
-- Assumes nothing.
use Rattle.std.proofs.Common.{List, subst, sym, ℕ, ◌≡◌}
use Rattle.rules.specs.Sheet.{sheet_in}
use Rattle.state.specs.declared.Queue.TheVariants.{Messages}
use Rattle.state.specs.Queues.{base_of}
use Rattle.state.specs.Decoded.{words_in}
use Rattle.search.specs.Search.{Listed}
use Rattle.search.specs.Held.{holds_reads, listed_in}
use Rattle.orders.specs.Jobs.{some_inboxes, some_lent}
use Rattle.orders.specs.Follows.{Answered}
use Rattle.orders.specs.Optional.{option_of}
use Rattle.searches.specs.Jobs.{sum_places}
use Rattle.searches.proofs.Jobs.{found_in_job}
use Rattle.searches.proofs.job.after.Goals as goal
use Rattle.searches.proofs.job.after.Goals.{After-follow-outcome, Start}

-- THE JOB that the order led to, as scratch holds it
module _ (c : After-follow-outcome) where
  abbrev bytes : List ℕ
  bytes = c.args.s.now

  abbrev left : List ℕ
  left = c.follow-outcome.new.c

  answered : Answered bytes c.args.order.now left c.follow-outcome.result (some_inboxes bytes)
  answered = some_lent bytes (Answered bytes c.args.order.now left c.follow-outcome.result) c.follow-outcome.ensures

pub places-requires : goal.places-requires
places-requires c =
    let q = answered (goal.at.places-requires c).After-follow-outcome in
    let d = q.represents in (
      holds_reads {ok = λ s x. Unit {0}} (record { laid = d.laid; valid = d.good; job = q.job; decodes = d.decodes; fine = tt }),
      subst (λ (n : ℕ). Listed (bytes (goal.at.places-requires c).After-follow-outcome) (left (goal.at.places-requires c).After-follow-outcome) Messages n) (sym c.count-count.ensures)
          (listed_in (bytes (goal.at.places-requires c).After-follow-outcome) (left (goal.at.places-requires c).After-follow-outcome) c.follow-outcome.result.control q.job d.decodes Messages d.good d.reached),
      c.requires.1,
    )

pub returns : goal.returns
returns c =
    let q = answered (goal.at.returns c).After-follow-outcome in
    let a = c.args in
    found_in_job (bytes (goal.at.returns c).After-follow-outcome) a.order.now (left (goal.at.returns c).After-follow-outcome) c.follow-outcome.result.control q.job q.represents.decodes a.i a.n c.places.result
    (option_of c.follow-outcome.result.refused_at) q.said
    (subst (λ (m : ℕ). c.places.result ≡ sum_places (sheet_in (bytes (goal.at.returns c).After-follow-outcome)) (words_in (left (goal.at.returns c).After-follow-outcome) (base_of Messages) m) a.i a.n)
    c.count-count.ensures c.places.ensures)
