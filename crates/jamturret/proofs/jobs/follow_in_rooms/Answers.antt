-- `jamturret::jobs::follow_in_rooms` meets its contract: a refused order leaves inbox and report, an accepted one is delivered and
-- reported from what scratch holds. Assumes nothing.
use Rattle.std.proofs.Common.{Option, ap, arith, replicate, ℕ, ◌∙◌}
use Rattle.rules.specs.Order.{followed}
use Rattle.orders.specs.Jobs.{represented}
use Rattle.orders.specs.Follows.{Answered}
use Rattle.orders.specs.Optional.{option_of}
use Rattle.jamturret.specs.Outcomes.{does_refused, does_followed}
use Rattle.jamturret.proofs.jobs.follow_in_rooms.Goals as goal
use Rattle.jamturret.proofs.jobs.follow_in_rooms.Goals.{After-follow-outcome, Start}

-- the order was followed from the inboxes that are lent
module _ (c : After-follow-outcome) where
  answered : Answered c.args.sheet.now c.args.order.now c.follow-outcome.new.c c.follow-outcome.result c.args.inbox.now
  answered = c.follow-outcome.ensures c.args.inbox.now c.requires.roomy.inbox

-- scratch is as long as it was lent when it is zeroed
pub returns-in-Some : goal.returns-in-Some
returns-in-Some c =
    let a = c.args in
    let w = answered (goal.at.returns-in-Some c).After-follow-outcome in
    let refused = w.said ∙ ap (λ (k : Option ℕ). followed (option_of k) w.job) c.in-Some.is in
    does_refused a.sheet.now a.order.now a.inbox.now a.out.now a.scratch.now c.zero.new.s _ w.job refused
    (c.zero.ensures ∙ ap (λ (n : ℕ). replicate n 0) (omega arith))

pub finish-requires : goal.finish-requires
finish-requires c =
    (represented (answered (goal.at.finish-requires c).After-follow-outcome).represents, c.requires.roomy.inbox, c.requires.roomy.report)

pub returns : goal.returns
returns c =
    let a = c.args in
    let w = answered (goal.at.returns c).After-follow-outcome in
    let accepted = w.said ∙ ap (λ (k : Option ℕ). followed (option_of k) w.job) c.in_default.is in
    does_followed a.sheet.now a.order.now a.scratch.now w.job accepted w.represents c.finish.ensures
    (c.zero-2.ensures ∙ ap (λ (n : ℕ). replicate n 0) (omega arith))
