-- `jamturret::jobs::run_in_rooms` meets its contract: the run is delivered and reported from what scratch holds. Assumes nothing.
use Rattle.std.proofs.Common.{ap, arith, replicate, ℕ, ◌∙◌}
use Rattle.orders.specs.Jobs.{represented}
use Rattle.orders.specs.Runs.{Ended}
use Rattle.jamturret.specs.Outcomes.{does_run}
use Rattle.jamturret.proofs.jobs.run_in_rooms.Goals as goal
use Rattle.jamturret.proofs.jobs.run_in_rooms.Goals.{After-run-t, Start}

-- the run started from the inboxes that are lent
module _ (c : After-run-t) where
  ended : Ended c.args.sheet.now c.args.order.now c.run-t.new.c c.run-t.new.out c.run-t.result c.args.inbox.now
  ended = c.run-t.ensures c.args.inbox.now c.requires.roomy.inbox

pub run-t-requires : goal.run-t-requires
run-t-requires c =
    let p = c.requires in
    (p.good, p.roomy.order)

pub finish-requires : goal.finish-requires
finish-requires c =
    (represented (ended (goal.at.finish-requires c).After-run-t).represents, c.requires.roomy.inbox, c.requires.roomy.report)

pub returns : goal.returns
returns c =
    let a = c.args in
    let w = ended (goal.at.returns c).After-run-t in
    does_run a.sheet.now a.order.now a.scratch.now w.taken w.job w.said w.represents c.finish.ensures w.out_is (c.zero.ensures ∙ ap (λ (n : ℕ). replicate n 0) (omega arith))
