-- `jamturret::jobs::finish` meets its contract: inboxes and report are those of every job that stands in scratch. Assumes nothing.
use Rattle.deliveries.specs.Deliveries.{deliverable}
use Rattle.jamturret.proofs.jobs.finish.Goals as goal

pub deliver-requires : goal.deliver-requires
deliver-requires c =
    (deliverable c.args.sheet.now c.args.scratch.now c.args.t c.requires.0, c.requires.1)

pub returns : goal.returns
returns c =
    record {
      delivered = λ x d. c.deliver.ensures c.args.t x d;
      reported = λ x d. c.write.ensures c.args.inbox.now x d;
    }
