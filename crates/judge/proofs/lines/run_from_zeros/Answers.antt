-- By what run's contract says of this call. Assumes nothing.
use Rattle.std.proofs.Common.{rules}
use Rattle.judge.specs.Calls.{ran}
use Rattle.judge.proofs.lines.run_from_zeros.Goals as goal

pub returns : goal.returns
returns c =
    let run = c.jamturret_run in
    ran c.args.sheet.now run.new.inbox c.args.report.now run.new.report c.order-order.result run.new.order c.scratch-scratch.result run.new.scratch
    run.result.number run.result.place c.requires run.auto.report (search rules) (search rules) run.ensures
