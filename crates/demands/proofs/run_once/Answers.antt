-- `demands::run_once` meets its contract: demands 1 and 2 of the call, by what it ensures. Assumes nothing.
use Rattle.demands.proofs.Calls.{run_keeps}
use Rattle.demands.proofs.run_once.Goals as goal

pub returns : goal.returns
returns c =
    let ran = c.jamturret_run in
    let a = c.args in
    run_keeps
    (record {
      scratch = a.scratch.now;
      scratch_now = ran.new.scratch;
      said = ran.ensures;
    })
