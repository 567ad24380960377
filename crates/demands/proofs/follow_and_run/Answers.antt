-- `demands::follow_and_run` meets its contract: demand 3 of the two calls, by what each ensures. Assumes nothing.
use Rattle.demands.proofs.Calls.{follow_and_run}
use Rattle.demands.proofs.follow_and_run.Goals as goal

pub returns : goal.returns
returns c =
    let second = c.jamturret_run-second in
    let first = c.jamturret_follow-first in
    let a = c.args in
    follow_and_run
    (record {
      scratch = a.scratch.now;
      scratch_now = first.new.scratch;
      said = first.ensures;
    })
    (record {
      scratch = first.new.scratch;
      scratch_now = second.new.scratch;
      said = second.ensures;
    })
