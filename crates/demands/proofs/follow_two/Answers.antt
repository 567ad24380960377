-- `demands::follow_two` meets its contract: demands 2 and 3 of the two calls, and the two editions, by what each ensures. Assumes nothing.
use Rattle.demands.proofs.Calls.{two_follows}
use Rattle.demands.proofs.follow_two.Goals as goal

pub returns : goal.returns
returns c =
    let second = c.jamturret_follow-second in
    let first = c.jamturret_follow-first in
    let a = c.args in
    two_follows
    (record {
      scratch = a.scratch.now;
      scratch_now = first.new.scratch;
      said = first.ensures;
    })
    (record {
      scratch = first.new.scratch;
      scratch_now = second.new.scratch;
      said = second.ensures;
    })
