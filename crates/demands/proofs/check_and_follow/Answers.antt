-- `demands::check_and_follow` meets its contract: demands 1 and 2 of the two calls, by what each ensures. Assumes nothing.
use Rattle.demands.proofs.Calls.{check_and_follow}
use Rattle.demands.proofs.check_and_follow.Goals as goal

pub returns : goal.returns
returns c =
    let followed = c.jamturret_follow-second in
    let checked = c.jamturret_check-first in
    let a = c.args in
    check_and_follow
    (record {
      scratch = a.scratch.now;
      scratch_now = followed.new.scratch;
      said = followed.ensures;
    })
    checked.result checked.ensures
