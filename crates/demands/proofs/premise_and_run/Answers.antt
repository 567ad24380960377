-- `demands::premise_and_run` meets its contract: one outcome for all full orders, by what each ensures. Assumes nothing.
use Rattle.demands.proofs.Calls.{one_for_all}
use Rattle.demands.proofs.premise_and_run.Goals as goal

pub returns : goal.returns
returns c =
    let ran = c.jamturret_run-second in
    let asked = c.jamturret_premise-first in
    let a = c.args in
    one_for_all asked.result asked.ensures
    (record {
      scratch = a.scratch.now;
      scratch_now = ran.new.scratch;
      said = ran.ensures;
    })
