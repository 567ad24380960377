-- `steps::parts::pend` meets its contract: it becomes pending, and its board goes on. Assumes nothing.
use Rattle.state.specs.Numbers.{state_number}
use Rattle.steps.specs.Pending.{enters, pended_holds, pended_initiated}
use Rattle.steps.proofs.parts.pend.Goals as goal

pub pend-u-requires : goal.pend-u-requires
pend-u-requires c =
    let p = c.requires in
    let e = enters c.args.list p in
    (e.few, e.room)

pub initiate-requires : goal.initiate-requires
initiate-requires c =
    let a = c.args in
    (pended_holds a.list a.r a.i (state_number a.state) c.pend-u.ensures c.requires, c.requires.fine.inside)

pub returns : goal.returns
returns c =
    let a = c.args in
    pended_initiated a.list a.r a.i (state_number a.state) c.pend-u.ensures c.initiate.ensures
