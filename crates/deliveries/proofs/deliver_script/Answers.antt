-- `deliveries::deliver_script` meets its contract. The loop's invariant: the operations of the script before i are
-- delivered. Assumes nothing.
use Rattle.std.proofs.Common.{arith}
use Rattle.rules.specs.Sheet.{sheet_in}
use Rattle.deliveries.specs.Deliveries.{scripting_more, replaying_at}
use Rattle.deliveries.proofs.deliver_script.Goals as goal

pub loop-i-preserved : goal.loop-i-preserved
loop-i-preserved c =
    let one = c.deliver_one in
    let l = c.loop-i in
    let a = c.args in
    scripting_more (sheet_in a.s.now) a.c.now a.r a.inbox.now l.i l.inbox one.new.inbox l.invariant one.ensures (omega arith)

pub returns : goal.returns
returns c = λ lent q. replaying_at (omega arith) (c.loop-i.invariant.goes lent q)
