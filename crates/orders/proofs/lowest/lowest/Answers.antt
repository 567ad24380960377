-- `orders::lowest::lowest` meets its contract. The loop's invariant: no rank below r is able. Assumes nothing.
use Rattle.std.proofs.Common.{arith}
use Rattle.orders.specs.Lowest.{sought_none, sought_found, sought_more, sought_all}
use Rattle.orders.proofs.lowest.lowest.Goals as goal

pub loop-r-init : goal.loop-r-init
loop-r-init c =
    let a = c.args in
    sought_none a.s.now a.c.now a.t

pub returns-then-is_able : goal.returns-then-is_able
returns-then-is_able c =
    let asked = c.is_able in
    sought_found c.loop-r.invariant (omega arith) asked.result asked.ensures c.if-is_able.true

pub loop-r-preserved : goal.loop-r-preserved
loop-r-preserved c =
    let asked = c.is_able in
    sought_more c.loop-r.invariant (omega arith) asked.result asked.ensures c.if-is_able.false

pub returns : goal.returns
returns c = sought_all c.loop-r.invariant (omega arith)
