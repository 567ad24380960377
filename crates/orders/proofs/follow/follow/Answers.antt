-- `orders::follow::follow` meets its contract. The loop's invariant: whatever inboxes are lent, the order is followed up to
-- index k. Assumes nothing.
use Rattle.orders.specs.Follows.{reaches_none, reaches_represented, reaches_refused, reaches_able, reaches_more, reaches_end}
use Rattle.orders.proofs.follow.follow.Goals as goal

pub loop-k-init : goal.loop-k-init
loop-k-init c =
    let start = c.start-control in
    reaches_none c.args.s.now c.args.order.now start.new.c start.result start.ensures

pub is_able-requires : goal.is_able-requires
is_able-requires c = reaches_represented c.loop-k.invariant

pub returns-then-not-is_able : goal.returns-then-not-is_able
returns-then-not-is_able c =
    reaches_refused c.loop-k.invariant c.loop-k-test.true c.from-r.ensures c.is_able.result c.is_able.ensures c.if-not-is_able.true

pub take-control-requires : goal.take-control-requires
take-control-requires c =
    reaches_able c.loop-k.invariant c.loop-k-test.true c.from-r.ensures c.is_able.result c.is_able.ensures c.if-not-is_able.false

pub loop-k-preserved : goal.loop-k-preserved
loop-k-preserved c =
    let taken = c.take-control in
    reaches_more c.loop-k.invariant c.loop-k-test.true c.from-r.ensures c.is_able.result c.is_able.ensures c.if-not-is_able.false
    taken.new.c taken.result taken.ensures

pub returns : goal.returns
returns c = reaches_end c.loop-k.invariant c.loop-k-test.false
