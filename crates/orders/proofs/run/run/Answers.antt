-- `orders::run::run` meets its contract. The loop's invariant: whatever inboxes are lent, the run has taken k steps, whose order
-- stands in front of the room. The measure is the room left for steps. Assumes nothing.
use Rattle.std.proofs.Common.{arith, ◌<◌}
use Rattle.rules.specs.Limits.{order_room}
use Rattle.rules.specs.Sheet.{sheet_in, N_of}
use Rattle.orders.specs.Jobs.{some_lent, represented}
use Rattle.orders.specs.Runs.{Ran, running_none, running_low, running_room, running_able, running_more, running_end}
use Rattle.orders.proofs.run.run.Goals as goal
use Rattle.orders.proofs.run.run.Goals.{In-Some}

pub loop-r-init : goal.loop-r-init
loop-r-init c = running_none c.args.s.now c.args.out.now c.start-t.new.c c.start-t.result c.start-t.ensures

pub lowest-requires : goal.lowest-requires
lowest-requires c =
    let l = c.loop-r in
    represented (some_lent c.args.s.now (Ran c.args.s.now c.args.out.now l.c l.out l.t l.k) l.invariant).represents

-- a rank was found: the order has room for it
room : (c : In-Some) → c.loop-r.k < order_room (N_of (sheet_in c.args.s.now))
room c = running_room c.loop-r.invariant c.in-Some.ensures

pub overflow_cast-out : goal.overflow_cast-out
overflow_cast-out c = omega (arith, running_low c.loop-r.invariant c.in-Some.ensures, c.requires.0.boards_few)

pub bounds-out-k : goal.bounds-out-k
bounds-out-k c = omega (arith, c.requires.1, room c)

pub take-t-requires : goal.take-t-requires
take-t-requires c = running_able c.loop-r.invariant c.in-Some.ensures

pub overflow_add-k : goal.overflow_add-k
overflow_add-k c = omega (arith, room (goal.at.overflow_add-k c).In-Some, c.requires.1)

pub loop-r-smaller : goal.loop-r-smaller
loop-r-smaller c = omega (arith, room (goal.at.loop-r-smaller c).In-Some)

pub loop-r-preserved : goal.loop-r-preserved
loop-r-preserved c = running_more c.loop-r.invariant c.in-Some.ensures c.requires.1 c.take-t.new.c c.take-t.result c.take-t.ensures

pub returns : goal.returns
returns c = running_end c.loop-r.invariant c.in_default.ensures
