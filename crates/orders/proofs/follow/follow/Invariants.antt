-- The invariant of `orders::follow::follow`.
use Rattle.orders.specs.Follows.{Reaches}
use Rattle.orders.proofs.follow.follow.Given as goal

abbrev pub invariant-loop-k : goal.invariant-loop-k
invariant-loop-k l = Reaches l.s l.order l.c l.control l.k
