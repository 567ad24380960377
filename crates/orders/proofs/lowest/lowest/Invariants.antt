-- The invariant of `orders::lowest::lowest`.
use Rattle.orders.specs.Lowest.{Sought}
use Rattle.orders.proofs.lowest.lowest.Given as goal

abbrev pub invariant-loop-r : goal.invariant-loop-r
invariant-loop-r l = Sought l.s l.c l.t l.r
