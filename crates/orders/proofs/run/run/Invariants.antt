-- The invariant and the measure of `orders::run::run`.
use Rattle.std.proofs.Common.{◌-◌}
use Rattle.rules.specs.Limits.{order_room}
use Rattle.rules.specs.Sheet.{sheet_in, N_of}
use Rattle.orders.specs.Runs.{Running}
use Rattle.orders.proofs.run.run.Given as goal

abbrev pub invariant-loop-r : goal.invariant-loop-r
invariant-loop-r l = Running l.s l.initial.out l.c l.out l.t l.k

abbrev pub decreases-loop-r : goal.decreases-loop-r
decreases-loop-r l = order_room (N_of (sheet_in l.s)) - l.k
