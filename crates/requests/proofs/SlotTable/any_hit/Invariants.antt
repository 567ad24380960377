-- The invariant of `SlotTable::any_hit`: found says whether one of the rows passed was hit.
use Rattle.std.proofs.Common.{◌≡◌}
use Rattle.rules.specs.Refusal.{some_below}
use Rattle.requests.specs.Slots.{hit}
use Rattle.requests.proofs.SlotTable.any_hit.Given as goal

abbrev pub invariant-loop-k : goal.invariant-loop-k
invariant-loop-k l = l.found ≡ some_below l.k (hit l.self.starts l.self.ends l.from l.to)
