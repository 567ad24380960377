-- The invariant of `refusals::boards::refusal`: the walk has come to board r with its two sums, and has refused nothing.
use Rattle.rules.specs.Sheet.{sheet_in}
use Rattle.refusals.specs.Boards.{Walked}
use Rattle.refusals.proofs.boards.refusal.Given as goal

abbrev pub invariant-loop-r : goal.invariant-loop-r
invariant-loop-r l = Walked (sheet_in l.s) l.r l.counted l.total
