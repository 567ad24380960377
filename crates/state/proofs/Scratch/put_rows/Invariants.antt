-- The invariant of `Scratch::put_rows`.
use Rattle.state.specs.Start.{Bare}
use Rattle.state.proofs.Scratch.put_rows.Given as goal

abbrev pub invariant-loop-i : goal.invariant-loop-i
invariant-loop-i l = Bare l.initial.self l.self l.n l.i
