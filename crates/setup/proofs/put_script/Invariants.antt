-- The invariant of `setup::put_script`.
use Rattle.rules.specs.Sheet.{sheet_in}
use Rattle.setup.specs.SetupWalk.{Going}
use Rattle.setup.proofs.put_script.Given as goal

abbrev pub invariant-loop-i : goal.invariant-loop-i
invariant-loop-i l = Going (sheet_in l.s) l.r l.i l.i-end l.c l.last
