-- The invariant of `setup::put_tables`.
use Rattle.rules.specs.Sheet.{sheet_in, counts_before}
use Rattle.setup.specs.SetupTables.{Filled}
use Rattle.setup.proofs.put_tables.Given as goal

abbrev pub invariant-loop-r : goal.invariant-loop-r
invariant-loop-r l = Filled (sheet_in l.s) l.c (counts_before (sheet_in l.s) l.r)
