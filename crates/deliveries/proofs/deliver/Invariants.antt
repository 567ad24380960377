-- The invariant of `deliveries::deliver`.
use Rattle.rules.specs.Sheet.{sheet_in}
use Rattle.deliveries.specs.Deliveries.{Filling}
use Rattle.deliveries.proofs.deliver.Given as goal

abbrev pub invariant-loop-r : goal.invariant-loop-r
invariant-loop-r l = Filling (sheet_in l.s) l.c l.initial.inbox l.r l.start l.inbox
