-- The invariant of `deliveries::deliver_script`.
use Rattle.rules.specs.Sheet.{sheet_in}
use Rattle.deliveries.specs.Deliveries.{Scripting}
use Rattle.deliveries.proofs.deliver_script.Given as goal

abbrev pub invariant-loop-i : goal.invariant-loop-i
invariant-loop-i l = Scripting (sheet_in l.s) l.c l.r l.initial.inbox l.i l.inbox
