-- The invariant of `premise::cover::charges`: sum is the charges of the script before operation i.
use Rattle.rules.specs.Sheet.{sheet_in}
use Rattle.account.specs.Stores.{stands_for}
use Rattle.premise.specs.Charges.{Summed}
use Rattle.premise.proofs.cover.charges.Given as goal

abbrev pub invariant-loop-i : goal.invariant-loop-i
invariant-loop-i l = Summed (stands_for l.w) (sheet_in l.s) l.r l.i l.i-end l.sum
