-- The invariant of `requests::forgotten::script_refusal`.
use Rattle.rules.specs.Sheet.{sheet_in}
use Rattle.requests.specs.Forgotten.{Walked}
use Rattle.requests.proofs.forgotten.script_refusal.Given as goal

abbrev pub invariant-loop-i : goal.invariant-loop-i
invariant-loop-i l = Walked (sheet_in l.s) l.r l.i l.freed l.found
