-- The invariant of `requests::script_refusal`.
use Rattle.rules.specs.Sheet.{sheet_in}
use Rattle.rules.specs.Refusal.{request_good}
use Rattle.laws.specs.Scripts.{Searched}
use Rattle.requests.specs.Requests.{Kept}
use Rattle.requests.proofs.script_refusal.Given as goal

abbrev pub invariant-loop-i : goal.invariant-loop-i
invariant-loop-i l = Searched (sheet_in l.s) 7 (request_good (sheet_in l.s)) l.r l.i l.i-end × Kept (sheet_in l.s) l.r l.i l.table.starts l.table.ends
