-- `refusals::check::tables` meets its contract: each refusal that accepts settles what the next one asks. Assumes nothing.
use Rattle.std.proofs.Common.{arith, rules}
use Rattle.rules.specs.Sheet.{sheet_in}
use Rattle.rules.specs.Refusal.{op_good, ops_refusal}
use Rattle.laws.specs.Tabled.{Tabled, tabled}
use Rattle.laws.specs.Fields.{fielded}
use Rattle.rules.specs.Service.{Answers}
use Rattle.sheet.specs.Refused.{accepts}
use Rattle.refusals.proofs.check.tables.Goals as goal
use Rattle.refusals.proofs.check.tables.Goals.{In_ok-refusal}

boards_settled : (c : In_ok-refusal) → Tabled (sheet_in c.args.s.now)
boards_settled c = tabled _ (accepts _ c.in_ok-refusal.ensures)

pub refusal-requires-2 : goal.refusal-requires-2
refusal-requires-2 c =
    let settled = boards_settled c in
    (settled, λ r l. search rules)

pub requests-requires : goal.requests-requires
unfolding ops_refusal
requests-requires c =
    let s = sheet_in c.args.s.now in
    let sixth : Answers (ops_refusal s) 0 0 = c.in_ok-refusal-2.ensures 6 (op_good s) (omega arith) (λ r l said p. search rules) in
    (boards_settled (goal.at.requests-requires c).In_ok-refusal, fielded s (accepts _ sixth))
