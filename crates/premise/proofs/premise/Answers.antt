-- `premise::premise` meets its contract: a sheet that check accepts has its tables in place. Assumes nothing.
use Rattle.std.proofs.Common.{List, ℕ, subst, sym}
use Rattle.rules.specs.Sheet.{sheet_in}
use Rattle.laws.specs.Tabled.{Tabled}
use Rattle.sheet.specs.Refused.{accepts}
use Rattle.invariant.specs.sheet.FromBytes.{Accepted, unrefused_accepted, accepted_tabled}
use Rattle.premise.proofs.premise.Goals as goal

pub calm-requires : goal.calm-requires
calm-requires c =
    let bs = c.args.sheet.now in
    let passed : Accepted bs = unrefused_accepted bs (accepts _ c.in_ok-sheet.ensures.refuses) in
    subst (λ (b : List ℕ). Tabled (sheet_in b)) (sym c.in_ok-sheet.ensures.sheet) (accepted_tabled bs passed)
