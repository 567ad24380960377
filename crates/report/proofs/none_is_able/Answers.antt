-- `report::none_is_able` meets its contract: no board is able where there is no lowest rank. Assumes nothing.
use Rattle.std.proofs.Common.{◌≡◌, ℕ, Option, None, Some, Bool, true, false, not, refl, sym, ◌∙◌}
use Rattle.std.specs.Option.{is_some}
use Rattle.rules.specs.Sheet.{sheet_in}
use Rattle.rules.specs.Step.{is_none}
use Rattle.orders.specs.Optional.{option_of}
use Rattle.orders.specs.Lowest.{lowest_none_able}
use Rattle.report.proofs.none_is_able.Goals as goal

same : (o : Option ℕ) (b : Bool) → is_some o ≡ not b → b ≡ is_none (option_of o)
unfolding is_none
same None true e = refl
same None false e = cc
same (Some r) true e = cc
same (Some r) false e = refl

pub returns : goal.returns
returns c = λ lent x d.
    same c.lowest.result c.is_none.result c.is_none.ensures ∙ sym (lowest_none_able (sheet_in c.args.s.now) x c.lowest.result (c.lowest.ensures lent x d))
