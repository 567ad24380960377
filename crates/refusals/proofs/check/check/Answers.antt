-- `refusals::check::check` meets its contract: refusals 1 to 3 have settled where the tables stand. Assumes nothing.
use Rattle.std.proofs.Common.{sym, ◌∙◌}
use Rattle.laws.specs.Laid.{laid}
use Rattle.refusals.proofs.check.check.Goals as goal

pub new-sheet-requires : goal.new-sheet-requires
new-sheet-requires c =
    laid c.args.s.now (sym c.sizes_are_good.ensures ∙ c.in_ok-ensure-2.ensures) (sym c.layout_is_good.ensures ∙ c.in_ok-ensure-3.ensures)
