-- `Sheet::frees_slot` meets its contract: the test of the kind by name is the definition's. Assumes nothing.
use Rattle.std.proofs.Common.{refl, ◌∙◌}
use Rattle.rules.specs.Sheet.{frees_slot, is_wait}
use Rattle.sheet.proofs.Sheet.frees_slot.Goals as goal

pub returns : goal.returns
unfolding frees_slot is_wait
returns c = c.is.ensures ∙ refl
