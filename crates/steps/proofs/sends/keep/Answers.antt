-- `steps::sends::keep` meets its contract: the account is asked for what the sheet says. Assumes nothing.
use Rattle.steps.specs.Pending.{keeps_by}
use Rattle.steps.proofs.sends.keep.Goals as goal

pub returns : goal.returns
returns c =
    keeps_by c.charge-2.ensures c.charge.ensures.is
    c.size.ensures.is
