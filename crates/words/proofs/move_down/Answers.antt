-- `words::move_down` meets its contract. Assumes nothing.
use Rattle.std.proofs.Common.{arith, ◌+◌, ◌∙◌}
use Rattle.words.specs.Putting.{part_moved}
use Rattle.words.proofs.move_down.Goals as goal

pub returns : goal.returns
returns c =
    let a = c.args in
    c.copy_within.ensures.after ∙ part_moved a.s.now a.at (a.at + a.gap) a.n (omega arith)
