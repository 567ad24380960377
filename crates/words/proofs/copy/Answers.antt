-- `words::copy` meets its contract. Assumes nothing.
use Rattle.std.proofs.Common.{arith, ◌∙◌}
use Rattle.words.specs.Putting.{part_put, part_length, part_named}
use Rattle.words.proofs.copy.Goals as goal

pub returns : goal.returns
returns c =
    let a = c.args in
    part_put a.s.now a.at a.n c.copy_from_slice.new.self _ (c.copy_from_slice.ensures.after ∙ part_named a.src.now a.from a.n)
    (part_length a.src.now a.from a.n (omega arith))
