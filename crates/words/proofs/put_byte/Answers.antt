-- `words::put_byte` meets its contract: one store is a splice of one byte. Assumes nothing.
use Rattle.std.proofs.Common.{[], arith, ◌∷◌}
use Rattle.laws.specs.Splice.{sets_splice}
use Rattle.words.proofs.put_byte.Goals as goal

pub returns : goal.returns
returns c =
    let a = c.args in
    sets_splice a.s.now a.at (a.v ∷ []) (omega arith)
