-- `words::two_at` meets its contract. Assumes nothing.
use Rattle.std.proofs.Common.{arith}
use Rattle.rules.specs.Sheet.{two}
use Rattle.words.proofs.two_at.Goals as goal

pub returns : goal.returns
unfolding two
returns c = omega arith
