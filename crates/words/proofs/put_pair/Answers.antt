-- `words::put_pair` meets its contract: two splices side by side are one. Assumes nothing.
use Rattle.std.proofs.Common.{arith, refl}
use Rattle.rules.specs.Report.{low_two}
use Rattle.laws.specs.Splice.{splice_then}
use Rattle.words.proofs.put_pair.Goals as goal

pub returns : goal.returns
unfolding low_two
returns c =
    let a = c.args in
    splice_then a.s.now c.put_two.new.s c.put_two-2.new.s a.at 2 (low_two a.v) (low_two a.w)
    c.put_two.ensures refl c.put_two-2.ensures (omega arith)
