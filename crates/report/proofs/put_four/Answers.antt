-- `report::put_four` meets its contract: two splices side by side. Assumes nothing.
use Rattle.std.proofs.Common.{arith, refl, ◌++◌}
use Rattle.rules.specs.Report.{low_two}
use Rattle.laws.specs.Splice.{splice_then}
use Rattle.report.proofs.put_four.Goals as goal

pub returns : goal.returns
unfolding low_two
returns c =
    let two = c.put_pair-2 in
    let a = c.args in
    splice_then a.out.now c.put_pair.new.s two.new.s a.at 4 (low_two a.k ++ low_two a.l) (low_two a.m ++ low_two a.n)
    c.put_pair.ensures refl two.ensures (omega arith)
