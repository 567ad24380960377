-- `state::rows::put_row` meets its contract: three splices side by side are the row's twelve bytes. Assumes nothing.
use Rattle.std.proofs.Common.{arith, refl, ◌++◌, ◌∷◌}
use Rattle.rules.specs.Job.{entry}
use Rattle.rules.specs.Report.{low_two, op_row}
use Rattle.laws.specs.Splice.{splice_then}
use Rattle.state.specs.Layout.{row_at}
use Rattle.state.proofs.rows.put_row.Goals as goal

pub returns : goal.returns
unfolding low_two op_row entry
returns c =
    let a = c.args in
    let one = c.put_front in
    let two = c.put_pair in
    let three = c.put_pair-2 in
    let u = a.state ∷ a.cut ∷ low_two a.partner in
    let v = low_two a.source ++ low_two a.tag in
    let both = splice_then a.c.now one.new.c two.new.s (row_at a.i) 4 u v one.ensures refl two.ensures (omega arith) in
    splice_then a.c.now two.new.s three.new.s (row_at a.i) 8 (u ++ v) (low_two a.long ++ low_two 0) both refl three.ensures (omega arith)
