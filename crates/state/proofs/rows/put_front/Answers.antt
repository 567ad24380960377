-- `state::rows::put_front` meets its contract: three splices side by side are one. Assumes nothing.
use Rattle.std.proofs.Common.{[], arith, refl, ◌∷◌}
use Rattle.rules.specs.Report.{low_two}
use Rattle.laws.specs.Splice.{splice_then}
use Rattle.state.proofs.rows.put_front.Goals as goal

pub returns : goal.returns
unfolding low_two
returns c =
    let a = c.args in
    let one = c.put_byte in
    let two = c.put_byte-2 in
    let three = c.put_two in
    let both = splice_then a.c.now one.new.s two.new.s a.at 1 (a.state ∷ []) (a.cut ∷ []) one.ensures refl two.ensures (omega arith) in
    splice_then a.c.now two.new.s three.new.s a.at 2 (a.state ∷ a.cut ∷ []) (low_two a.partner) both refl three.ensures (omega arith)
