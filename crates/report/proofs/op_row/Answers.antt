-- `report::op_row` meets its contract: ten bytes of scratch and two zeros are the row. Assumes nothing.
use Rattle.std.proofs.Common.{rules, Fits, w8, List, ap, arith, drop, get_or, length, take, ℕ, ◌<◌, ◌∙◌, ◌≡◌}
use Rattle.rules.specs.Step.{splice}
use Rattle.rules.specs.Report.{low_two}
use Rattle.laws.specs.Splice.{splice_then}
use Rattle.words.specs.Putting.{part_length}
use Rattle.state.specs.Layout.{row_at}
use Rattle.report.specs.ReportRows.{row_copied}
use Rattle.report.proofs.op_row.Goals as goal

pub returns : goal.returns
unfolding low_two
returns c =
    let two = c.put_two in
    let a = c.args in
    let same : c.bytes-bytes.result.now ≡ a.c.now = c.bytes-bytes.ensures in
    let fits : (k : ℕ) → Fits w8 (get_or c.bytes-bytes.result.now k 0) = λ k. search rules in
    let bound : (k : ℕ) → get_or a.c.now k 0 < 256 = λ k. omega (arith, fits k, ap (λ (bs : List ℕ). get_or bs k 0) same) in
    let figures = take 10 (drop (row_at a.i) a.c.now) in
    let long : length figures ≡ 10 = part_length a.c.now (row_at a.i) 10 (omega arith) in
    splice_then a.out.now c.copy.new.s two.new.s a.at 10 figures (low_two 0)
    (c.copy.ensures ∙ ap (λ (bs : List ℕ). splice a.out.now a.at (take 10 (drop (row_at a.i) bs))) same) long two.ensures (omega arith)
    ∙ ap (λ (vs : List ℕ). splice a.out.now a.at vs) (row_copied a.c.now bound a.i (omega arith))
