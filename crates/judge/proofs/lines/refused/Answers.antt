-- One line, put at the start of both rooms. Assumes nothing.
use Rattle.std.proofs.Common.{[], ◌∷◌, arith}
use Rattle.text.specs.Lines.{line_stands}
use Rattle.text.proofs.Lengths.{numbers_line_most}
use Rattle.judge.specs.Printed.{refusal_line}
use Rattle.judge.proofs.lines.refused.Goals as goal

pub returns : goal.returns
unfolding refusal_line
returns c =
    let a = c.args in
    let put = c.numbers_line-size in
    let told = c.numbers_line-told_size in
    let most = numbers_line_most (a.number ∷ a.place ∷ []) in
    record {
      is = line_stands a.line.now put.new.line (refusal_line a.number a.place) put.result put.ensures.0 put.ensures.1;
      told_is = line_stands a.told.now told.new.line (refusal_line a.number a.place) told.result told.ensures.0 told.ensures.1;
      fits = omega (arith, put.ensures.1, most);
      told_fits = omega (arith, told.ensures.1, most);
    }
