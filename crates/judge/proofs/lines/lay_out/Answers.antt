-- The lines of a refusal, or those of a report. Assumes nothing.
use Rattle.judge.specs.Outcomes.{lines_of_refusal, lines_of_report}
use Rattle.judge.proofs.lines.lay_out.Goals as goal

pub returns-then-number-ne0 : goal.returns-then-number-ne0
returns-then-number-ne0 c =
    let ran = c.run_from_zeros-answer in
    let h = c.if-number-ne0.true in
    lines_of_refusal c.args.sheet.now ran.result.number ran.result.place h ran.ensures.number (ran.ensures.place h) c.refused.ensures

pub returns : goal.returns
returns c =
    let z = c.run_from_zeros-answer.ensures.reported c.if-number-ne0.false in
    lines_of_report c.args.sheet.now z.passed c.reported.ensures
