-- The text of the report's own bytes, and the numbers that are told of it. Assumes nothing.
use Rattle.std.proofs.Common.{◌≡◌, ◌∙◌, ap, List, ℕ, ◌*◌, ◌≤◌, length, take, arith}
use Rattle.std.proofs.Math.Seq.{length-take-le}
use Rattle.rules.specs.Limits.{report_size}
use Rattle.rules.specs.Sheet.{sheet_in, second_in, P_of, N_of}
use Rattle.rules.specs.Step.{splice}
use Rattle.text.specs.Text.{hex_line, numbers_line}
use Rattle.text.specs.Lines.{line_stands}
use Rattle.text.specs.Lengths.{hex_line_length}
use Rattle.text.proofs.Lengths.{numbers_line_most}
use Rattle.judge.specs.Printed.{report_line, facts_line}
use Rattle.judge.specs.Outcomes.{facts_long, facts_told}
use Rattle.judge.proofs.lines.reported.Goals as goal
use Rattle.judge.proofs.lines.reported.Goals.{After-size-own}

-- the report's own bytes lie in its room
module _ (c : After-size-own) where
  abbrev own : ℕ
  own = c.size-own.result

  abbrev room : List ℕ
  room = c.args.report.now

  inside : own ≤ length room
  inside = omega (arith, c.size-own.ensures.1, c.requires.0.long)

  long : length (take own room) ≡ own
  long = length-take-le own room inside

  -- and are the report
  printed_is : hex_line (take own room) ≡ report_line c.args.sheet.now
  unfolding report_line
  printed_is =
      let size_is = c.size-own.ensures.0 ∙ ap (λ (bs : List ℕ). report_size (second_in bs) (P_of (sheet_in bs)) (N_of (sheet_in bs))) c.new.ensures in
      ap hex_line (ap (λ (k : ℕ). take k room) size_is ∙ c.requires.0.own)

  size : 3 * own ≡ length (report_line c.args.sheet.now)
  size = omega (arith, ap length printed_is, hex_line_length (take own room), long)

pub returns : goal.returns
returns c =
    let k = (goal.at.returns c).After-size-own in
    let a = c.args in
    let bs = a.sheet.now in
    let put = c.hex_line in
    let premise = c.jamturret_premise-answer in
    let facts = c.facts-numbers in
    let told = c.numbers_line-told_size in
    let same : numbers_line facts.result ≡ facts_line bs =
    ap numbers_line facts.ensures ∙ facts_told bs a.report.now premise.result.number premise.result.place c.requires.0 premise.ensures in
    record {
      is = line_stands a.line.now put.new.line (report_line bs) (3 * own k) (put.ensures ∙ ap (λ (l : List ℕ). splice a.line.now 0 l) (printed_is k)) (size k);
      told_is = line_stands a.told.now told.new.line (facts_line bs) told.result (told.ensures.0 ∙ ap (λ (l : List ℕ). splice a.told.now 0 l) same) (told.ensures.1 ∙ ap length same);
      fits = omega (arith, c.size-own.ensures.1);
      told_fits = omega (arith, told.ensures.1, numbers_line_most facts.result, ap length facts.ensures, facts_long a.report.now premise.result.number premise.result.place);
    }
