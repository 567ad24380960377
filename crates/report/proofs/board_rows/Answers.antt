-- `report::board_rows` meets its contract. The loop's invariant: the rows of the boards before r are written, of every
-- job that stands in scratch. Assumes nothing.
use Rattle.std.proofs.Common.{ap, arith, ℕ, ◌∙◌, ◌≡◌}
use Rattle.rules.specs.Limits.{report_header_size, board_rows_size}
use Rattle.rules.specs.Sheet.{sheet_in, P_of}
use Rattle.rules.specs.Step.{splice}
use Rattle.rules.specs.Report.{board_row}
use Rattle.report.specs.ReportRows.{joined, board_rows_long, rowing_none, rowing_more}
use Rattle.laws.specs.Editions.{rows_within}
use Rattle.laws.specs.ReportRows.{board_row_length}
use Rattle.report.proofs.board_rows.Goals as goal

pub loop-r-init : goal.loop-r-init
loop-r-init c =
    let s = sheet_in c.args.s.now in
    λ lent x d. rowing_none (board_row c.args.second s x) report_header_size c.args.out.now (omega (arith, c.requires.1))

pub board_row-requires : goal.board_row-requires
board_row-requires c = (
  c.requires.0,
  omega arith,
  omega (arith, c.requires.1, rows_within c.args.second c.loop-r.r (P_of (sheet_in c.args.s.now)) (omega arith)),
)

pub loop-r-preserved : goal.loop-r-preserved
loop-r-preserved c =
    let l = c.loop-r in
    let s = sheet_in c.args.s.now in
    let e = c.args.second in
    λ lent x d.
    rowing_more (board_rows_size e l.r) (board_rows_long e s x l.r) (l.invariant lent x d) (c.board_row.ensures lent x d)
    (omega (arith, c.requires.1, board_row_length e s x l.r, rows_within e l.r (P_of s) (omega arith)))

pub returns : goal.returns
returns c =
    let l = c.loop-r in
    let a = c.args in
    let s = sheet_in a.s.now in
    let all : l.r ≡ P_of s = omega arith in
    λ lent x d. (l.invariant lent x d).is ∙ ap (λ (k : ℕ). splice a.out.now report_header_size (joined (board_row a.second s x) 0 k)) all
