-- `report::size` meets its contract: of the edition, P and N that were read. Assumes nothing.
use Rattle.std.proofs.Common.{Bool, List, ap₂, arith, ℕ, ◌≡◌}
use Rattle.rules.specs.Limits.{board_rows_size}
use Rattle.rules.specs.Sheet.{second_in, sheet_in, P_of}
use Rattle.laws.specs.Editions.{rows_most}
use Rattle.laws.specs.Laid.{Laid}
use Rattle.report.proofs.size.Goals as goal

pub returns : goal.returns
returns c =
    let bytes : List ℕ = c.args.s.now in
    let l : Laid bytes = c.known.ensures in
    let rows : board_rows_size c.is_second.result c.boards.result
    ≡ board_rows_size (second_in bytes) (P_of (sheet_in bytes)) =
    ap₂ (λ (e : Bool) (p : ℕ). board_rows_size e p) c.is_second.ensures
    c.boards.ensures.is in
    let ops = c.ops.ensures.is in (
      omega (arith, c.report_size.ensures, rows, ops, l.N_is),
      omega (arith, c.report_size.ensures, rows, ops, l.few_ops, l.P_is, l.few_boards, rows_most (second_in bytes) (P_of (sheet_in bytes))),
    )
