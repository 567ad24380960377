-- `sheet::boards::at` meets its contract: the table stands behind the header, with entries of the sheet's edition. Assumes nothing.
use Rattle.std.proofs.Common.{Bool, ap, arith, sym, ℕ, ◌+◌, ◌∙◌, ◌≡◌}
use Rattle.rules.specs.Limits.{boards_at, board_size, boards_size}
use Rattle.rules.specs.Sheet.{board, board_in, second_in, sheet_in, P_in}
use Rattle.laws.specs.Editions.{boards_within, at_least_eight}
use Rattle.laws.specs.Decoded.{board_decoded}
use Rattle.sheet.specs.Fields.{board_fields}
use Rattle.sheet.proofs.boards.at.Goals as goal

pub returns : goal.returns
returns c =
    let a = c.args in
    let bs = a.s.now in
    let e = second_in bs in
    let inside = boards_within e a.r (P_in bs) (omega arith) in
    let there : c.boards_size.result ≡ boards_size e a.r =
    c.boards_size.ensures.0 ∙ ap (λ (z : Bool). boards_size z a.r) c.is_second.ensures in (
      board_fields bs (boards_at + c.boards_size.result) (board (sheet_in bs) a.r)
          (ap (λ (k : ℕ). board_in e bs (boards_at + k)) there ∙ sym (board_decoded bs a.r (omega arith))),
      omega (arith, inside, there, (at_least_eight e).0),
      λ second. omega (arith, inside, there, ap (λ (z : Bool). board_size z) second),
    )
