-- Where the fields of an operation and of a board stand, counted from its place (document 01, "The sheet, byte by byte"). Equations of numbers,
-- field by field, so that a reader's contract follows by arithmetic. Assumes nothing.
use Rattle.std.specs.Prelude.{◌≡◌, false, cond, List, ℕ, ◌+◌, ◌<◌, get_or}
use Rattle.std.proofs.Common.{ap, ◌∙◌}
use Rattle.rules.specs.Limits.{boards_at, boards_size}
use Rattle.rules.specs.Sheet.{Op, Board, board, op_in, board_in, sheet_in, second_in, P_in, two}
use Rattle.laws.specs.Tests.{cond_false}
use Rattle.laws.specs.Decoded.{board_decoded}

-- the bytes of operation o stand at `at`
abbrev pub OpAt : List ℕ → (at : ℕ) → Op → Type 0
OpAt bs at o =
    (get_or bs at 0 ≡ o.kind) × (get_or bs (at + 1) 0 ≡ o.flag) × (two bs (at + 2) ≡ o.peer) × (two bs (at + 4) ≡ o.comm)
    × (two bs (at + 6) ≡ o.zero_field) × (two bs (at + 8) ≡ o.tag) × (two bs (at + 10) ≡ o.offset)
    × (two bs (at + 12) ≡ o.long) × (two bs (at + 14) ≡ o.slot)

pub op_fields : (bs : List ℕ) (at : ℕ) (o : Op) → op_in bs at ≡ o → OpAt bs at o
op_fields bs at o e = (
  ap (λ (z : Op). z.kind) e,
  ap (λ (z : Op). z.flag) e,
  ap (λ (z : Op). z.peer) e,
  ap (λ (z : Op). z.comm) e,
  ap (λ (z : Op). z.zero_field) e,
  ap (λ (z : Op). z.tag) e,
  ap (λ (z : Op). z.offset) e,
  ap (λ (z : Op). z.long) e,
  ap (λ (z : Op). z.slot) e,
)

-- the bytes of board b stand at `at`; in the second edition those of its room are among them
abbrev pub BoardAt : List ℕ → (at : ℕ) → Board → Type 0
BoardAt bs at b =
    (two bs at ≡ b.first) × (two bs (at + 2) ≡ b.count) × (two bs (at + 4) ≡ b.attached) × (two bs (at + 6) ≡ b.inbox)
    × (cond (second_in bs) (two bs (at + 8)) 0 ≡ b.room)

pub board_fields : (bs : List ℕ) (at : ℕ) (b : Board) → board_in (second_in bs) bs at ≡ b → BoardAt bs at b
board_fields bs at b e = (
  ap (λ (z : Board). z.first) e,
  ap (λ (z : Board). z.count) e,
  ap (λ (z : Board). z.attached) e,
  ap (λ (z : Board). z.inbox) e,
  ap (λ (z : Board). z.room) e,
)

-- a board of the first edition has no room
pub no_room : (bs : List ℕ) (r : ℕ) → r < P_in bs → second_in bs ≡ false → (board (sheet_in bs) r).room ≡ 0
no_room bs r l e =
    ap (λ (z : Board). z.room) (board_decoded bs r l)
    ∙ cond_false (second_in bs) (two bs (boards_at + boards_size (second_in bs) r + 8)) 0 e
