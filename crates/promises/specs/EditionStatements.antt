-- What is promised of the two editions (document 02, K6): with all rooms 0 a sheet of the second edition steps exactly as the sheet of
-- the first with the same boards and operations, and its report is that one with four zero bytes after each board row. That nothing
-- else depends on the edition is said by the definitions: a decoded sheet has no edition. Assumes nothing: these are statements.
use Rattle.std.specs.Prelude.{◌≡◌, true, false, List, ◌∷◌, ◌++◌, ℕ, zero, suc, ◌<◌, take, drop}
use Rattle.rules.specs.Limits.{report_header_size, report_size}
use Rattle.rules.specs.Sheet.{Sheet, board, second_in, sheet_in, P_of, N_of}
use Rattle.rules.specs.Report.{report}
use Rattle.rules.specs.Claims.{passes, left_by}
use Rattle.promises.specs.Statements.{Lent}
use Rattle.promises.specs.ServiceStatements.{FollowCall, RunCall, told_in}

-- no board has a room
unfoldable pub NoRooms : Sheet → Type 0
NoRooms s = (r : ℕ) → r < P_of s → (board s r).room ≡ 0

-- a report of the first edition, with four zero bytes after each of its p board rows
unfoldable pub wide_rows : (p : ℕ) → List ℕ → List ℕ
wide_rows zero bs = bs
wide_rows (suc k) bs = take 8 bs ++ (0 ∷ 0 ∷ 0 ∷ 0 ∷ wide_rows k (drop 8 bs))

unfoldable pub widened : (p : ℕ) → (report : List ℕ) → List ℕ
widened p bs = take report_header_size bs ++ wide_rows p (drop report_header_size bs)

-- The reports of one job in both editions.
unfoldable pub WiderRows : Type 0
WiderRows =
    (bs i rs : List ℕ) → Lent bs i →
    let s = sheet_in bs in
    NoRooms s → report true s (left_by s rs i) ≡ widened (P_of s) (report false s (left_by s rs i))

-- Two sheets with the same communicators, boards, operations and payload, the one of the first edition and the other of the
-- second, with all rooms 0.
pub record SameInBoth (a b : List ℕ) : Type 0 where
  pub first : second_in a ≡ false
  pub second : second_in b ≡ true
  pub comms : (sheet_in a).comms ≡ (sheet_in b).comms
  pub boards : P_of (sheet_in a) ≡ P_of (sheet_in b)
  pub firsts : (r : ℕ) → r < P_of (sheet_in b) → (board (sheet_in a) r).first ≡ (board (sheet_in b) r).first
  pub counts : (r : ℕ) → r < P_of (sheet_in b) → (board (sheet_in a) r).count ≡ (board (sheet_in b) r).count
  pub attached : (r : ℕ) → r < P_of (sheet_in b) → (board (sheet_in a) r).attached ≡ (board (sheet_in b) r).attached
  pub inboxes : (r : ℕ) → r < P_of (sheet_in b) → (board (sheet_in a) r).inbox ≡ (board (sheet_in b) r).inbox
  pub no_rooms : NoRooms (sheet_in b)
  pub ops : (sheet_in a).ops ≡ (sheet_in b).ops
  pub payload : (sheet_in a).payload ≡ (sheet_in b).payload

-- what two calls with number 0 left, of the first edition and of the second
unfoldable pub WidenedLeft : (a i r j q : List ℕ) → Type 0
WidenedLeft a i r j q =
    let s = sheet_in a in
    (i ≡ j) × (take (report_size true (P_of s) (N_of s)) q ≡ widened (P_of s) (take (report_size false (P_of s) (N_of s)) r))

-- Follow, of one order and one inbox: the same number and place, and on success the same inbox and the widened report.
unfoldable pub FollowEditions : Type 0
FollowEditions =
    (a b order : List ℕ) (f : FollowCall a order) (g : FollowCall b order) → SameInBoth a b → passes a ≡ true → passes b ≡ true →
    f.inbox ≡ g.inbox →
    (f.number ≡ g.number) × (f.place ≡ g.place)
    × (f.number ≡ 0 → WidenedLeft a f.inbox_now f.report_now g.inbox_now g.report_now)

-- Run, of one inbox: both succeed, with the same order, inbox and the widened report.
unfoldable pub RunEditions : Type 0
RunEditions =
    (a b : List ℕ) (f : RunCall a) (g : RunCall b) → SameInBoth a b → passes a ≡ true → passes b ≡ true → f.inbox ≡ g.inbox →
    (f.number ≡ 0) × (g.number ≡ 0)
    × WidenedLeft a f.inbox_now f.report_now g.inbox_now g.report_now
    × (take (told_in false (sheet_in a) f.report_now).steps f.order_now
    ≡ take (told_in true (sheet_in b) g.report_now).steps g.order_now)
