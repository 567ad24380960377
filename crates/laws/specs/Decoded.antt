-- The tables of a decoded sheet, entry by entry: entry i of a table stands at the table's start plus i times its width.
-- Assumes nothing.
use Rattle.std.specs.Prelude.{◌≡◌, Bool, false, cond, List, length, get_or, drop}
use Rattle.std.proofs.Math.Path.{refl}
use Rattle.std.proofs.Common.{sym, ◌∙◌, ap, arith, length-drop}
use Prim.Native.Nat.{ℕ, zero, suc, ◌+◌, ◌*◌, ◌<◌, min}
use Rattle.std.proofs.Math.ListN.{length-take}
use Rattle.rules.specs.Limits.{boards_at, board_size, boards_size, op_size, ops_at, payload_at, sheet_size}
use Rattle.rules.specs.Sheet.{Board, op, board, two, P_of, N_of, op_in, ops_in, board_in, boards_in, sheet_in, second_in, P_in, C_in, N_in, L_in, no_op, no_board}
use Rattle.laws.specs.Editions.{boards_none, boards_more}

pub ops_in_length : (bs : List ℕ) (n at : ℕ) → length (ops_in bs n at) ≡ n
unfolding ops_in
ops_in_length bs zero at = refl
ops_in_length bs (suc n) at = ap suc (ops_in_length bs n (at + op_size))

pub boards_in_length : (e : Bool) (bs : List ℕ) (n at : ℕ) → length (boards_in e bs n at) ≡ n
unfolding boards_in
boards_in_length e bs zero at = refl
boards_in_length e bs (suc n) at = ap suc (boards_in_length e bs n (at + board_size e))

ops_in_at : (bs : List ℕ) (n at i : ℕ) → i < n → get_or (ops_in bs n at) i no_op ≡ op_in bs (at + op_size * i)
unfolding ops_in
ops_in_at bs zero at i h = absurd (omega arith)
ops_in_at bs (suc n) at zero h = ap (λ (k : ℕ). op_in bs k) (omega arith)
ops_in_at bs (suc n) at (suc i) h =
    ops_in_at bs n (at + op_size) i (omega arith) ∙ ap (λ (k : ℕ). op_in bs k) (omega arith)

boards_in_at : (e : Bool) (bs : List ℕ) (n at i : ℕ) → i < n →
    get_or (boards_in e bs n at) i no_board ≡ board_in e bs (at + boards_size e i)
unfolding boards_in
boards_in_at e bs zero at i h = absurd (omega arith)
boards_in_at e bs (suc n) at zero h = ap (λ (k : ℕ). board_in e bs k) (omega (arith, boards_none e))
boards_in_at e bs (suc n) at (suc i) h =
    boards_in_at e bs n (at + board_size e) i (omega arith)
    ∙ ap (λ (k : ℕ). board_in e bs k) (omega (arith, boards_more e i))

module _ (bs : List ℕ) where
  pub P_decoded : P_of (sheet_in bs) ≡ P_in bs
  unfolding P_of sheet_in
  P_decoded = boards_in_length (second_in bs) bs (P_in bs) boards_at

  pub N_decoded : N_of (sheet_in bs) ≡ N_in bs
  unfolding N_of sheet_in
  N_decoded = ops_in_length bs (N_in bs) (ops_at (second_in bs) (P_in bs))

  pub op_decoded : (i : ℕ) → i < N_in bs → op (sheet_in bs) i ≡ op_in bs (ops_at (second_in bs) (P_in bs) + op_size * i)
  unfolding op sheet_in
  op_decoded i h = ops_in_at bs (N_in bs) (ops_at (second_in bs) (P_in bs)) i h

  pub board_decoded : (r : ℕ) → r < P_in bs → board (sheet_in bs) r ≡ board_in (second_in bs) bs (boards_at + boards_size (second_in bs) r)
  unfolding board sheet_in
  board_decoded r h = boards_in_at (second_in bs) bs (P_in bs) boards_at r h

  -- a board of the first edition has no room
  pub first_room : second_in bs ≡ false → (r : ℕ) → r < P_of (sheet_in bs) → (board (sheet_in bs) r).room ≡ 0
  first_room e r l =
      let at = boards_at + boards_size (second_in bs) r in
      ap (λ (b : Board). b.room) (board_decoded r (omega (arith, P_decoded)))
      ∙ ap (λ (c : Bool). cond c (two bs (at + 8)) 0) e

  pub comms_decoded : (sheet_in bs).comms ≡ C_in bs
  unfolding sheet_in
  comms_decoded = refl

  -- the payload is whole where the sheet's length is right
  pub payload_decoded : length bs ≡ sheet_size (second_in bs) (P_in bs) (N_in bs) (L_in bs) → length (sheet_in bs).payload ≡ L_in bs
  unfolding sheet_in
  payload_decoded h =
      length-take (L_in bs) (drop (payload_at (second_in bs) (P_in bs) (N_in bs)) bs)
      ∙ (ap (λ (k : ℕ). min (L_in bs) k) (length-drop (payload_at (second_in bs) (P_in bs) (N_in bs)) bs) ∙ omega arith)

  -- an operation of the sheet, with P as it was read: its sixteen bytes
  pub op_by : (i p : ℕ) → i < N_of (sheet_in bs) → p ≡ P_in bs → op_in bs (ops_at (second_in bs) p + op_size * i) ≡ op (sheet_in bs) i
  op_by i p l e =
      ap (λ (k : ℕ). op_in bs (ops_at (second_in bs) k + op_size * i)) e ∙ sym (op_decoded i (omega (arith, N_decoded)))
