-- What a sheet that passes check is known to be. Everything proved about jobs starts from this record and from nothing else
-- about the sheet's bytes.
--   Valid         the parts
--   valid_first    a board's first operation is the sum of the counts before it
-- Assumes nothing.
use Rattle.std.specs.Prelude.{◌≡◌, true, ℕ, suc, ◌+◌, ◌≤◌, ◌<◌, length}
use Rattle.rules.specs.Limits.{most_boards, most_comms, most_ops, most_payload, most_inbox}
use Rattle.rules.specs.Sheet.{Sheet, board, P_of, N_of, rank_of, counts_before, inbox_start, inbox_total}
use Rattle.rules.specs.Refusal.{board_good, op_good, request_good, slot_freed}
use Rattle.laws.specs.Tabled.{board_entry}

-- a valid sheet: each part of the refusal table, settled
pub record Valid (s : Sheet) : Type 0 where
  -- P, C, N and L in their ranges (number 2)
  pub some_board : 1 ≤ P_of s
  pub boards_few : P_of s ≤ most_boards
  pub some_comm : 1 ≤ s.comms
  pub comms_few : s.comms ≤ most_comms
  pub ops_few : N_of s ≤ most_ops
  pub payload_small : length s.payload ≤ most_payload
  -- every board entry is right, and the counts total N (number 5)
  pub boards_good : (r : ℕ) → r < P_of s → board_good s r ≡ true
  pub counts_total : counts_before s (P_of s) ≡ N_of s
  -- every operation's fields are right (number 6)
  pub ops_good : (i : ℕ) → i < N_of s → op_good s i ≡ true
  -- every operation keeps the slot and area rules (number 7)
  pub requests_good : (i : ℕ) → i < N_of s → request_good s i ≡ true
  -- and each slot that is taken is freed later in its script (number 7)
  pub slots_freed : (i : ℕ) → i < N_of s → slot_freed s i ≡ true
  -- an operation is in the script of the board that rank_of names
  pub rank_small : (i : ℕ) → i < N_of s → rank_of s i < P_of s
  pub rank_low : (i : ℕ) → i < N_of s → (board s (rank_of s i)).first ≤ i
  pub rank_high : (i : ℕ) → i < N_of s → i < (board s (rank_of s i)).first + (board s (rank_of s i)).count
  -- and in no other: what lies in a board's script has its rank, and is an operation
  pub script_ranked : (r i : ℕ) → r < P_of s → (board s r).first ≤ i → i < (board s r).first + (board s r).count → rank_of s i ≡ r
  pub script_inside : (r : ℕ) → r < P_of s → (board s r).first + (board s r).count ≤ N_of s
  -- inboxes lie one after another, and all of them within the inbox total
  pub inbox_next : (r : ℕ) → r < P_of s → inbox_start s (suc r) ≡ inbox_start s r + (board s r).inbox
  pub inbox_order : (r q : ℕ) → r < q → q ≤ P_of s → inbox_start s r + (board s r).inbox ≤ inbox_start s q
  pub inbox_small : inbox_total s ≤ most_inbox

-- scripts lie one after another
pub valid_first : (s : Sheet) → Valid s → (r : ℕ) → r < P_of s → (board s r).first ≡ counts_before s r
valid_first s g r l = (board_entry s r (g.boards_good r l)).first
