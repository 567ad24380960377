-- A board's two accounts in a job (document 01, "How a board steps"; document 02, K6): the size of a store, and what the board's
-- place has in use there and at most. What a step of any board does to them: it moves the account of every board and store as
-- `taken` and `given_back` move an account, or leaves it as it was. That is one law, `step_moves` in proofs/Boards.
--   Movement, movement, moved   what a step does to the accounts, and each account after it
-- Assumes nothing.
use Rattle.std.specs.Prelude.{◌&&◌, ℕ, ltb}
use Rattle.std.proofs.Math.Bool.{cond}
use Rattle.std.proofs.Math.Option.{Option, none, some}
use Rattle.std.proofs.Math.Dec.{eqb}
use Rattle.rules.specs.Sheet.{Sheet, board, op, rank_of, is_receive, is_buffered, is_standard}
use Rattle.rules.specs.Job.{Job, Store, in_attached, in_room, account}
use Rattle.rules.specs.Job.{place_at, entry_at}
use Rattle.rules.specs.Step.{next_op, in_waiting_half, first_message, first_receive, store_of, size_of, charge_of}
use Rattle.account.specs.declared.Account.{Account}
use Rattle.laws.specs.Stores.{same_store}
use Rattle.account.specs.Accounts.{account_of, taken, given_back}

unfoldable pub board_account : Store → Sheet → Job → (r : ℕ) → Account
board_account w s x r = account_of (size_of w (board s r)) (account w (place_at x r))

-- WHAT A STEP DOES TO THE ACCOUNTS: nothing; it charges send i to a store of board r, where there is room; it matches message m
pub data Movement : Type 0 where
  none_moves : Movement
  charges : (w : Store) (r i : ℕ) → Movement
  matches : (m : ℕ) → Movement

-- of a receive that has found a message or none; of board r's send i, which has found a receive or none. A standard send is
-- charged where its board has a room at all
unfoldable pub by_receive : Option ℕ → Movement
by_receive none = none_moves
by_receive (some m) = matches m

unfoldable pub by_standard : Sheet → (r i : ℕ) → Movement
by_standard s r i = cond (is_standard (op s i) && ltb 0 (board s r).room) (charges in_room r i) none_moves

unfoldable pub by_send : Sheet → (r i : ℕ) → Option ℕ → Movement
by_send s r i none = cond (is_buffered (op s i)) (charges in_attached r i) (by_standard s r i)
by_send s r i (some q) = matches i

unfoldable pub initiates : Sheet → Job → (r i : ℕ) → Movement
initiates s x r i =
    cond (is_receive (op s i)) (by_receive (first_message s i x.messages)) (by_send s r i (first_receive s i x.receives))

unfoldable pub movement : Sheet → Job → (r : ℕ) → Movement
movement s x r = cond (in_waiting_half s x r) none_moves (initiates s x r (next_op s x r))

-- the account of board b's store w after that. The charge of a message that was buffered goes back to the message's own board
-- and to the store that it was kept in
unfoldable pub moved : Movement → Store → Sheet → Job → (b : ℕ) → Account
moved none_moves w s x b = board_account w s x b
moved (charges v r i) w s x b =
    cond (same_store w v && eqb b r) (taken (board_account w s x b) (charge_of w (op s i))) (board_account w s x b)
moved (matches m) w s x b =
    cond (eqb (entry_at x m).state 2 && (same_store w (store_of (op s m)) && eqb b (rank_of s m)))
    (given_back (board_account w s x b) (charge_of w (op s m))) (board_account w s x b)
