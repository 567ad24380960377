-- Sizes that depend on the edition (document 02, K6): a table of board entries, a table of board rows. As functions of their length
-- they grow by one entry or row at a time, so that what is inside is said without a look at the edition.
--   boards_none, boards_more, boards_within, boards_most     entries
--   rows_none, rows_more, rows_within, rows_most             rows
--   row-fits-row       a row has two bytes of room at each of its figures
--   first_edition      the offset of edition 1 is not that of edition 2: no sheet has two readings
-- Assumes nothing.
use Rattle.std.specs.Prelude.{◌≡◌, refl, Bool, false, List, ℕ, suc, ◌+◌, ◌*◌, ◌<◌, ◌≤◌}
use Rattle.std.proofs.Math.Bool.{true}
use Rattle.std.proofs.Common.{arith}
use borrow.Author.Tests.{ne_eqb, eq-eqb}
use Rattle.rules.specs.Limits.{board_size, boards_size, board_row_size, board_rows_size, ops_at}
use Rattle.rules.specs.Sheet.{two, P_in, second_in}

pub boards_none : (e : Bool) → boards_size e 0 ≡ 0
unfolding boards_size
boards_none true = refl
boards_none false = refl

pub boards_more : (e : Bool) (r : ℕ) → boards_size e (suc r) ≡ boards_size e r + board_size e
unfolding boards_size
boards_more true r = omega arith
boards_more false r = omega arith

-- entry r of p lies inside the table, with every number that an entry of its edition has
pub boards_within : (e : Bool) (r p : ℕ) → r < p → boards_size e r + board_size e ≤ boards_size e p
unfolding boards_size
boards_within true r p l = omega arith
boards_within false r p l = omega arith

pub boards_most : (e : Bool) (p : ℕ) → (8 * p ≤ boards_size e p) × (boards_size e p ≤ 10 * p)
unfolding boards_size
boards_most true p = (omega arith, omega arith)
boards_most false p = (omega arith, omega arith)

pub rows_none : (e : Bool) → board_rows_size e 0 ≡ 0
unfolding board_rows_size
rows_none true = refl
rows_none false = refl

pub rows_more : (e : Bool) (r : ℕ) → board_rows_size e (suc r) ≡ board_rows_size e r + board_row_size e
unfolding board_rows_size
rows_more true r = omega arith
rows_more false r = omega arith

pub rows_within : (e : Bool) (r p : ℕ) → r < p → board_rows_size e r + board_row_size e ≤ board_rows_size e p
unfolding board_rows_size
rows_within true r p l = omega arith
rows_within false r p l = omega arith

pub rows_most : (e : Bool) (p : ℕ) → (8 * p ≤ board_rows_size e p) × (board_rows_size e p ≤ 12 * p)
unfolding board_rows_size
rows_most true p = (omega arith, omega arith)
rows_most false p = (omega arith, omega arith)

pub at_least_eight : (e : Bool) → (8 ≤ board_size e) × (8 ≤ board_row_size e)
at_least_eight true = (omega arith, omega arith)
at_least_eight false = (omega arith, omega arith)

module _ (bs : List ℕ) (some : 1 ≤ P_in bs) where
  pub first_edition : two bs 8 ≡ ops_at false (P_in bs) → second_in bs ≡ false
  unfolding second_in boards_size
  first_edition h = ne_eqb (two bs 8) (ops_at true (P_in bs)) (λ g. omega arith)

pub second_edition : (bs : List ℕ) → two bs 8 ≡ ops_at true (P_in bs) → second_in bs ≡ true
unfolding second_in
second_edition bs h = eq-eqb (two bs 8) (ops_at true (P_in bs)) h
