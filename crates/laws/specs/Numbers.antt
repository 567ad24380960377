-- Which numbers a refusal can have: those of its parts, and of a sheet at most 7. Assumes nothing.
use Rattle.std.specs.Prelude.{Bool, true, false, not, cond, List, ℕ, zero, suc, ◌≤◌, ltb, eqb, length}
use Rattle.std.proofs.Common.{arith}
use Rattle.rules.specs.Limits.{header_size}
use Rattle.rules.specs.Sheet.{Sheet, sheet_in, P_of, N_of, counts_before}
use Rattle.rules.specs.Refusal.{Refusal, refusal, accepted, or_else, first_broken, board_good, boards_refusal, ops_refusal}
use Rattle.rules.specs.Refusal.{request_good, slot_freed, requests_refusal, tables_refusal, sizes_good, layout_good, crc_good, sheet_refusal}

pub broken_most : (n m : ℕ) (f : ℕ → Bool) (left i : ℕ) → n ≤ m → (first_broken n f left i).number ≤ m
unfolding first_broken refusal
broken_most n m f zero i l = omega arith
broken_most n m f (suc k) i l = go (f i) (broken_most n m f k (suc i) l)
  where
    go : (b : Bool) → (first_broken n f k (suc i)).number ≤ m → (cond b (first_broken n f k (suc i)) (refusal n i)).number ≤ m
    go true h = h
    go false h = l

pub or_else_most : (m : ℕ) (a b : Refusal) → a.number ≤ m → b.number ≤ m → (or_else a b).number ≤ m
unfolding or_else
or_else_most m a b l k = go (eqb a.number 0)
  where
    go : (t : Bool) → (cond t b a).number ≤ m
    go true = k
    go false = l

pub cond_most : (m : ℕ) (t : Bool) (a b : Refusal) → a.number ≤ m → b.number ≤ m → (cond t a b).number ≤ m
cond_most m true a b l k = l
cond_most m false a b l k = k

-- a sheet is refused with 7 at the most
pub sheet_most : (bs : List ℕ) → (sheet_refusal bs).number ≤ 7
unfolding sheet_refusal tables_refusal boards_refusal ops_refusal requests_refusal refusal
sheet_most bs =
    let s : Sheet = sheet_in bs in
    let total = eqb (counts_before s (P_of s)) (N_of s) in
    cond_most 7 (ltb (length bs) header_size) (refusal 1 0) _ (omega arith)
    (cond_most 7 (not (sizes_good bs)) (refusal 2 0) _ (omega arith)
    (cond_most 7 (not (layout_good bs)) (refusal 3 0) _ (omega arith)
    (cond_most 7 (not (crc_good bs)) (refusal 4 0) _ (omega arith)
    (or_else_most 7 (boards_refusal s) (or_else (ops_refusal s) (requests_refusal s))
    (or_else_most 7 (first_broken 5 (board_good s) (P_of s) 0) (cond total accepted (refusal 5 (P_of s)))
    (broken_most 5 7 (board_good s) (P_of s) 0 (omega arith)) (cond_most 7 total accepted (refusal 5 (P_of s)) (omega arith) (omega arith)))
    (or_else_most 7 (ops_refusal s) (requests_refusal s)
    (broken_most 6 7 _ (N_of s) 0 (omega arith))
    (or_else_most 7 (first_broken 7 (request_good s) (N_of s) 0) (first_broken 7 (slot_freed s) (N_of s) 0)
    (broken_most 7 7 (request_good s) (N_of s) 0 (omega arith)) (broken_most 7 7 (slot_freed s) (N_of s) 0 (omega arith))))))))
