-- Sums over the boards before a rank, and the rank of an operation: where every board's first operation is the sum of the
-- counts before it, the scripts lie one after another, and an operation's rank is the one whose script it lies in.
-- Assumes nothing.
use Rattle.std.specs.Prelude.{◌≡◌, Bool, true, false, cond, List, [], ◌∷◌, ltb, length, get_or}
use Rattle.std.proofs.Math.Path.{refl, ap, subst}
use Rattle.std.proofs.Common.{sym, suc-add, lt-ltb, le-ltb, ltb-true}
use Prim.Native.Nat.{ℕ, zero, suc, ◌+◌, ◌<◌, ◌≤◌, ◌-◌}
use native.Mathlib.Omega.{arith}
use Rattle.std.proofs.Math.Decide.{dec_lt}
use Rattle.rules.specs.Sheet.{Sheet, Board, board, P_of, rank_from, rank_of, sum_before, counts_before, inbox_start, no_board}
use Rattle.laws.specs.Tests.{cond_true, cond_false}

-- one board more
pub sum_before_more : (f : Board → ℕ) (bs : List Board) (r : ℕ) → r < length bs → sum_before f (suc r) bs ≡ sum_before f r bs + f (get_or bs r no_board)
unfolding sum_before
sum_before_more f [] r h = absurd (omega arith)
sum_before_more f (b ∷ bs) zero h = let e : sum_before f zero bs ≡ 0 = refl in omega arith
sum_before_more f (b ∷ bs) (suc r) h = let e = sum_before_more f bs r (omega arith) in omega arith

pub counts_more : (s : Sheet) (r : ℕ) → r < P_of s → counts_before s (suc r) ≡ counts_before s r + (board s r).count
unfolding counts_before board P_of
counts_more s r h = sum_before_more (λ b. b.count) s.boards r h

pub inbox_start_more : (s : Sheet) (r : ℕ) → r < P_of s → inbox_start s (suc r) ≡ inbox_start s r + (board s r).inbox
unfolding inbox_start board P_of
inbox_start_more s r h = sum_before_more (λ b. b.inbox) s.boards r h

pub counts_none : (s : Sheet) → counts_before s 0 ≡ 0
unfolding counts_before sum_before
counts_none s = refl

pub inbox_start_none : (s : Sheet) → inbox_start s 0 ≡ 0
unfolding inbox_start sum_before
inbox_start_none s = refl

-- sums only grow
pub sum_before_grows : (f : Board → ℕ) (bs : List Board) (r k : ℕ) → sum_before f r bs ≤ sum_before f (r + k) bs
unfolding sum_before
sum_before_grows f bs zero k = omega arith
sum_before_grows f [] (suc r) k = rw (suc-add r k) (omega arith)
sum_before_grows f (b ∷ bs) (suc r) k = rw (suc-add r k) (let e = sum_before_grows f bs r k in omega arith)

-- the operation after board k's last one
abbrev pub script_end : List Board → (k : ℕ) → ℕ
script_end bs k = (get_or bs k no_board).first + (get_or bs k no_board).count

-- an operation before the end of board k's script has a rank of at most k
rank_from_most : (q : ℕ) (bs : List Board) (k i : ℕ) → k < length bs → i < script_end bs k → rank_from q bs i ≤ q + k
unfolding rank_from
rank_from_most q [] k i h e = absurd (omega arith)
rank_from_most q (b ∷ bs) zero i h e = rw (cond_true (ltb i (b.first + b.count)) q (rank_from (suc q) bs i) (lt-ltb i (b.first + b.count) e)) (omega arith)
rank_from_most q (b ∷ bs) (suc k) i h e = go (rank_from_most (suc q) bs k i (omega arith) e) (ltb i (b.first + b.count))
  where
    go : rank_from (suc q) bs i ≤ suc q + k → (t : Bool) → cond t q (rank_from (suc q) bs i) ≤ q + suc k
    go ih true = omega arith
    go ih false = omega arith

-- and one at or past the end of each earlier script a rank of at least k
rank_from_least : (q : ℕ) (bs : List Board) (k i : ℕ) → k ≤ length bs → ((j : ℕ) → j < k → script_end bs j ≤ i) → q + k ≤ rank_from q bs i
unfolding rank_from
rank_from_least q [] zero i h past = omega arith
rank_from_least q [] (suc k) i h past = absurd (omega arith)
rank_from_least q (b ∷ bs) zero i h past = go (rank_from_least (suc q) bs zero i (omega arith) (λ j l. absurd (omega arith))) (ltb i (b.first + b.count))
  where
    go : suc q + 0 ≤ rank_from (suc q) bs i → (t : Bool) → q + 0 ≤ cond t q (rank_from (suc q) bs i)
    go ih true = omega arith
    go ih false = omega arith
rank_from_least q (b ∷ bs) (suc k) i h past =
    rw (cond_false (ltb i (b.first + b.count)) q (rank_from (suc q) bs i) (le-ltb i (b.first + b.count) (past 0 (omega arith))))
    (let ih = rank_from_least (suc q) bs k i (omega arith) (λ j l. past (suc j) (omega arith)) in omega arith)

-- a rank that is a board's: the operation lies before the end of that board's script
rank_from_end : (q : ℕ) (bs : List Board) (i k : ℕ) → rank_from q bs i ≡ q + k → k < length bs → i < script_end bs k
unfolding rank_from
rank_from_end q [] i k e h = absurd (omega arith)
rank_from_end q (b ∷ bs) i k e h = go (ltb i (b.first + b.count)) refl e k refl h (λ j l. rank_from_end (suc q) bs i j l)
  where
    go : (t : Bool) → ltb i (b.first + b.count) ≡ t → cond t q (rank_from (suc q) bs i) ≡ q + k → (m : ℕ) → k ≡ m →
        k < suc (length bs) → ((j : ℕ) → rank_from (suc q) bs i ≡ suc q + j → j < length bs → i < script_end bs j) →
        i < script_end (b ∷ bs) k
    go true p r zero z l ih = subst (λ (n : ℕ). i < script_end (b ∷ bs) n) (sym z) (ltb-true i (b.first + b.count) p)
    go true p r (suc m) z l ih = absurd (omega arith)
    go false p r zero z l ih = absurd (let x = rank_from_least (suc q) bs 0 i (omega arith) (λ j y. absurd (omega arith)) in omega arith)
    go false p r (suc m) z l ih = subst (λ (n : ℕ). i < script_end (b ∷ bs) n) (sym z) (ih m (omega arith) (omega arith))

-- scripts one after another: board r's first operation is the sum of the counts before it
abbrev pub Consecutive : Sheet → Type 0
Consecutive s = (r : ℕ) → r < P_of s → (board s r).first ≡ counts_before s r

module _ (s : Sheet) (c : Consecutive s) where
  -- a script ends where the next one starts
  pub script_next : (r : ℕ) → r < P_of s → (board s r).first + (board s r).count ≡ counts_before s (suc r)
  script_next r h = let e = counts_more s r h in let f = c r h in omega arith

  -- a script ends before each later one starts
  pub script_before : (k r : ℕ) → k < r → r ≤ P_of s → (board s k).first + (board s k).count ≤ counts_before s r
  unfolding counts_before
  script_before k r h l =
      let e = script_next k (omega arith) in
      let g = sum_before_grows (λ b. b.count) s.boards (suc k) (r - suc k) in
      let a : suc k + (r - suc k) ≡ r = omega arith in
      let f = subst (λ (n : ℕ). sum_before (λ b. b.count) (suc k) s.boards ≤ sum_before (λ b. b.count) n s.boards) a g in
      omega arith

  -- an operation in board r's script has rank r
  pub rank_in_script : (r i : ℕ) → r < P_of s → (board s r).first ≤ i → i < (board s r).first + (board s r).count → rank_of s i ≡ r
  unfolding rank_of board P_of
  rank_in_script r i h lo hi =
      let a = rank_from_most 0 s.boards r i h hi in
      let b = rank_from_least 0 s.boards r i (omega arith) (λ k l. let e = script_before k r l (omega arith) in let f = c r h in omega arith) in
      omega arith

  -- an operation before board r's script has a lower rank
  pub rank_before_script : (r i : ℕ) → r < P_of s → i < (board s r).first → rank_of s i < r
  unfolding rank_of board P_of
  rank_before_script zero i h lo = absurd (let e = c zero h in let z = counts_none s in omega arith)
  rank_before_script (suc r) i h lo =
      let e = script_next r (omega arith) in
      let f = c (suc r) h in
      let a = rank_from_most 0 s.boards r i (omega arith) (omega arith) in
      omega arith

  -- an operation of the sheet lies in the script of its rank
  pub rank_lies : (i : ℕ) → i < counts_before s (P_of s) → (rank_of s i < P_of s) × ((board s (rank_of s i)).first ≤ i) × (i < (board s (rank_of s i)).first + (board s (rank_of s i)).count)
  unfolding rank_of board P_of
  rank_lies i h = go (P_of s) refl
    where
      go : (p : ℕ) → P_of s ≡ p → (rank_of s i < P_of s) × ((board s (rank_of s i)).first ≤ i) × (i < (board s (rank_of s i)).first + (board s (rank_of s i)).count)
      go zero e = absurd (let z = counts_none s in let y = ap (λ (n : ℕ). counts_before s n) e in omega arith)
      go (suc p) e =
          let last = script_next p (omega arith) in
          let y = ap (λ (n : ℕ). counts_before s n) e in
          let a = rank_from_most 0 s.boards p i (omega arith) (omega arith) in
          let r = rank_of s i in
          let below : r < P_of s = omega arith in
          let end = rank_from_end 0 s.boards i r (omega arith) below in
          (below, lower (dec_lt i (board s r).first), end)
        where
          lower : Dec (i < (board s (rank_of s i)).first) → (board s (rank_of s i)).first ≤ i
          lower (yes l) =
              absurd
              (let last = script_next p (omega arith) in
              let y = ap (λ (n : ℕ). counts_before s n) e in
              let a = rank_from_most 0 s.boards p i (omega arith) (omega arith) in
              let x = rank_before_script (rank_of s i) i (omega arith) l in
              omega arith)
          lower (no l) = omega arith
