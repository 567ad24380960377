-- Rows of a report, written one after another: board rows of 8 or 12 bytes, by the edition, operation rows of 12. Operation rows are copied from
-- scratch, whose rows have the report's own format. Assumes nothing.
--   joined             rows f 0, f 1 and so on, side by side
--   Rowing             the first i rows are written
--   board_rows_long    how many bytes board rows have
--   board_rows_joined  the report's board rows are such rows; op_rows_joined: so are its operation rows
--   row_copied         ten bytes of scratch and two zeros are an operation row
use Rattle.std.specs.Prelude.{◌≡◌, Bool, ℕ, zero, suc, ◌+◌, ◌*◌, ◌/◌, ◌%◌, ◌≤◌, ◌<◌, length, drop}
use Rattle.std.proofs.Math.Path.{refl, ap}
use Rattle.std.proofs.Common.{sym, ap₂, ◌∙◌, arith, add_comm, mul-zero, mul-suc, add-one, length-append, drop-cons}
use mathlib.Core.List.{List, [], ◌∷◌, ◌++◌, append_assoc, append-nil}
use Rattle.std.proofs.Math.ListN.{get_or, take}
use Rattle.rules.specs.Limits.{report_header_size, board_rows_size, op_row_size}
use Rattle.rules.specs.Sheet.{Sheet, two}
use Rattle.rules.specs.Job.{Job}
use Rattle.rules.specs.Step.{splice}
use Rattle.rules.specs.Report.{low_two, board_row, board_rows, op_row, op_rows, entry_in}
use Rattle.laws.specs.Editions.{rows_none, rows_more}
use Rattle.laws.specs.ReportRows.{board_row_length}
use Rattle.laws.specs.Splice.{splice_none, splice_then, splice_length}
use Rattle.words.specs.Tab.{tab}
use Rattle.state.specs.Layout.{row_at}
use Rattle.state.specs.Decoded.{entries_in}
use Rattle.state.specs.Rows.{row_length}

unfoldable pub joined : (ℕ → List ℕ) → (i n : ℕ) → List ℕ
joined f i zero = []
joined f i (suc n) = f i ++ joined f (suc i) n

-- one row more
joined_more : (f : ℕ → List ℕ) (i n : ℕ) → joined f i (suc n) ≡ joined f i n ++ f (i + n)
unfolding joined
joined_more f i zero = let e : i ≡ i + 0 = omega arith in append-nil (f i) ∙ ap f e
joined_more f i (suc n) =
    let e : suc i + n ≡ i + suc n = omega arith in
    ap (λ (z : List ℕ). f i ++ z) (joined_more f (suc i) n ∙ ap (λ (k : ℕ). joined f (suc i) n ++ f k) e)
    ∙ sym (append_assoc (f i) (joined f (suc i) n) (f (i + suc n)))

-- rows of w bytes
pub joined_length : (w : ℕ) (f : ℕ → List ℕ) → ((k : ℕ) → length (f k) ≡ w) → (i n : ℕ) → length (joined f i n) ≡ w * n
unfolding joined
joined_length w f h i zero = sym (mul-zero w)
joined_length w f h i (suc n) =
    length-append (f i) (joined f (suc i) n) ∙ ap₂ (λ (a b : ℕ). a + b) (h i) (joined_length w f h (suc i) n) ∙ add_comm w (w * n) ∙ sym (mul-suc w n)

-- the first i rows are written over `met`, from a place on
pub record Rowing (f : ℕ → List ℕ) (at : ℕ) (met out : List ℕ) (i : ℕ) : Type 0 where
  pub size : length out ≡ length met
  pub is : out ≡ splice met at (joined f 0 i)

pub rowing_none : (f : ℕ → List ℕ) (at : ℕ) (met : List ℕ) → at ≤ length met → Rowing f at met met 0
unfolding joined
rowing_none f at met h =
    record {
      size = refl;
      is = sym (splice_none met at h);
    }

-- row i is put behind them, which have k bytes
pub rowing_more : {f : ℕ → List ℕ} {at : ℕ} {met out after : List ℕ} {i : ℕ} (k : ℕ) → length (joined f 0 i) ≡ k →
    Rowing f at met out i → after ≡ splice out (at + k) (f i) → at + (k + length (f i)) ≤ length met → Rowing f at met after (i + 1)
rowing_more {f} {at} {met} {out} {after} {i} k long q e h =
    let fits : at + (length (joined f 0 i) + length (f i)) ≤ length met = omega (arith, long) in
    let next : joined f 0 (i + 1) ≡ joined f 0 i ++ f i =
    ap (λ (k : ℕ). joined f 0 k) (add-one i) ∙ joined_more f 0 i ∙ ap (λ (k : ℕ). joined f 0 i ++ f k) (omega arith) in
    let is : after ≡ splice met at (joined f 0 i ++ f i) = splice_then met out after at k (joined f 0 i) (f i) q.is long e fits in
    record {
      size =
          ap (λ (z : List ℕ). length z) is
          ∙ splice_length met at (joined f 0 i ++ f i) (omega (arith, length-append (joined f 0 i) (f i)));
      is = is ∙ ap (λ (vs : List ℕ). splice met at vs) (sym next);
    }

-- THE REPORT'S ROWS
-- where the row of board r stands; behind the last board's row those of operations start
abbrev pub board_row_at : (second : Bool) → (r : ℕ) → ℕ
board_row_at e r = report_header_size + board_rows_size e r

pub board_rows_long : (e : Bool) (s : Sheet) (x : Job) (n : ℕ) → length (joined (board_row e s x) 0 n) ≡ board_rows_size e n
unfolding joined
board_rows_long e s x zero = sym (rows_none e)
board_rows_long e s x (suc n) =
    ap length (joined_more (board_row e s x) 0 n)
    ∙ (length-append (joined (board_row e s x) 0 n) (board_row e s x (0 + n))
    ∙ omega (arith, board_rows_long e s x n, board_row_length e s x (0 + n), rows_more e n))

-- four numbers side by side
abbrev pub four : (k l m n : ℕ) → List ℕ
four k l m n = (low_two k ++ low_two l) ++ (low_two m ++ low_two n)

pub board_rows_joined : (e : Bool) (s : Sheet) (x : Job) (r n : ℕ) → board_rows e n r s x ≡ joined (board_row e s x) r n
unfolding board_rows joined
board_rows_joined e s x r zero = refl
board_rows_joined e s x r (suc n) = ap (λ (z : List ℕ). board_row e s x r ++ z) (board_rows_joined e s x (suc r) n)

-- the operation row that scratch holds of operation i
unfoldable pub row_in : (c : List ℕ) → (i : ℕ) → List ℕ
row_in c i = op_row (entry_in c (row_at i))

pub row_in_length : (c : List ℕ) (i : ℕ) → length (row_in c i) ≡ op_row_size
unfolding row_in
row_in_length c i = row_length (entry_in c (row_at i))

pub op_rows_joined : (c : List ℕ) (n : ℕ) → op_rows (entries_in c n) ≡ joined (row_in c) 0 n
unfolding entries_in op_rows tab joined row_in
op_rows_joined c n = go 0 n
  where
    go : (i n : ℕ) → op_rows (tab (λ k. entry_in c (row_at k)) i n) ≡ joined (row_in c) i n
    go i zero = refl
    go i (suc n) = ap (λ (z : List ℕ). op_row (entry_in c (row_at i)) ++ z) (go (suc i) n)

-- two bytes as one number
pub low_of : (a b : ℕ) → a < 256 → b < 256 → low_two (a + 256 * b) ≡ a ∷ b ∷ []
unfolding low_two
low_of a b h l =
    let e : (a + 256 * b) % 256 ≡ a = omega arith in
    let q : (a + 256 * b) / 256 ≡ b = omega arith in
    let m : b % 256 ≡ b = omega arith in
    ap₂ (λ (u v : ℕ). u ∷ v ∷ []) e (ap (λ (v : ℕ). v % 256) q ∙ m)

-- A COPY of a row: bytes are below 256
module _ (c : List ℕ) (bytes : (k : ℕ) → get_or c k 0 < 256) where
  part_one : (n at next : ℕ) → at < length c → at + 1 ≡ next → take (suc n) (drop at c) ≡ get_or c at 0 ∷ take n (drop next c)
  part_one n at next l e =
      ap (λ (z : List ℕ). take (suc n) z) (drop-cons c at 0 l) ∙ ap (λ (k : ℕ). get_or c at 0 ∷ take n (drop k c)) (sym (add-one at) ∙ e)

  part_two : (n at next : ℕ) → at + 1 < length c → at + 2 ≡ next →
      take (suc (suc n)) (drop at c) ≡ low_two (two c at) ++ take n (drop next c)
  unfolding two
  part_two n at next l e =
      part_one (suc n) at (at + 1) (omega arith) refl
      ∙ ap (λ (z : List ℕ). get_or c at 0 ∷ z) (part_one n (at + 1) next l (omega arith))
      ∙ ap (λ (z : List ℕ). z ++ take n (drop next c)) (sym (low_of (get_or c at 0) (get_or c (at + 1) 0) (bytes at) (bytes (at + 1))))

  pub row_copied : (i : ℕ) → row_at i + op_row_size ≤ length c → take 10 (drop (row_at i) c) ++ low_two 0 ≡ row_in c i
  unfolding row_in op_row low_two
  row_copied i h =
      let at = row_at i in
      let long = part_two 0 (at + 8) (at + 10) (omega arith) (omega arith) in
      let tag = part_two 2 (at + 6) (at + 8) (omega arith) (omega arith) ∙ ap (λ (l : List ℕ). low_two (two c (at + 6)) ++ l) long in
      let source = part_two 4 (at + 4) (at + 6) (omega arith) (omega arith) ∙ ap (λ (l : List ℕ). low_two (two c (at + 4)) ++ l) tag in
      let partner = part_two 6 (at + 2) (at + 4) (omega arith) (omega arith) ∙ ap (λ (l : List ℕ). low_two (two c (at + 2)) ++ l) source in
      let cut = part_one 8 (at + 1) (at + 2) (omega arith) (omega arith) ∙ ap (λ (l : List ℕ). get_or c (at + 1) 0 ∷ l) partner in
      let state = part_one 9 at (at + 1) (omega arith) refl ∙ ap (λ (l : List ℕ). get_or c at 0 ∷ l) cut in
      ap (λ (l : List ℕ). l ++ low_two 0) state
