-- The report of either edition, byte by byte: its length, and what is left of it when the peaks are set aside: the same report with
-- two zero bytes for each peak in each board row.
--   report_length     the report's length
--   bare_report       the report with zero for every peak
--   report_bare       which is what without_peaks leaves
--   first_byte        the verdict, which it leaves as it was
-- Assumes nothing.
use Rattle.std.specs.Prelude.{◌≡◌, refl, Bool, true, false, cond, List, [], ◌∷◌, ◌++◌, ℕ, zero, suc, ◌+◌, ◌*◌, length, get_or, set, take}
use Rattle.std.proofs.Common.{sym, ap, ◌∙◌, append_assoc, arith, length-append, get_or-set_other, get_or-take}
use Rattle.std.proofs.Math.Option.{Option, none, some}
use Rattle.laws.specs.Editions.{rows_none, rows_more}
use Rattle.laws.specs.ReportRows.{board_row_length}
use Rattle.rules.specs.Limits.{report_header_size, board_row_size, board_rows_size, op_row_size, report_size}
use Rattle.rules.specs.Sheet.{Sheet, P_of, N_of}
use Rattle.rules.specs.Job.{Job, Entry, Place, Stop, place_at}
use Rattle.rules.specs.Report.{low_two, pending_messages, pending_receives, cut_messages, verdict_of, stop_bytes, header_bytes, board_state}
use Rattle.rules.specs.Report.{room_bytes, board_row, board_rows, op_row, op_rows, report}
use Rattle.rules.specs.Claims.{two_zeroed, row_without_peaks, rows_without_peaks, without_peaks}

-- LENGTHS
pub header_length : (s : Sheet) (x : Job) → length (header_bytes s x) ≡ report_header_size
unfolding header_bytes low_two stop_bytes
header_length s x = go x.stop refl
  where
    go : (o : Option Stop) → x.stop ≡ o →
        length
        (verdict_of x.stop s x ∷ (stop_bytes o
        ++ (low_two x.steps
        ++ (low_two (P_of s)
        ++ (low_two (N_of s)
        ++ (low_two (pending_messages s x) ++ (low_two (pending_receives s x) ++ low_two (cut_messages s x)))))))) ≡ 16
    go none e = refl
    go (some t) e = refl

pub board_rows_length : (e : Bool) (k r : ℕ) (s : Sheet) (x : Job) → length (board_rows e k r s x) ≡ board_rows_size e k
unfolding board_rows
board_rows_length e zero r s x = sym (rows_none e)
board_rows_length e (suc k) r s x =
    omega (
      arith,
      length-append (board_row e s x r) (board_rows e k (suc r) s x),
      board_row_length e s x r,
      board_rows_length e k (suc r) s x,
      rows_more e k,
    )

op_row_length : (e : Entry) → length (op_row e) ≡ op_row_size
unfolding op_row low_two
op_row_length e = refl

pub op_rows_length : (es : List Entry) → length (op_rows es) ≡ op_row_size * length es
unfolding op_rows
op_rows_length [] = refl
op_rows_length (e ∷ es) = omega (arith, length-append (op_row e) (op_rows es), op_row_length e, op_rows_length es)

pub report_length : (e : Bool) (s : Sheet) (x : Job) → length x.entries ≡ N_of s → length (report e s x) ≡ report_size e (P_of s) (N_of s)
unfolding report
report_length e s x long =
    let rows = board_rows e (P_of s) 0 s x in
    omega (
      arith,
      length-append (header_bytes s x) (rows ++ op_rows x.entries),
      length-append rows (op_rows x.entries),
      header_length s x,
      board_rows_length e (P_of s) 0 s x,
      op_rows_length x.entries,
    )

-- WITHOUT PEAKS
-- a board row with zero for its peaks
unfoldable pub bare_room : (second : Bool) → Place → List ℕ
bare_room e p = cond e (low_two p.room.in_use ++ (0 ∷ 0 ∷ [])) []

unfoldable pub bare_row : (second : Bool) → Sheet → Job → (r : ℕ) → List ℕ
bare_row e s x r =
    low_two (place_at x r).finished
    ++ (low_two (place_at x r).attached.in_use ++ (0 ∷ 0 ∷ board_state s x r ∷ 0 ∷ bare_room e (place_at x r)))

unfoldable pub bare_rows : (second : Bool) → (left r : ℕ) → Sheet → Job → List ℕ
bare_rows e zero r s x = []
bare_rows e (suc k) r s x = bare_row e s x r ++ bare_rows e k (suc r) s x

unfoldable pub bare_report : (second : Bool) → Sheet → Job → List ℕ
bare_report e s x = header_bytes s x ++ (bare_rows e (P_of s) 0 s x ++ op_rows x.entries)

bare_row_length : (e : Bool) (s : Sheet) (x : Job) (r : ℕ) → length (bare_row e s x r) ≡ board_row_size e
unfolding bare_row bare_room low_two
bare_row_length true s x r = refl
bare_row_length false s x r = refl

-- a change behind a front
set_append_add : (xs ys : List ℕ) (n v : ℕ) → set (xs ++ ys) (length xs + n) v ≡ xs ++ set ys n v
set_append_add [] ys n v =
    let here : 0 + n ≡ n = omega arith in
    ap (λ (k : ℕ). set ys k v) here
set_append_add (x ∷ xs) ys n v =
    let there : suc (length xs) + n ≡ suc (length xs + n) = omega arith in
    ap (λ (k : ℕ). set (x ∷ (xs ++ ys)) k v) there ∙ ap (λ (l : List ℕ). x ∷ l) (set_append_add xs ys n v)

-- two bytes behind a front
zeroed_append : (front bs : List ℕ) (n : ℕ) → two_zeroed (length front + n) (front ++ bs) ≡ front ++ two_zeroed n bs
unfolding two_zeroed
zeroed_append front bs n =
    let next : (length front + n) + 1 ≡ length front + (n + 1) = omega arith in
    ap (λ (l : List ℕ). set l ((length front + n) + 1) 0) (set_append_add front bs n 0)
    ∙ ap (λ (k : ℕ). set (front ++ set bs n 0) k 0) next
    ∙ set_append_add front (set bs n 0) (n + 1) 0

-- one row, behind a front
row_bare : (e : Bool) (s : Sheet) (x : Job) (r : ℕ) (front rest : List ℕ) →
    row_without_peaks e (length front) (front ++ (board_row e s x r ++ rest)) ≡ front ++ (bare_row e s x r ++ rest)
unfolding row_without_peaks board_row bare_row room_bytes bare_room low_two two_zeroed
row_bare true s x r front rest =
    ap (λ (l : List ℕ). two_zeroed (length front + 10) l) (zeroed_append front (board_row true s x r ++ rest) 4)
    ∙ zeroed_append front (two_zeroed 4 (board_row true s x r ++ rest)) 10
row_bare false s x r front rest = zeroed_append front (board_row false s x r ++ rest) 4

rows_bare : (e : Bool) (k r at : ℕ) (s : Sheet) (x : Job) (front rest : List ℕ) → length front ≡ at →
    rows_without_peaks e k at (front ++ (board_rows e k r s x ++ rest)) ≡ front ++ (bare_rows e k r s x ++ rest)
unfolding rows_without_peaks board_rows bare_rows
rows_bare e zero r at s x front rest h = refl
rows_bare e (suc k) r at s x front rest h =
    ap (λ (l : List ℕ). rows_without_peaks e k (at + board_row_size e) l) one
    ∙ rows_bare e k (suc r) (at + board_row_size e) s x (front ++ bare_row e s x r) rest
    (omega (arith, length-append front (bare_row e s x r), bare_row_length e s x r))
    ∙ append_assoc front (bare_row e s x r) (bare_rows e k (suc r) s x ++ rest)
    ∙ ap (λ (l : List ℕ). front ++ l) (sym (append_assoc (bare_row e s x r) (bare_rows e k (suc r) s x) rest))
  where
    others : List ℕ
    others = board_rows e k (suc r) s x ++ rest

    one : row_without_peaks e at (front ++ ((board_row e s x r ++ board_rows e k (suc r) s x) ++ rest)) ≡ (front ++ bare_row e s x r) ++ others
    one =
        ap (λ (l : List ℕ). row_without_peaks e at (front ++ l)) (append_assoc (board_row e s x r) (board_rows e k (suc r) s x) rest)
        ∙ ap (λ (n : ℕ). row_without_peaks e n (front ++ (board_row e s x r ++ others))) (sym h)
        ∙ row_bare e s x r front others
        ∙ sym (append_assoc front (bare_row e s x r) others)

pub report_bare : (e : Bool) (s : Sheet) (x : Job) → without_peaks e (P_of s) (report e s x) ≡ bare_report e s x
unfolding without_peaks report bare_report
report_bare e s x = rows_bare e (P_of s) 0 report_header_size s x (header_bytes s x) (op_rows x.entries) (header_length s x)

-- the first byte is no peak
zeroed_first : (at : ℕ) (r : List ℕ) → get_or (two_zeroed (at + 4) r) 0 0 ≡ get_or r 0 0
unfolding two_zeroed
zeroed_first at r =
    get_or-set_other (set r (at + 4) 0) (at + 4 + 1) 0 0 0 (λ e. omega arith) ∙ get_or-set_other r (at + 4) 0 0 0 (λ e. omega arith)

row_first : (e : Bool) (at : ℕ) (r : List ℕ) → get_or (row_without_peaks e at r) 0 0 ≡ get_or r 0 0
unfolding row_without_peaks
row_first false at r = zeroed_first at r
row_first true at r =
    let later : at + 10 ≡ (at + 6) + 4 = omega arith in
    ap (λ (n : ℕ). get_or (two_zeroed n (two_zeroed (at + 4) r)) 0 0) later
    ∙ zeroed_first (at + 6) (two_zeroed (at + 4) r) ∙ zeroed_first at r

first_kept : (e : Bool) (k at : ℕ) (r : List ℕ) → get_or (rows_without_peaks e k at r) 0 0 ≡ get_or r 0 0
unfolding rows_without_peaks
first_kept e zero at r = refl
first_kept e (suc k) at r = first_kept e k (at + board_row_size e) (row_without_peaks e at r) ∙ row_first e at r

pub first_byte : (e : Bool) (p n : ℕ) (r : List ℕ) → get_or (without_peaks e p (take (report_size e p n) r)) 0 0 ≡ get_or r 0 0
unfolding without_peaks
first_byte e p n r =
    first_kept e p report_header_size (take (report_size e p n) r) ∙ get_or-take (report_size e p n) r 0 0 (omega arith)
