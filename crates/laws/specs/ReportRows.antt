-- A report's rows: their lengths, and rows read back from where they stand. Assumes nothing.
--   board_row_length    a board row's length
--   FitsRow            an operation row whose figures fit their two bytes
--   two_behind, two_bytes    a two-byte number behind a front, and one that fits read back
--   row_read            such a row is read back from among other bytes
use Rattle.std.specs.Prelude.{◌≡◌, refl, Bool, true, false, List, ◌++◌, ℕ, ◌+◌, ◌*◌, ◌/◌, ◌%◌, ◌<◌, length, get_or}
use Rattle.std.proofs.Common.{sym, ap, ap₂, subst, ◌∙◌, arith, get_or-append-add}
use Rattle.rules.specs.Limits.{board_row_size}
use Rattle.rules.specs.Sheet.{Sheet, two}
use Rattle.rules.specs.Job.{Job, Entry, entry}
use Rattle.rules.specs.Report.{low_two, room_bytes, board_row, op_row, entry_in}

pub board_row_length : (e : Bool) (s : Sheet) (x : Job) (r : ℕ) → length (board_row e s x r) ≡ board_row_size e
unfolding board_row room_bytes low_two
board_row_length true s x r = refl
board_row_length false s x r = refl

-- figures that fit their bytes
pub record FitsRow (e : Entry) : Type 0 where
  pub partner_fits : e.partner < 65536
  pub source_fits : e.source < 65536
  pub tag_fits : e.tag < 65536
  pub long_fits : e.long < 65536

-- what stands k bytes behind a front
pub two_behind : (front bs : List ℕ) (k : ℕ) → two (front ++ bs) (length front + k) ≡ two bs k
unfolding two
two_behind front bs k =
    let next : (length front + k) + 1 ≡ length front + (k + 1) = omega arith in
    ap₂ (λ (a b : ℕ). a + 256 * b) (get_or-append-add front bs k 0)
    (ap (λ (j : ℕ). get_or (front ++ bs) j 0) next ∙ get_or-append-add front bs (k + 1) 0)

-- two bytes of a number make the number
pub two_bytes : (v : ℕ) → v < 65536 → v % 256 + 256 * (v / 256 % 256) ≡ v
two_bytes v h = omega arith

pub row_read : (front rest : List ℕ) (at : ℕ) (e : Entry) → length front ≡ at → FitsRow e →
    entry_in (front ++ (op_row e ++ rest)) at ≡ e
unfolding op_row low_two two entry
row_read front rest at e h f =
    subst (λ (k : ℕ). entry_in (front ++ bs) k ≡ e) h
    (let z : length front + 0 ≡ length front = omega arith in
    let a : get_or (front ++ bs) (length front) 0 ≡ e.state =
    ap (λ (k : ℕ). get_or (front ++ bs) k 0) (sym z) ∙ get_or-append-add front bs 0 0 in
    let b : get_or (front ++ bs) (length front + 1) 0 ≡ e.cut = get_or-append-add front bs 1 0 in
    let p : two (front ++ bs) (length front + 2) ≡ e.partner = two_behind front bs 2 ∙ two_bytes e.partner f.partner_fits in
    let s : two (front ++ bs) (length front + 4) ≡ e.source = two_behind front bs 4 ∙ two_bytes e.source f.source_fits in
    let t : two (front ++ bs) (length front + 6) ≡ e.tag = two_behind front bs 6 ∙ two_bytes e.tag f.tag_fits in
    let n : two (front ++ bs) (length front + 8) ≡ e.long = two_behind front bs 8 ∙ two_bytes e.long f.long_fits in
    let whole : entry_in (front ++ bs) (length front)
    ≡ entry e.state e.cut e.partner e.source e.tag e.long = cc in
    whole)
  where
    bs : List ℕ
    bs = op_row e ++ rest
