-- Operation rows: a row that was put is read back and is the only one that changed. Assumes nothing.
use Rattle.std.specs.Prelude.{◌≡◌, refl, List, ℕ, ◌+◌, ◌<◌, ◌≤◌, length, get_or, set}
use Rattle.std.proofs.Common.{sym, ◌∙◌, ap, arith}
use Rattle.rules.specs.Limits.{most_ops, scratch_size}
use Rattle.rules.specs.Sheet.{two}
use Rattle.rules.specs.Job.{Entry, entry, bare_entry}
use Rattle.rules.specs.Step.{splice}
use Rattle.rules.specs.Report.{low_two, op_row, entry_in}
use Rattle.laws.specs.ReportRows.{FitsRow, two_bytes}
use Rattle.laws.specs.Splice.{Same, splice_within, splice_apart}
use Rattle.words.specs.Two.{two_same, two_within}
use Rattle.words.specs.Tab.{tab_same, tab_set, tab_at, tab_length}
use Rattle.state.specs.Layout.{row_at}
use Rattle.state.specs.Decoded.{entries_in}

pub row_length : (e : Entry) → length (op_row e) ≡ 12
unfolding op_row low_two
row_length e = refl

-- lists with the same bytes in a row decode to the same row
pub row_same : (c d : List ℕ) (at : ℕ) → Same at (at + 12) c d → entry_in c at ≡ entry_in d at
row_same c d at e =
    let a = e at (omega arith) (omega arith) in
    let b = e (at + 1) (omega arith) (omega arith) in
    let p = two_same c d (at + 2) (λ j l u. e j (omega arith) (omega arith)) in
    let s = two_same c d (at + 4) (λ j l u. e j (omega arith) (omega arith)) in
    let t = two_same c d (at + 6) (λ j l u. e j (omega arith) (omega arith)) in
    let n = two_same c d (at + 8) (λ j l u. e j (omega arith) (omega arith)) in
    cc

pub entries_same : (c d : List ℕ) (n : ℕ) → Same 0 (row_at n) c d → entries_in c n ≡ entries_in d n
unfolding entries_in
entries_same c d n e = tab_same (λ i. entry_in c (row_at i)) (λ i. entry_in d (row_at i)) 0 n (λ k l u. row_same c d (row_at k) (λ j a b. e j (omega arith) (omega arith)))

-- a row that was put is read back
pub row_put : (c : List ℕ) (at : ℕ) (e : Entry) → FitsRow e → at + 12 ≤ length c → entry_in (splice c at (op_row e)) at ≡ e
unfolding op_row low_two two entry
row_put c at e f h =
    let z : at + 0 ≡ at = omega arith in
    let a : get_or (splice c at (op_row e)) at 0 ≡ e.state = ap (λ (k : ℕ). get_or (splice c at (op_row e)) k 0) (sym z) ∙ splice_within c at (op_row e) h 0 (omega arith) in
    let b : get_or (splice c at (op_row e)) (at + 1) 0 ≡ e.cut = splice_within c at (op_row e) h 1 (omega arith) in
    let p : two (splice c at (op_row e)) (at + 2) ≡ e.partner = two_within c at (op_row e) h 2 (omega arith) ∙ two_bytes e.partner f.partner_fits in
    let s : two (splice c at (op_row e)) (at + 4) ≡ e.source = two_within c at (op_row e) h 4 (omega arith) ∙ two_bytes e.source f.source_fits in
    let t : two (splice c at (op_row e)) (at + 6) ≡ e.tag = two_within c at (op_row e) h 6 (omega arith) ∙ two_bytes e.tag f.tag_fits in
    let n : two (splice c at (op_row e)) (at + 8) ≡ e.long = two_within c at (op_row e) h 8 (omega arith) ∙ two_bytes e.long f.long_fits in
    let whole : entry_in (splice c at (op_row e)) at ≡ entry e.state e.cut e.partner e.source e.tag e.long = cc in
    whole

-- row i put: entry i of the table set
pub entries_put : (c : List ℕ) (i n : ℕ) (e : Entry) → FitsRow e → i < n → n ≤ most_ops → scratch_size ≤ length c → entries_in (splice c (row_at i) (op_row e)) n ≡ set (entries_in c n) i e
unfolding entries_in
entries_put c i n e f l m h =
    let long = row_length e in
    tab_set (λ k. entry_in (splice c (row_at i) (op_row e)) (row_at k)) (λ k. entry_in c (row_at k)) n i e l
    (row_put c (row_at i) e f (omega arith))
    (λ j u d. row_same (splice c (row_at i) (op_row e)) c (row_at j) (splice_apart c (row_at i) (op_row e) (omega arith) (row_at j) (row_at j + 12) (omega arith)))

pub entries_at : (c : List ℕ) (n i : ℕ) → i < n → get_or (entries_in c n) i (bare_entry 0) ≡ entry_in c (row_at i)
unfolding entries_in
entries_at c n i l = tab_at (λ k. entry_in c (row_at k)) n i (bare_entry 0) l

pub entries_length : (c : List ℕ) (n : ℕ) → length (entries_in c n) ≡ n
unfolding entries_in
entries_length c n = tab_length (λ k. entry_in c (row_at k)) 0 n
