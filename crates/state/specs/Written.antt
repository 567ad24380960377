-- The rows as they stand in scratch are the report's own operation rows, so that writing them into the report is a copy.
-- Assumes nothing.
use Rattle.std.specs.Prelude.{◌≡◌, refl, List, [], ◌∷◌, ◌++◌, ℕ, zero, suc, ◌+◌, ◌*◌, ◌<◌, ◌≤◌, length, set}
use Rattle.std.proofs.Common.{sym, ◌∙◌, ap, arith, length-append}
use Rattle.rules.specs.Job.{Entry}
use Rattle.rules.specs.Step.{splice}
use Rattle.rules.specs.Report.{op_row, op_rows}
use Rattle.laws.specs.Splice.{splice_behind, splice_front}
use Rattle.state.specs.Layout.{row_at}
use Rattle.state.specs.Rows.{row_length}

pub rows_length : (es : List Entry) → length (op_rows es) ≡ 12 * length es
unfolding op_rows
rows_length [] = refl
rows_length (e ∷ es) = length-append (op_row e) (op_rows es) ∙ omega (arith, row_length e, rows_length es)

-- one row put among the rows
pub rows_put : (es : List Entry) (i : ℕ) (e : Entry) → i < length es → splice (op_rows es) (row_at i) (op_row e) ≡ op_rows (set es i e)
unfolding op_rows
rows_put [] i e l = absurd (omega arith)
rows_put (x ∷ es) zero e l = splice_front (op_row x) (op_rows es) (op_row e) (row_length e ∙ sym (row_length x))
rows_put (x ∷ es) (suc i) e l =
    let at : 12 * suc i ≡ length (op_row x) + 12 * i = omega (arith, row_length x) in
    let fits : 12 * i + length (op_row e) ≤ length (op_rows es) = omega (arith, row_length e, rows_length es) in
    ap (λ (k : ℕ). splice (op_row x ++ op_rows es) k (op_row e)) at
    ∙ (splice_behind (op_row x) (op_rows es) (12 * i) (op_row e) fits ∙ ap (λ (vs : List ℕ). op_row x ++ vs) (rows_put es i e (omega arith)))
