-- Two-byte numbers in byte lists: read back from a splice, and read alike from lists that have the same bytes there.
-- Assumes nothing.
use Rattle.std.specs.Prelude.{◌≡◌, List, ℕ, ◌+◌, ◌*◌, ◌<◌, ◌≤◌, length, get_or}
use Rattle.std.proofs.Common.{sym, ◌∙◌, ap, ap₂, arith}
use Rattle.rules.specs.Sheet.{two}
use Rattle.rules.specs.Step.{splice}
use Rattle.rules.specs.Report.{low_two}
use Rattle.laws.specs.ReportRows.{two_bytes}
use Rattle.laws.specs.Splice.{Same, splice_within}

pub two_same : (c d : List ℕ) (at : ℕ) → Same at (at + 2) c d → two c at ≡ two d at
unfolding two
two_same c d at e = ap₂ (λ (x y : ℕ). x + 256 * y) (e at (omega arith) (omega arith)) (e (at + 1) (omega arith) (omega arith))

-- the number that stands at byte j of the bytes that were put
pub two_within : (c : List ℕ) (at : ℕ) (vs : List ℕ) → at + length vs ≤ length c → (j : ℕ) → j + 1 < length vs → two (splice c at vs) (at + j) ≡ two vs j
unfolding two
two_within c at vs h j l =
    let e : (at + j) + 1 ≡ at + (j + 1) = omega arith in
    ap₂ (λ (x y : ℕ). x + 256 * y) (splice_within c at vs h j (omega arith)) (ap (λ (k : ℕ). get_or (splice c at vs) k 0) e ∙ splice_within c at vs h (j + 1) l)

pub two_low : (v : ℕ) → v < 65536 → two (low_two v) 0 ≡ v
unfolding two low_two
two_low v h = two_bytes v h

pub two_put : (c : List ℕ) (at v : ℕ) → v < 65536 → at + 2 ≤ length c → two (splice c at (low_two v)) at ≡ v
unfolding low_two
two_put c at v h l =
    let e : at + 0 ≡ at = omega arith in
    ap (λ (k : ℕ). two (splice c at (low_two v)) k) (sym e) ∙ (two_within c at (low_two v) l 0 (omega arith) ∙ two_low v h)
