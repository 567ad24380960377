-- `report::put_header` meets its contract: front and back side by side are the header. Assumes nothing.
use Rattle.std.proofs.Common.{List, ap, arith, refl, ℕ, ◌∙◌}
use Rattle.rules.specs.Sheet.{sheet_in, P_of}
use Rattle.rules.specs.Step.{splice}
use Rattle.rules.specs.Report.{low_two}
use Rattle.laws.specs.Splice.{splice_then}
use Rattle.report.specs.Report.{front_bytes, back_bytes, rank_small, verdict_small, header_is}
use Rattle.report.specs.Numbers.{verdict_number}
use Rattle.report.proofs.put_header.Goals as goal

pub header_front-requires : goal.header_front-requires
header_front-requires c =
    let d = c.requires.0.represents in
    (rank_small d, c.requires.1)

pub returns : goal.returns
unfolding front_bytes back_bytes low_two
returns c =
    let back = c.header_back in
    let v = c.verdict_of-v in
    let a = c.args in
    let s = sheet_in a.s.now in
    λ lent x d.
    splice_then a.out.now c.header_front.new.out back.new.out 0 8 (front_bytes (verdict_number v.result) a.t (P_of s))
    (back_bytes s a.c.now) c.header_front.ensures refl back.ensures (omega (arith, c.requires.1))
    ∙ ap (λ (vs : List ℕ). splice a.out.now 0 vs) (header_is d (verdict_number v.result) (v.ensures lent x d) (verdict_small v.result))
