-- `report::header_front` meets its contract. Assumes nothing.
use Rattle.std.proofs.Common.{ap, ap₂, ℕ, ◌*◌, ◌+◌, ◌∙◌}
use Rattle.rules.specs.Step.{splice}
use Rattle.report.specs.Numbers.{verdict_number}
use Rattle.report.specs.Report.{front_bytes}
use Rattle.report.specs.ReportRows.{four}
use Rattle.report.proofs.header_front.Goals as goal

pub returns : goal.returns
unfolding front_bytes
returns c =
    let a = c.args in
    c.put_four.ensures
    ∙ (ap₂ (λ (f k : ℕ). splice a.out.now 0 (four f k a.t.steps c.boards-p.result))
    (ap₂ (λ (v r : ℕ). v + 256 * r) c.from.ensures c.stop_rank.ensures) c.stop_op-op.ensures
    ∙ ap (λ (k : ℕ). splice a.out.now 0 (front_bytes (verdict_number a.v) a.t k)) c.boards-p.ensures.is)
