-- `report::header_back` meets its contract. Assumes nothing.
use Rattle.std.proofs.Common.{List, ap₂, ℕ, ◌++◌, ◌∙◌}
use Rattle.rules.specs.Step.{splice}
use Rattle.rules.specs.Report.{low_two}
use Rattle.report.specs.Report.{back_bytes}
use Rattle.report.proofs.header_back.Goals as goal

pub returns : goal.returns
unfolding back_bytes
returns c =
    let k = c.count_rows-k.ensures in
    let pair : ℕ → ℕ → List ℕ = λ u v. low_two u ++ low_two v in
    c.put_four.ensures
    ∙ ap₂ (λ (u v : List ℕ). splice c.args.out.now 8 (u ++ v)) (ap₂ pair c.ops-n.ensures.is k.messages_counted)
    (ap₂ pair k.receives_counted k.cut_counted)
