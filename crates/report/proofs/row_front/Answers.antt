-- `report::row_front` meets its contract: its figures side by side are the front of the row. Assumes nothing.
use Rattle.std.proofs.Common.{List, ap, refl, ℕ, ◌∙◌}
use Rattle.rules.specs.Job.{Figures, figures, account}
use Rattle.rules.specs.Step.{splice}
use Rattle.account.specs.Stores.{stands_for}
use Rattle.report.specs.Report.{row_is}
use Rattle.report.proofs.row_front.Goals as goal

pub returns : goal.returns
unfolding figures account stands_for
returns c =
    let put = c.put_four in
    let state = c.board_state-state in
    let attached = c.figures_of-attached.ensures.is in
    let done = c.finished_of-finished in
    λ lent x d. put.ensures
    ∙ ap (λ (vs : List ℕ). splice c.args.out.now c.args.at vs)
    (row_is d c.requires.1 done.ensures.is refl (ap (λ (q : Figures). q.in_use) attached) (ap (λ (q : Figures). q.peak) attached)
    (c.from.ensures ∙ state.ensures lent x d))
