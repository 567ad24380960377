-- `report::row_room` meets its contract: the two figures that were read, side by side. Assumes nothing.
use Rattle.std.proofs.Common.{ap, ◌++◌, ◌∙◌}
use Rattle.rules.specs.Job.{Figures, figures, account}
use Rattle.rules.specs.Step.{splice}
use Rattle.rules.specs.Report.{low_two, room_bytes}
use Rattle.account.specs.Stores.{stands_for}
use Rattle.report.proofs.row_room.Goals as goal

pub returns : goal.returns
unfolding room_bytes figures account stands_for
returns c =
    let a = c.args in
    c.put_pair.ensures
    ∙ ap (λ (q : Figures). splice a.out.now a.at (low_two q.in_use ++ low_two q.peak)) c.figures_of-room.ensures.is
