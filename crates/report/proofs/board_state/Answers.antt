-- `report::board_state` meets its contract. Assumes nothing.
use Rattle.std.proofs.Common.{false, true}
use Rattle.report.specs.Report.{state_finished, state_other}
use Rattle.report.proofs.board_state.Goals as goal

pub returns-then-count-finished_of : goal.returns-then-count-finished_of
returns-then-count-finished_of c = λ lent x d. state_finished d c.requires.1 c.finished_of.ensures.is c.count.ensures.is c.if-count-finished_of.true

pub returns-then-is_able : goal.returns-then-is_able
returns-then-is_able c = λ lent x d.
    state_other d c.requires.1 c.finished_of.ensures.is c.count.ensures.is c.if-count-finished_of.false true (c.is_able.ensures lent x d) c.if-is_able.true

pub returns-else-is_able : goal.returns-else-is_able
returns-else-is_able c = λ lent x d.
    state_other d c.requires.1 c.finished_of.ensures.is c.count.ensures.is c.if-count-finished_of.false false (c.is_able.ensures lent x d) c.if-is_able.false
