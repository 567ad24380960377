-- `report::verdict_of` meets its contract. Assumes nothing.
use Rattle.std.proofs.Common.{sym, ◌∙◌}
use Rattle.report.specs.Report.{verdict_stopped, verdict_finished, verdict_deadlock, verdict_going}
use Rattle.report.proofs.verdict_of.Goals as goal

pub returns-in-Some : goal.returns-in-Some
returns-in-Some c = λ lent x d. verdict_stopped d c.in-Some.stop c.in-Some.is

pub returns-then-all_are_finished : goal.returns-then-all_are_finished
returns-then-all_are_finished c = λ lent x d.
    verdict_finished d c.in_default.is (sym (c.all_are_finished.ensures c.args.t lent x d) ∙ c.if-all_are_finished.true)

pub returns-then-none_is_able : goal.returns-then-none_is_able
returns-then-none_is_able c = λ lent x d.
    verdict_deadlock d c.in_default.is (sym (c.all_are_finished.ensures c.args.t lent x d) ∙ c.if-all_are_finished.false)
    (sym (c.none_is_able.ensures lent x d) ∙ c.if-none_is_able.true)

pub returns-else-none_is_able : goal.returns-else-none_is_able
returns-else-none_is_able c = λ lent x d.
    verdict_going d c.in_default.is (sym (c.all_are_finished.ensures c.args.t lent x d) ∙ c.if-all_are_finished.false)
    (sym (c.none_is_able.ensures lent x d) ∙ c.if-none_is_able.false)
