-- `refusals::boards::refusal` meets its contract: each board's entry is tested as the definition does, and behind the last the counts
-- decide. Assumes nothing.
use Rattle.std.proofs.Common.{arith, sym, ◌∙◌}
use Rattle.rules.specs.Sheet.{sheet_in}
use Rattle.sheet.specs.Refused.{told_by}
use Rattle.sheet.specs.declared.refusal.Rule.TheVariants.{Boards}
use Rattle.refusals.specs.Boards.{walked_none, walked_inboxes, walked_more, walked_bad, walked_all}
use Rattle.refusals.proofs.boards.refusal.Goals as goal

pub loop-r-init : goal.loop-r-init
loop-r-init c = walked_none (sheet_in c.args.s.now)

pub entry_is_good-requires : goal.entry_is_good-requires
entry_is_good-requires c =
    let w = c.loop-r.invariant in
    (omega arith, w.sum_is, walked_inboxes w (omega arith) _ c.inbox-total.ensures.is)

pub returns-in_err-ensure : goal.returns-in_err-ensure
returns-in_err-ensure c =
    told_by c.from_residual.result c.in_err-ensure.field-0.0 c.from_residual.ensures.1 _ Boards c.loop-r.r c.in_err-ensure.ensures
    (walked_bad c.loop-r.invariant (omega arith) (sym c.entry_is_good.ensures ∙ c.in_err-ensure.ensures.0))

pub loop-r-preserved : goal.loop-r-preserved
loop-r-preserved c =
    let count = c.count-counted in
    let inbox = c.inbox-total in
    walked_more c.loop-r.invariant (omega arith) (sym c.entry_is_good.ensures ∙ c.in_ok-ensure.ensures)
    count.result inbox.result count.ensures.is count.ensures.small inbox.ensures.is

pub returns : goal.returns
returns c = walked_all c.loop-r.invariant (omega arith) c.ops.result c.boards-p.result _ (omega arith) (omega arith) c.ensure-2.ensures
