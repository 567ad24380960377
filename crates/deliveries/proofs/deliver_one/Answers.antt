-- `deliveries::deliver_one` meets its contract: the partner of a matched receive is a message. Assumes nothing.
use Rattle.std.proofs.Common.{sym, ◌∙◌, eqb-true}
use Rattle.rules.specs.Report.{entry_in}
use Rattle.state.specs.Layout.{row_at}
use Rattle.deliveries.specs.Deliveries.{sent_to}
use Rattle.deliveries.proofs.deliver_one.Goals as goal

pub deliver_message-requires : goal.deliver_message-requires
deliver_message-requires c = (
  sent_to c.requires.0 c.requires.1 (sym c.is_receive.ensures ∙ c.if-is_receive.true)
      (eqb-true (entry_in c.args.c.now (row_at c.args.i)).state 3 (sym c.is_in.ensures ∙ c.if-is_in.true)) c.partner_of-m.ensures.is,
  c.requires.2,
)
