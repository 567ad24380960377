-- `report::count_rows` meets its contract. The loop's invariant: the operations before i are counted, three times over.
-- Assumes nothing.
use Rattle.std.proofs.Common.{arith}
use Rattle.report.specs.ReportCounts.{counted_more, counted_all}
use Rattle.report.proofs.count_rows.Goals as goal

pub loop-i-preserved : goal.loop-i-preserved
loop-i-preserved c =
    let q = c.loop-i.invariant in
    record {
      messages = counted_more q.messages (omega arith) c.message_at.ensures c.from.ensures;
      receives = counted_more q.receives (omega arith) c.receive_at.ensures c.from-in-loop-i.ensures;
      cut = counted_more q.cut (omega arith) c.cut_at.ensures c.from-in-loop-i-2.ensures;
    }

pub returns : goal.returns
returns c =
    let q = c.loop-i.invariant in
    record {
      messages_counted = counted_all q.messages (omega arith);
      receives_counted = counted_all q.receives (omega arith);
      cut_counted = counted_all q.cut (omega arith);
    }
