-- `Scratch::match_rows` meets its contract: the message's row, then the receive's. Assumes nothing.
use Rattle.state.proofs.ChangesHold.{rows_match}
use Rattle.state.proofs.Scratch.match_rows.Goals as goal

pub returns : goal.returns
returns c =
    λ t s x d q.
    let a = c.args in
    rows_match s a.self.now t x d a.m a.r a.cut a.source a.tag a.long c.put_sent.new.self
    c.put_received.new.self q c.put_sent.ensures c.put_received.ensures
