-- `Scratch::set_told` meets its contract: the row that is put is the one that is told. Assumes nothing.
use Rattle.state.proofs.ChangesHold.{row_told}
use Rattle.state.proofs.Scratch.set_told.Goals as goal

pub returns : goal.returns
returns c =
    λ t s x d q.
    let a = c.args in
    row_told s a.self.now t x d a.i a.source a.tag a.long c.put_told.new.self q c.put_told.ensures
