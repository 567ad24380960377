-- `Account::has_room` meets its contract: a sum that is at most the size, tested by a difference that no size exceeds.
-- Assumes nothing.
use Rattle.std.proofs.Common.{arith, ◌∙◌}
use Rattle.std.proofs.lemmas.Bool.{lt-leb}
use Rattle.account.specs.Accounts.{room_within, no_room}
use Rattle.account.proofs.Account.has_room.Goals as goal

pub returns-then-n-self : goal.returns-then-n-self
returns-then-n-self c = room_within c.args.self c.args.n (omega arith)

pub returns-else-n-self : goal.returns-else-n-self
returns-else-n-self c = lt-leb c.args.n c.args.self.size c.if-n-self.false ∙ no_room c.args.self c.args.n c.if-n-self.false
