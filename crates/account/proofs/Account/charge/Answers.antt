-- `Account::charge` meets its contract: what `take` answers is what is left and what is said. Assumes nothing.
use Rattle.std.proofs.Common.{sym, ◌∙◌}
use Rattle.account.specs.Accounts.{answered_some, answered_none}
use Rattle.account.proofs.Account.charge.Goals as goal

pub returns-in_default : goal.returns-in_default
returns-in_default c =
    let none = answered_none c.args.self.now c.args.n (sym c.take.ensures ∙ c.in_default.is) in
    (sym none.1, sym none.0)

pub returns : goal.returns
returns c =
    let some = answered_some c.args.self.now c.args.n c.in-Some.after (sym c.take.ensures ∙ c.in-Some.is) in
    (sym some.1, sym some.0)
