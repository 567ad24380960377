-- `Account::give_back` meets its contract: what is left is rules' difference. Assumes nothing.
use Rattle.account.specs.Accounts.{given_back_left}
use Rattle.account.proofs.Account.give_back.Goals as goal

pub returns : goal.returns
returns c = given_back_left c.args.self c.args.n c.saturating_sub-in_use.result c.saturating_sub-in_use.ensures
