-- `Account::take` meets its contract: what it builds is rules' charged figures. Assumes nothing.
use Rattle.std.proofs.Common.{arith, sym, ◌∙◌, ap, refl, Some}
use Rattle.account.specs.Accounts.{room_fits, taken_fits, taken_or_none}
use Rattle.account.proofs.Account.take.Goals as goal

pub overflow_add-in_use : goal.overflow_add-in_use
overflow_add-in_use c =
    record { fits = omega (arith, room_fits c.args.self c.args.n (sym c.has_room.ensures ∙ c.if-not-has_room.false)) }

pub returns-then-not-has_room : goal.returns-then-not-has_room
unfolding taken_or_none
returns-then-not-has_room c = rw (sym c.has_room.ensures ∙ c.if-not-has_room.true) refl

pub returns : goal.returns
unfolding taken_or_none
returns c =
    let a = c.args in
    let fits = sym c.has_room.ensures ∙ c.if-not-has_room.false in
    rw fits (ap Some (taken_fits a.self a.n c.max-peak.result fits c.max-peak.ensures))
