-- `telling::tell_message` meets its contract: where no message was found, the row is the definition's. Assumes nothing.
use Rattle.std.proofs.Common.{subst, ℕ}
use Rattle.std.specs.Prelude.{Option}
use Rattle.rules.specs.Sheet.{sheet_in}
use Rattle.simulation.specs.Simulates.{simulates_change}
use Rattle.telling.specs.Telling.{Finds, row_missing}
use Rattle.telling.proofs.tell_message.Goals as goal

pub returns-in-None : goal.returns-in-None
returns-in-None c =
    let a = c.args in
    let none_fits = subst (λ (o : Option ℕ). Finds a.s.now a.c.now a.t a.i o) c.in-None.is c.found_at.ensures in
    simulates_change (c.set_state.ensures a.t) (λ x d o. o.inside)
    (λ x d o. row_missing (sheet_in a.s.now) x a.i (none_fits x d))
