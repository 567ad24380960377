-- `telling::put_half_row` meets its contract: by the role, each way is the definition's. Assumes nothing.
use Rattle.std.proofs.Common.{sym, ◌∙◌}
use Rattle.rules.specs.Sheet.{sheet_in}
use Rattle.simulation.specs.Simulates.{simulates_as, simulates_change}
use Rattle.telling.specs.Telling.{row_plain, row_query, row_probe}
use Rattle.telling.proofs.put_half_row.Goals as goal

pub returns-then-not-tells : goal.returns-then-not-tells
returns-then-not-tells c =
    let a = c.args in
    simulates_change (c.set_state.ensures a.t) (λ x d o. o.inside)
    (λ x d o. row_plain (sheet_in a.s.now) x a.i (sym c.tells.ensures ∙ c.if-not-tells.true))

pub returns-then-tells_completion : goal.returns-then-tells_completion
returns-then-tells_completion c =
    let a = c.args in
    simulates_as
    (λ x o. row_query (sheet_in a.s.now) x a.i (sym c.tells_completion.ensures ∙ c.if-tells_completion.true))
    c.tell_completion.ensures

pub returns-else-tells_completion : goal.returns-else-tells_completion
returns-else-tells_completion c =
    let a = c.args in
    simulates_as
    (λ x o. row_probe (sheet_in a.s.now) x a.i (sym c.tells.ensures ∙ c.if-not-tells.false)
    (sym c.tells_completion.ensures ∙ c.if-tells_completion.false))
    c.tell_message.ensures
