-- `telling::can_end` meets its contract: by the role, each way is the definition's. Assumes nothing.
use Rattle.std.proofs.Common.{sym, ◌∙◌}
use Rattle.rules.specs.Sheet.{sheet_in}
use Rattle.telling.specs.Telling.{finds_some, query_ends, probe_ends}
use Rattle.telling.proofs.can_end.Goals as goal

pub returns-then-tells_completion : goal.returns-then-tells_completion
returns-then-tells_completion c =
    λ x d.
    let is = c.if-tells_completion.true in
    is ∙ query_ends (sheet_in c.args.s.now) x c.args.i (sym c.tells_completion.ensures ∙ is)

pub returns-else-tells_completion : goal.returns-else-tells_completion
returns-else-tells_completion c =
    λ x d.
    let a = c.args in
    c.is_some.ensures ∙ finds_some a.s.now a.c.now a.t a.i c.found_at.result c.found_at.ensures x d
    ∙ probe_ends (sheet_in a.s.now) x a.i c.requires.1 (sym c.tells_completion.ensures ∙ c.if-tells_completion.false)
