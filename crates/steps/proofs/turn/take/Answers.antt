-- `steps::turn::take` meets its contract: the step, counted. Assumes nothing.
use Rattle.std.proofs.Common.{arith, refl, ◌+◌}
use Rattle.state.specs.Controls.{stepped}
use Rattle.steps.specs.Turn.{able_board, steps_room, stepped_represents}
use Rattle.steps.proofs.turn.take.Goals as goal

pub overflow_add-next : goal.overflow_add-next
overflow_add-next c =
    let a = c.args in
    let p = c.requires in
    omega (arith, steps_room a.s.now p.lent a.c.now a.t p.job p.represents a.r p.is_able)

pub returns : goal.returns
returns c =
    λ lent x d e.
    let a = c.args in
    let u = c.uncounted-u in
    stepped_represents a.s.now lent a.c.now a.t x d a.r e u.new.c u.result (stepped (a.t.steps + 1) u.result)
    (u.ensures.after x d.decodes (able_board a.s.now lent a.c.now a.t x d a.r e)) refl
