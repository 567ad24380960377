-- `Sheet::room` meets its contract: in the first edition there is no room. Assumes nothing.
use Rattle.std.proofs.Common.{ap, arith, subst, sym, ◌∙◌}
use Rattle.rules.specs.Sheet.{second_in}
use Rattle.laws.specs.Laid.{Laid}
use Rattle.sheet.specs.Fields.{no_room}
use Rattle.sheet.proofs.Sheet.room.Goals as goal

pub returns-else-is_second : goal.returns-else-is_second
returns-else-is_second c =
    let a = c.args in
    let laid : Laid a.self.now = subst Laid c.self.view_is c.self.invariant in
    let first = ap second_in (sym c.self.view_is) ∙ (sym c.is_second.ensures ∙ c.if-is_second.false) in
    record {
      is = sym (no_room a.self.now a.r (omega (arith, laid.P_is)) first);
      small = omega arith;
    }
