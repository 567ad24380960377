-- `SlotTable::any_hit` meets its contract: the row that is passed is hit as the definition says. Assumes nothing.
use Rattle.std.proofs.Common.{Bool, ap, arith, refl, sym, ℕ, ◌||◌, ◌∙◌}
use Rattle.std.proofs.Math.Bool.{or_comm}
use Rattle.rules.specs.Refusal.{some_below}
use Rattle.laws.specs.Below.{below_more}
use Rattle.requests.specs.Slots.{hit}
use Rattle.requests.proofs.SlotTable.any_hit.Goals as goal

pub loop-k-init : goal.loop-k-init
unfolding some_below
loop-k-init c = refl

pub loop-k-preserved : goal.loop-k-preserved
unfolding hit
loop-k-preserved c =
    let a = c.args in
    let l = c.loop-k in
    let now = hit a.self.now.starts a.self.now.ends a.from a.to in
    or_comm l.found (now l.k) ∙ (ap (λ (b : Bool). now l.k || b) l.invariant ∙ sym (below_more l.k now))

pub returns : goal.returns
returns c =
    let a = c.args in
    c.loop-k.invariant ∙ ap (λ (n : ℕ). some_below n (hit a.self.now.starts a.self.now.ends a.from a.to)) (omega arith)
