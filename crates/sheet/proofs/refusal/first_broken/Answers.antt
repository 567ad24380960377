-- `sheet::refusal::first_broken` meets its contract: what the closure answered of index i is the rule's test. Assumes nothing.
use Rattle.std.proofs.Common.{arith, ap, ap₂, not, ℕ, ◌-◌, ◌+◌, ◌≡◌}
use Rattle.rules.specs.Refusal.{first_broken}
use Rattle.laws.specs.Answers.{told_same, sought_more, sought_bad, sought_all}
use Rattle.sheet.specs.Refused.{number_of, told_by}
use Rattle.sheet.proofs.refusal.first_broken.Goals as goal

pub loop-i-init : goal.loop-i-init
loop-i-init g c =
    λ f t.
    let a = c.args in
    record { upper = omega arith; left = ap (λ (k : ℕ). first_broken (number_of a.rule) f k a.from) (omega arith) }

pub returns-in_err-ensure : goal.returns-in_err-ensure
returns-in_err-ensure g c =
    λ f left j e d t.
    let a = c.args in
    let i = c.loop-i.i in
    let tested = t i (omega arith) (omega arith) c.keeps.result c.keeps.ensures in
    let found = sought_bad (c.loop-i.invariant f t) (omega arith) tested (ap not c.in_err-ensure.ensures.0) in
    told_by c.from_residual.result c.in_err-ensure.field-0.0 c.from_residual.ensures.1 _ a.rule i c.in_err-ensure.ensures
    (told_same _ _ _ _ (ap₂ (first_broken (number_of a.rule) f) e d) found)

pub loop-i-preserved : goal.loop-i-preserved
loop-i-preserved g c =
    λ f t.
    let i = c.loop-i.i in
    let tested = t i (omega arith) (omega arith) c.keeps.result c.keeps.ensures in
    sought_more (c.loop-i.invariant f t) (omega arith) tested (ap not c.in_ok-ensure.ensures)

pub returns : goal.returns
returns g c =
    λ f left j e d t.
    told_same _ _ _ _ (ap₂ (first_broken (number_of c.args.rule) f) e d) (sought_all (c.loop-i.invariant f t) (omega arith))
