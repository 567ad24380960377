-- `refusals::scripts::refusal` meets its contract: what the closure answered of board r is the script's refusal. Assumes nothing.
use Rattle.std.proofs.Common.{arith, refl, Err, Ok}
use Rattle.laws.specs.Scripts.{passed_none, passed_more, passed_bad, passed_all}
use Rattle.sheet.specs.Refused.{number_of, refuses, passed_on}
use Rattle.refusals.proofs.scripts.refusal.Goals as goal

pub loop-r-init : goal.loop-r-init
loop-r-init g c = λ n f h t. passed_none c.requires.0 h

pub returns-in_err-in_script : goal.returns-in_err-in_script
returns-in_err-in_script g c =
    λ n f h t.
    let e = c.in_err-in_script.field-0.0 in
    let told = t c.loop-r.r (omega arith) (Err e) c.in_err-in_script.ensures in
    passed_on c.from_residual.result e c.from_residual.ensures.1 _
    (passed_bad (c.loop-r.invariant n f h t) (number_of e.rule) e.place (omega arith) told (refuses e.rule))

pub loop-r-preserved : goal.loop-r-preserved
loop-r-preserved g c =
    λ n f h t.
    passed_more (c.loop-r.invariant n f h t) 0 0 (omega arith) (t c.loop-r.r (omega arith) (Ok tt) c.in_ok-in_script.ensures) refl

pub returns : goal.returns
returns g c = λ n f h t. passed_all (c.loop-r.invariant n f h t) (omega arith)
