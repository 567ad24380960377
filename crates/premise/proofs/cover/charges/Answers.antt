-- `premise::cover::charges` meets its contract: each operation adds what it would be charged. Assumes nothing.
use Rattle.std.proofs.Common.{arith}
use Rattle.premise.specs.Charges.{summed_none, summed_more, summed_all}
use Rattle.premise.proofs.cover.charges.Goals as goal

pub loop-i-init : goal.loop-i-init
loop-i-init c = summed_none c.requires.0 c.requires.1 c.first-first.ensures.is (omega arith)

pub loop-i-preserved : goal.loop-i-preserved
loop-i-preserved c =
    let v = c.charge-sum in
    summed_more c.loop-i.invariant c.loop-i-test.true v.result v.ensures.is v.ensures.small

pub returns : goal.returns
returns c = summed_all c.loop-i.invariant c.loop-i-test.false
