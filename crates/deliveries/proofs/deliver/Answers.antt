-- `deliveries::deliver` meets its contract. The loop's invariant: the scripts of the boards before r are delivered,
-- and start is where the inbox of board r starts. Assumes nothing.
use Rattle.std.proofs.Common.{ap, arith, ℕ, ◌∙◌, ◌≡◌}
use Rattle.rules.specs.Sheet.{sheet_in, counts_before, P_of}
use Rattle.deliveries.specs.Deliveries.{filling_none, filling_start, filling_more, memory_is}
use Rattle.deliveries.proofs.deliver.Goals as goal

pub loop-r-init : goal.loop-r-init
loop-r-init c =
    let a = c.args in
    filling_none (sheet_in a.s.now) a.c.now a.inbox.now

pub overflow_add-start : goal.overflow_add-start
overflow_add-start c =
    let l = c.loop-r in
    omega (arith, filling_start c.requires.0.good l.invariant (omega arith))

pub loop-r-preserved : goal.loop-r-preserved
loop-r-preserved c =
    let script = c.deliver_script in
    let l = c.loop-r in
    let a = c.args in
    filling_more (sheet_in a.s.now) c.requires.0.good a.c.now a.inbox.now l.r l.start l.inbox
    script.new.inbox c.inbox-start.result l.invariant (omega arith) c.inbox-start.ensures.is script.ensures

pub returns : goal.returns
returns c =
    let a = c.args in
    let l = c.loop-r in
    let s = sheet_in a.s.now in
    let last : l.r ≡ P_of s = omega (arith, l.invariant.upper) in
    memory_is a.s.now a.c.now a.inbox.now l.inbox (counts_before s l.r) l.invariant.replaying
    (ap (λ (k : ℕ). counts_before s k) last ∙ c.requires.0.good.counts_total)
