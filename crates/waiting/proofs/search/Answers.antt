-- `waiting::search` meets its contract. The loop's invariant: none of the i passed fits. Assumes nothing.
use Rattle.std.proofs.Common.{arith}
use Rattle.waiting.proofs.Envelopes.{searched_here, searched_on, searched_nowhere}
use Rattle.waiting.proofs.search.Goals as goal

pub loop-i-init : goal.loop-i-init
loop-i-init c = (omega arith, λ j l. absurd (omega arith))

pub fits_at-requires : goal.fits_at-requires
fits_at-requires c = let p = c.requires in (c.loop-i-test.true, omega (arith, c.loop-i-test.true, p.0), omega (arith, c.loop-i-test.true, p.1))

pub returns-then-fits_at : goal.returns-then-fits_at
returns-then-fits_at c =
    let a = c.args in
    let p = c.requires in
    let l = c.loop-i in
    searched_here a.sources.now a.communicators.now a.tags.now p.0 p.1 a.source a.communicator a.tag l.i
    c.loop-i-test.true l.invariant.1 c.fits_at.ensures c.if-fits_at.true

pub loop-i-preserved : goal.loop-i-preserved
loop-i-preserved c =
    let a = c.args in
    let p = c.requires in
    let l = c.loop-i in
    let on = searched_on a.sources.now a.communicators.now a.tags.now p.0 p.1 a.source a.communicator a.tag l.i
    c.loop-i-test.true l.invariant.1 c.fits_at.ensures c.if-fits_at.false in
    (omega arith, on)

pub returns : goal.returns
returns c =
    let a = c.args in
    let p = c.requires in
    let l = c.loop-i in
    searched_nowhere a.sources.now a.communicators.now a.tags.now p.0 p.1 a.source a.communicator a.tag l.i
    c.loop-i-test.false l.invariant.1
