-- `setup::put_script` meets its contract. The loop's invariant: the tables and the latest of each slot are right before
-- operation i. Assumes nothing.
use Rattle.std.proofs.Common.{arith}
use Rattle.rules.specs.Sheet.{sheet_in}
use Rattle.setup.specs.SetupTables.{Slotted}
use Rattle.setup.specs.SetupWalk.{going_none, going_more, going_all, going_slotted}
use Rattle.setup.proofs.put_script.Goals as goal
use Rattle.setup.proofs.put_script.Goals.{In-loop-i}

pub loop-i-init : goal.loop-i-init
loop-i-init c =
    let first = c.first-first in
    going_none (sheet_in c.args.s.now) c.requires.0 c.args.r first.result c.count.result c.args.c.now c.requires.1
    first.ensures.is c.count.ensures.is c.requires.2

-- operation i, which the walk has come to
slotted : (c : In-loop-i) → Slotted c.args.s.now c.loop-i.i
slotted c =
    going_slotted c.known.ensures c.requires.0 c.requires.1 c.loop-i.invariant c.loop-i-test.true

pub put_op-requires : goal.put_op-requires
put_op-requires c = (slotted (goal.at.put_op-requires c).In-loop-i, omega arith)

pub note-requires : goal.note-requires
note-requires c = slotted (goal.at.note-requires c).In-loop-i

pub loop-i-preserved : goal.loop-i-preserved
loop-i-preserved c =
    going_more c.known.ensures c.requires.0 c.requires.1 c.loop-i.invariant c.loop-i-test.true c.put_op.ensures c.note.ensures

pub returns : goal.returns
returns c =
    going_all (sheet_in c.args.s.now) c.requires.0 c.requires.1 c.loop-i.invariant (omega arith)
