-- `requests::forgotten::script_refusal` meets its contract: each way leaves the walk at the operation before i. Assumes nothing.
use Rattle.std.proofs.Common.{arith, ◌-◌}
use Rattle.std.proofs.lemmas.Bool.Decides.{nat_tests}
use Rattle.rules.specs.Sheet.{sheet_in, op}
use Rattle.requests.specs.Slots.{Slotted}
use Rattle.requests.specs.Requests.{slotted}
use Rattle.requests.specs.Forgotten.{walked_none, walked_freed, walked_forgotten, walked_on, walked_all}
use Rattle.requests.proofs.forgotten.script_refusal.Goals as goal
use Rattle.requests.proofs.forgotten.script_refusal.Goals.{In-loop-i}

pub loop-i-init : goal.loop-i-init
loop-i-init c = walked_none (sheet_in c.args.s.now) c.requires.0 c.args.r _ c.requires.2 (omega arith)

-- what refusal 6 has settled of that operation
there : (c : In-loop-i) → Slotted (op (sheet_in c.args.s.now) (c.loop-i.i - 1))
there c = slotted c.args.s.now c.known.ensures c.requires.0 c.requires.1 (c.loop-i.i - 1) (omega arith)

pub bounds-freed-slot : goal.bounds-freed-slot
bounds-freed-slot c = omega (arith, (there (goal.at.bounds-freed-slot c).In-loop-i).slot_small)

pub bounds-freed-slot-else-frees_slot : goal.bounds-freed-slot-else-frees_slot
bounds-freed-slot-else-frees_slot c = omega (arith, (there (goal.at.bounds-freed-slot-else-frees_slot c).In-loop-i).slot_small)

pub loop-i-preserved-then-frees_slot : goal.loop-i-preserved-then-frees_slot
loop-i-preserved-then-frees_slot c =
    rw c.slot-slot.ensures.is
    (walked_freed c.loop-i.invariant (omega arith) (there (goal.at.loop-i-preserved-then-frees_slot c).In-loop-i) (cc))

pub loop-i-preserved-then-takes_slot-freed : goal.loop-i-preserved-then-takes_slot-freed
loop-i-preserved-then-takes_slot-freed c =
    walked_forgotten c.loop-i.invariant (omega arith) (there (goal.at.loop-i-preserved-then-takes_slot-freed c).In-loop-i) (cc) (grind (arith, nat_tests))

pub loop-i-preserved : goal.loop-i-preserved
loop-i-preserved c =
    walked_on c.loop-i.invariant (omega arith) (there (goal.at.loop-i-preserved c).In-loop-i) (cc) (grind (arith, nat_tests))

pub returns : goal.returns
returns c = walked_all c.loop-i.invariant (omega arith)
