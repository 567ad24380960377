-- What a message costs in a store beside its bytes (document 02, K2 and K6). Assumes nothing.
use Rattle.std.specs.Prelude.{◌≡◌, refl, ◌+◌}
use Rattle.std.proofs.Common.{arith}
use Rattle.rules.specs.Limits.{bsend_overhead}
use Rattle.rules.specs.Sheet.{Op}
use Rattle.rules.specs.Job.{in_attached, in_room}
use Rattle.rules.specs.Step.{charge_of}

pub attached_cost : (o : Op) → charge_of in_attached o ≡ o.long + bsend_overhead
unfolding charge_of
attached_cost o = refl

pub room_cost : (o : Op) → charge_of in_room o ≡ o.long + 0
unfolding charge_of
room_cost o = omega arith
