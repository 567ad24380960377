-- `fields::probe_is_good` meets its contract: each part of the test is the definition's. Assumes nothing.
use Rattle.std.proofs.Common.{refl}
use Rattle.rules.specs.Refusal.{probe_good}
use Rattle.fields.proofs.probe_is_good.Goals as goal

pub returns : goal.returns
unfolding probe_good
returns c =
    let flag = c.flag.ensures.is in
    let zero = c.zero_field.ensures.is in
    let offset = c.offset.ensures.is in
    let long = c.long.ensures.is in
    let slot = c.slot.ensures.is in
    rw (flag, zero, offset, long, slot) refl
