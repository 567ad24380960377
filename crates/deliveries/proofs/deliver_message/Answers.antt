-- `deliveries::deliver_message` meets its contract: the bytes put at the front of the part that was lent are the
-- delivery of rules. Assumes nothing.
use Rattle.std.proofs.Common.{List, ap, arith, drop, length, take, ℕ, ◌+◌, ◌-◌, ◌∙◌, ◌≤◌}
use borrow.Rule.Slice.PartMut.{mid_of, put_mid, mid_len}
use Rattle.rules.specs.Sheet.{sheet_in, op, inbox_total}
use Rattle.rules.specs.Step.{splice}
use Rattle.invariant.specs.deliveries.Commute.{copied_in_area, copied_in_message}
use Rattle.deliveries.specs.Deliveries.{message_end, area_end, delivered_part}
use Rattle.deliveries.proofs.deliver_message.Goals as goal
use Rattle.deliveries.proofs.deliver_message.Goals.{After-offset-2, Start}

-- the area's two ends are read
module _ (c : After-offset-2) where
  abbrev count : ℕ
  count = c.copied-count.result

  abbrev area : ℕ
  area = c.args.start + c.offset-2.result

  abbrev end : ℕ
  end = area + c.long-capacity.result

  inside : end ≤ inbox_total (sheet_in c.args.s.now)
  inside = omega (arith, area_end c.requires.0)

  room : end ≤ length c.args.inbox.now
  room = omega (arith, inside, c.requires.1.room)

  -- what is copied lies within the message, and goes into the area
  sent : count ≤ (op (sheet_in c.args.s.now) c.args.m).long
  sent = omega (arith, copied_in_message (sheet_in c.args.s.now) c.args.m c.args.r)

  first : 0 + count ≤ length (mid_of area (end - area) c.args.inbox.now)
  first =
      omega (
        arith,
        mid_len area end c.args.inbox.now room,
        copied_in_area (sheet_in c.args.s.now) c.args.m c.args.r,
      )

pub returns : goal.returns
returns c =
    let a = (goal.at.returns c).Start.args in
    let k = (goal.at.returns c).After-offset-2 in
    let lent = mid_of (area k) (end k - area k) a.inbox.now in
    ap (λ (part : List ℕ). put_mid (area k) (end k - area k) a.inbox.now part)
    (c.copy.ensures ∙ ap (λ (bs : List ℕ). splice lent 0 (take (count k) (drop (c.payload_offset.result + c.offset.result) bs))) c.bytes-bytes.ensures)
    ∙ delivered_part c.requires.0 a.inbox.now (c.payload_offset.result + c.offset.result) (count k) (area k) (end k)
    c.requires.1.room (omega arith) (omega arith) (omega arith) (omega arith)

pub overflow_add-area : goal.overflow_add-area
overflow_add-area c = omega (arith, room c)

pub overflow_add-end : goal.overflow_add-end
overflow_add-end c = omega (arith, room c)

pub slice_bounds-copy-end : goal.slice_bounds-copy-end
slice_bounds-copy-end c = room c

pub copy-requires : goal.copy-requires
copy-requires c = (first (goal.at.copy-requires c).After-offset-2, omega (arith, ap (λ (bs : List ℕ). length bs) c.bytes-bytes.ensures, message_end c.requires.0, sent (goal.at.copy-requires c).After-offset-2))
