-- The invariant of `jamturret::rooms::inbox_total`: total is the inboxes of the boards before r.
use Rattle.std.proofs.Common.{◌*◌, ◌≡◌, ◌≤◌}
use Rattle.rules.specs.Sheet.{sheet_in, inbox_start}
use Rattle.jamturret.proofs.rooms.inbox_total.Given as goal

abbrev pub invariant-loop-r : goal.invariant-loop-r
invariant-loop-r l = (l.total ≤ 65536 * l.r) × (l.total ≡ inbox_start (sheet_in l.s) l.r)
