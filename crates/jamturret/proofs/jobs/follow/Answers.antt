-- `jamturret::jobs::follow` meets its contract: a refusal of sheet or rooms, or what follow does. Assumes nothing.
use Rattle.std.proofs.Common.{List, ℕ, arith, length, refl, subst, sym}
use Rattle.rules.specs.Limits.{order_room}
use Rattle.rules.specs.Sheet.{sheet_in, N_of}
use Rattle.sheet.specs.Refused.{number_of, number_told, place_told, refuses, passed_is}
use Rattle.jamturret.specs.Rooms.{Ready, own_order}
use Rattle.jamturret.specs.Outcomes.{FollowDoes, early, unrefused, ready, follow_refused, follow_done}
use Rattle.jamturret.proofs.jobs.follow.Goals as goal
use Rattle.jamturret.proofs.jobs.follow.Goals.{In_ok-sheet}

-- the rooms are enough, with the order's own room
enough : (c : In_ok-sheet) →
    Ready c.args.sheet.now (length c.args.inbox.now) (length c.args.report.now)
    (order_room (N_of (sheet_in c.args.sheet.now))) (length c.args.scratch.now)
enough c = own_order (ready _ _ _ _ _ _ _ c.in_ok-sheet.ensures.refuses refl)

pub returns-in_err-sheet : goal.returns-in_err-sheet
returns-in_err-sheet c =
    let a = c.args in
    let e = c.in_err-sheet.field-0.0 in
    rw (passed_is c.from_residual.result e c.from_residual.ensures.1)
    (follow_refused a.sheet.now a.order.now a.inbox.now a.report.now a.scratch.now _ (number_of e.rule) e.place
    (λ l. omega arith) (early _ _ _ _ _ _ _ c.in_err-sheet.ensures.refuses (refuses e.rule)))

pub follow_in_rooms-requires : goal.follow_in_rooms-requires
follow_in_rooms-requires c =
    let a = c.args in
    subst (λ (bs : List ℕ). Ready bs (length a.inbox.now) (length a.report.now) (order_room (N_of (sheet_in bs))) (length a.scratch.now))
    (sym c.in_ok-sheet.ensures.sheet) (enough (goal.at.follow_in_rooms-requires c).In_ok-sheet)

pub returns : goal.returns
returns c =
    let a = c.args in
    let f = c.follow_in_rooms in
    follow_done a.sheet.now a.order.now a.inbox.now a.report.now a.scratch.now
    (unrefused _ _ _ _ _ _ _ c.in_ok-sheet.ensures.refuses refl) (enough (goal.at.returns c).In_ok-sheet).roomy
    _ _ f.new.inbox f.new.out f.new.scratch
    (subst (λ (bs : List ℕ). FollowDoes bs a.order.now (number_told f.result) (place_told f.result) a.inbox.now f.new.inbox a.report.now f.new.out a.scratch.now f.new.scratch)
    c.in_ok-sheet.ensures.sheet f.ensures)
