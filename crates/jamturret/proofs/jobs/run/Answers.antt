-- `jamturret::jobs::run` meets its contract: a refusal of sheet or rooms, or what run does. Assumes nothing.
use Rattle.std.proofs.Common.{List, ℕ, length, refl, subst, sym}
use Rattle.sheet.specs.Refused.{number_of, refuses, passed_is}
use Rattle.jamturret.specs.Rooms.{Ready}
use Rattle.jamturret.specs.Outcomes.{RunDoes, early, unrefused, ready, run_refused, run_done}
use Rattle.jamturret.proofs.jobs.run.Goals as goal

pub returns-in_err-sheet : goal.returns-in_err-sheet
returns-in_err-sheet c =
    let a = c.args in
    let e = c.in_err-sheet.field-0.0 in
    rw (passed_is c.from_residual.result e c.from_residual.ensures.1)
    (run_refused a.sheet.now a.inbox.now a.report.now a.order.now a.scratch.now (number_of e.rule) e.place
    (early _ _ _ _ _ _ _ c.in_err-sheet.ensures.refuses (refuses e.rule)))

pub run_in_rooms-requires : goal.run_in_rooms-requires
run_in_rooms-requires c =
    let a = c.args in
    subst (λ (bs : List ℕ). Ready bs (length a.inbox.now) (length a.report.now) (length a.order.now) (length a.scratch.now))
    (sym c.in_ok-sheet.ensures.sheet) (ready _ _ _ _ _ _ _ c.in_ok-sheet.ensures.refuses refl)

pub returns : goal.returns
returns c =
    let a = c.args in
    let f = c.run_in_rooms in
    run_done a.sheet.now a.inbox.now a.report.now a.order.now a.scratch.now
    (unrefused _ _ _ _ _ _ _ c.in_ok-sheet.ensures.refuses refl) (ready _ _ _ _ _ _ _ c.in_ok-sheet.ensures.refuses refl).roomy
    f.new.inbox f.new.out f.new.order f.new.scratch
    (subst (λ (bs : List ℕ). RunDoes bs a.inbox.now f.new.inbox a.report.now f.new.out a.order.now f.new.order a.scratch.now f.new.scratch)
    c.in_ok-sheet.ensures.sheet f.ensures)
