-- `steps::able::is_able` meets its contract: test by test, as the definition has them. Assumes nothing.
use Rattle.std.proofs.Common.{List, ap, ap₂, arith, sym, ℕ, ◌+◌, ◌<◌, ◌∙◌, ◌≡◌}
use Rattle.rules.specs.Sheet.{Sheet, sheet_in, board, P_of}
use Rattle.rules.specs.Job.{Job, place_at}
use Rattle.simulation.specs.Represents.{Represents}
use Rattle.steps.specs.Able.{Next, can_go_on, finished_is, next_of, able_stopped, able_outside, able_finished, able_next}
use Rattle.steps.proofs.able.is_able.Goals as goal
use Rattle.steps.proofs.able.is_able.Goals.{After-first, then-is_some-via-then-is_some, then-is_some-via-else-is_some+then-boards-r}

pub returns-then-is_some : goal.returns-then-is_some
returns-then-is_some c =
    λ lent x d.
    let a = c.args in
    elim c.then-is_some.branch [
      | then-is_some-via-then-is_some w ↦ able_stopped a.s.now lent a.c.now a.t x d a.r (sym c.is_some.ensures ∙ w.if-is_some.true)
      | then-is_some-via-else-is_some+then-boards-r w ↦
          able_outside a.s.now lent a.c.now a.t x d a.r (sym c.is_some.ensures ∙ w.if-is_some.false)
          (omega (arith, d.laid.P_is, w.boards.ensures.is, w.if-boards-r.true))
    ]

pub returns-then-count-done : goal.returns-then-count-done
returns-then-count-done c =
    λ lent x d.
    let a = c.args in
    let there : a.r < P_of (sheet_in a.s.now) = omega (arith, d.laid.P_is, c.boards.ensures.is, c.if-boards-r.false) in
    let done = c.finished_of-done.ensures.is ∙ finished_is a.s.now lent a.c.now a.t x d a.r there in
    able_finished a.s.now lent a.c.now a.t x d a.r (sym c.is_some.ensures ∙ c.if-is_some.false) there
    (omega (arith, done, c.count.ensures.is, c.if-count-done.true))

-- past the tests, board r is there and unfinished, and operation i is its next, in every job that is represented
module _ (c : After-first) where
  abbrev s : Sheet
  s = sheet_in c.args.s.now

  module _ (lent : List ℕ) (x : Job) (d : Represents c.args.s.now lent c.args.c.now c.args.t x) where
    there_here : c.args.r < P_of s
    there_here = omega (arith, d.laid.P_is, c.boards.ensures.is, c.if-boards-r.false)

    done_here : c.finished_of-done.result ≡ (place_at x c.args.r).finished
    done_here = c.finished_of-done.ensures.is ∙ finished_is c.args.s.now lent c.args.c.now c.args.t x d c.args.r there_here

    unfinished_here : (place_at x c.args.r).finished < (board s c.args.r).count
    unfinished_here = omega (arith, done_here, c.count.ensures.is, c.if-count-done.false)

    next_here : Next s x c.args.r (c.first.result + c.finished_of-done.result)
    next_here =
        next_of s x c.args.r (c.first.result + c.finished_of-done.result) there_here unfinished_here
        (ap₂ (λ (m n : ℕ). m + n) c.first.ensures.is done_here)

pub next_is_able-requires : goal.next_is_able-requires
next_is_able-requires c =
    let q = c.requires in
    record {
      lent = q.lent;
      job = q.job;
      represents = q.represents;
      next = next_here c q.lent q.job q.represents;
    }

pub returns : goal.returns
returns c =
    λ lent x d.
    let a = c.args in
    let n = next_here (goal.at.returns c).After-first lent x d in
    c.next_is_able.ensures lent x d n
    ∙ (ap (λ (i : ℕ). can_go_on (sheet_in a.s.now) x a.r i) n.is_next
    ∙ able_next a.s.now lent a.c.now a.t x d a.r (sym c.is_some.ensures ∙ c.if-is_some.false) n.there (unfinished_here (goal.at.returns c).After-first lent x d))
