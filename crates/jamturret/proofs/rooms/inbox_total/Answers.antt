-- `jamturret::rooms::inbox_total` meets its contract: board r adds its inbox. Assumes nothing.
use Rattle.std.proofs.Common.{add-one, ap, arith, subst, sym, ℕ, ◌+◌, ◌∙◌, ◌≡◌}
use Rattle.rules.specs.Sheet.{sheet_in, inbox_start, inbox_total}
use Rattle.laws.specs.Ranks.{inbox_start_none, inbox_start_more}
use Rattle.jamturret.proofs.rooms.inbox_total.Goals as goal

pub loop-r-init : goal.loop-r-init
loop-r-init c = (omega arith, sym (inbox_start_none (sheet_in c.args.s.now)))

pub loop-r-preserved : goal.loop-r-preserved
loop-r-preserved c =
    let s = sheet_in c.args.s.now in
    let l = c.loop-r in
    let next = inbox_start_more s l.r (omega arith) in (
      omega arith,
      subst (λ (n : ℕ). l.total + c.inbox-total.result ≡ inbox_start s n) (sym (add-one l.r)) (omega (arith, next, l.invariant.1, c.inbox-total.ensures.is)),
    )

pub returns : goal.returns
unfolding inbox_total
returns c =
    let s = sheet_in c.args.s.now in
    c.loop-r.invariant.1 ∙ ap (λ (n : ℕ). inbox_start s n) (omega arith)
