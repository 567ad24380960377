-- `telling::tell_completion` meets its contract: who holds the slot stands in the table of waits. Assumes nothing.
use Rattle.std.proofs.Common.{Bool, ap, arith, cond, false, leb, refl, sym, true, ℕ, ◌<◌, ◌∙◌, ◌≡◌}
use mathlib.Core.Option.{some}
use Rattle.rules.specs.Limits.{absent}
use Rattle.rules.specs.Sheet.{sheet_in}
use Rattle.rules.specs.Job.{entry, entry_at}
use Rattle.rules.specs.Step.{waited, with_row}
use Rattle.rules.specs.Report.{entry_in}
use Rattle.state.specs.Layout.{row_at}
use Rattle.state.specs.Numbers.{bit_is}
use Rattle.simulation.specs.Simulates.{simulates_change}
use Rattle.telling.specs.Telling.{holder_is, holder_inside, held_state, row_answered}
use Rattle.telling.proofs.tell_completion.Goals as goal

-- an answer is 0 or 1
one_most : (b : Bool) → cond b 1 0 < 2
one_most true = omega arith
one_most false = omega arith

pub is_complete-requires : goal.is_complete-requires
is_complete-requires c =
    let a = c.args in
    let p = c.requires.0 in
    let l = holder_inside (sheet_in a.s.now) a.c.now a.t p.job p.decodes a.i p.fine.inside c.requires.1 in
    omega (arith, c.waited_at-j.ensures.is, l, p.decodes.few_ops, p.decodes.roomy)

pub returns : goal.returns
returns c =
    let a = c.args in
    let q = c.requires.1 in
    let s = sheet_in a.s.now in
    let j = c.waited_at-j.result in
    let answer = c.from-answer in
    let told = answer.ensures ∙ bit_is c.is_complete.result in
    simulates_change (c.set_told.ensures a.t)
    (λ x d o.
    record {
      inside = o.inside;
      source_fits = omega arith;
      tag_fits = omega arith;
      long_fits = omega (arith, one_most c.is_complete.result, told);
    })
    (λ x d o.
    let holds : waited s a.i ≡ some j =
    holder_is s a.c.now a.t x d a.i o.inside q ∙ ap some (sym c.waited_at-j.ensures.is) in
    let state = held_state s a.c.now a.t x d a.i o.inside q j (entry_in a.c.now (row_at j)).state c.waited_at-j.ensures.is refl in
    let complete = c.is_complete.ensures ∙ ap (leb 2) state in
    let said : answer.result ≡ cond (leb 2 (entry_at x j).state) 1 0 = told ∙ ap (λ (b : Bool). cond b 1 0) complete in
    ap (λ (v : ℕ). with_row a.i (entry 5 0 absent absent absent v) x) said ∙ row_answered s x a.i j holds)
