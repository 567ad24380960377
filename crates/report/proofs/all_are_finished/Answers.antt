-- `report::all_are_finished` meets its contract: the test of each rank is that of rules. Assumes nothing.
use Rattle.std.proofs.Common.{rules, tests, ℕ, Bool, ap, ◌∙◌, refl, arith, leb}
use Rattle.std.specs.List.{list_all, range_with_len}
use Rattle.std.proofs.lemmas.Iterator.{YieldsList-from_range}
use Rattle.std.proofs.lemmas.Iterator.Search.{all_from_yields_List}
use Rattle.rules.specs.Sheet.{sheet_in, board}
use Rattle.state.specs.Layout.{seat_at}
use Rattle.state.specs.Decoded.{place_in}
use Rattle.report.specs.Report.{all_finished_is}
use Rattle.report.proofs.all_are_finished.Goals as goal

pub returns : goal.returns
returns c = λ t lent x d.
    let s = sheet_in c.args.s.now in
    let test : ℕ → Bool = λ r. leb (board s r).count (place_in c.args.c.now (seat_at r)).finished in
    let p = c.boards.result in
    let all = all_from_yields_List test _ _ c.all.result c.all.ensures.ran (YieldsList-from_range 0 p p refl (omega arith)) (λ r b q k. search (rules, tests)) in
    all ∙ (ap (λ (n : ℕ). list_all test (range_with_len 0 n)) c.boards.ensures.is ∙ all_finished_is d)
