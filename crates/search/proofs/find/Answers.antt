-- `search::find` meets its contract: what `find` over the range says, of each candidate what was read of it. Assumes nothing.
use Rattle.std.proofs.Common.{Bool, false, rules, true, ℕ, ◌≡◌}
use Rattle.std.proofs.lemmas.Iterator.{first_from_Range}
use Rattle.rules.specs.Sheet.{sheet_in, two}
use Rattle.state.specs.Layout.{word_at}
use Rattle.state.specs.Queues.{base_of}
use Rattle.search.specs.Search.{pair_fits, first_of}
use Rattle.search.specs.Candidates.{candidate_told}
use Rattle.search.proofs.find.Goals as goal

pub returns : goal.returns
returns c =
    let a = c.args in
    let fits : ℕ → Bool = λ j. pair_fits a.list (sheet_in a.s.now) a.i (two a.c.now (word_at (base_of a.list) j)) in
    first_of fits a.count c.find.result
    (first_from_Range _ _ _ _ (λ k. fits k ≡ true) (λ k. fits k ≡ false) c.find.ensures.ran (λ x q h. search (rules, candidate_told)) (λ x q h. (search rules, search (rules, candidate_told))))
