-- `telling::found_at` meets its contract: what the search found in scratch is what rules' search finds. Assumes nothing.
use Rattle.std.proofs.Common.{List, subst, sym, ℕ}
use Rattle.rules.specs.Sheet.{sheet_in, two}
use Rattle.state.specs.declared.Queue.TheVariants.{Messages}
use Rattle.state.specs.Layout.{word_at}
use Rattle.state.specs.Queues.{base_of}
use Rattle.search.specs.Search.{Readable, Listed, First, pair_fits}
use Rattle.search.specs.Held.{holds_reads}
use Rattle.telling.specs.Telling.{looks_listed, finds}
use Rattle.telling.proofs.found_at.Goals as goal

pub find-requires : goal.find-requires
find-requires c =
    let a = c.args in
    let p = c.requires in
    let same = sym c.bytes.ensures in (
      subst (λ (b : List ℕ). Readable a.s.now b) same (holds_reads p),
      subst (λ (b : List ℕ). Listed a.s.now b Messages a.t.messages) same (looks_listed p),
      p.fine.inside,
    )

pub returns : goal.returns
returns c =
    let a = c.args in
    finds c.requires c.find.result
    (subst (λ (b : List ℕ). First (λ j. pair_fits Messages (sheet_in a.s.now) a.i (two b (word_at (base_of Messages) j))) a.t.messages c.find.result)
    c.bytes.ensures c.find.ensures)
