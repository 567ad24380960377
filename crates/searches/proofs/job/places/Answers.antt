-- `searches::job::places` meets its contract. The loop's invariant: what was added, with what is left to add, is the whole sum, and
-- each summand is at most the most operations. Assumes nothing.
use Rattle.std.proofs.Common.{List, arith, subst, sym, ℕ, ◌+◌, ◌≤◌, ◌∙◌}
use Rattle.rules.specs.Limits.{most_ops}
use Rattle.rules.specs.Sheet.{sheet_in, two}
use Rattle.state.specs.declared.Queue.TheVariants.{Messages}
use Rattle.state.specs.Layout.{word_at}
use Rattle.state.specs.Queues.{base_of}
use Rattle.search.specs.Search.{Readable, Listed, First, pair_fits}
use Rattle.state.specs.Decoded.{words_in}
use Rattle.searches.proofs.Jobs.{places_none, places_more, places_all, found_place, first_within}
use Rattle.searches.proofs.job.places.Goals as goal
use Rattle.searches.proofs.job.places.Goals.{After-unwrap_or-total}

pub overflow_add-i : goal.overflow_add-i
overflow_add-i c = let p = c.requires in omega (arith, p.2, p.0.few, c.loop-j-test.true)

pub find-requires : goal.find-requires
find-requires c =
    let a = c.args in
    let p = c.requires in
    let same = sym c.bytes.ensures in (
      subst (λ (b : List ℕ). Readable a.s.now b) same p.0,
      subst (λ (b : List ℕ). Listed a.s.now b Messages a.count) same p.1,
      omega (arith, p.2, c.loop-j-test.true),
    )

-- a summand is at most the most operations
module _ (c : After-unwrap_or-total) where
  small : c.unwrap_or-total.result ≤ most_ops
  small = omega (arith, first_within _ _ _ c.find.ensures, c.unwrap_or-total.ensures, c.requires.1.short)

pub overflow_add-total : goal.overflow_add-total
overflow_add-total c =
    let p = c.requires in
    omega (arith, c.loop-j.invariant.1, small (goal.at.overflow_add-total c).After-unwrap_or-total, p.2, p.0.few, c.loop-j-test.true)

pub loop-j-preserved : goal.loop-j-preserved
loop-j-preserved c =
    let a = c.args in
    let v = c.loop-j in
    let s = sheet_in a.s.now in
    let found =
    subst (λ (b : List ℕ). First (λ j. pair_fits Messages s (a.i + v.j) (two b (word_at (base_of Messages) j))) a.count c.find.result)
    c.bytes.ensures c.find.ensures in
    let ms = words_in a.c.now (base_of Messages) a.count in (
      omega (arith, c.loop-j-test.true),
      omega (arith, v.invariant.1, small (goal.at.loop-j-preserved c).After-unwrap_or-total),
      places_more s ms a.i a.n v.j v.total c.unwrap_or-total.result c.loop-j-test.true v.invariant.2
          (c.unwrap_or-total.ensures ∙ found_place s a.c.now a.count (a.i + v.j) c.find.result found),
    )

pub returns : goal.returns
returns c =
    let a = c.args in
    let v = c.loop-j in
    places_all (sheet_in a.s.now) (words_in a.c.now (base_of Messages) a.count) a.i a.n v.j v.total c.loop-j-test.false v.invariant.2

pub loop-j-init : goal.loop-j-init
loop-j-init c =
    let a = c.args in
    (omega arith, omega arith, places_none (sheet_in a.s.now) (words_in a.c.now (base_of Messages) a.count) a.i a.n)
