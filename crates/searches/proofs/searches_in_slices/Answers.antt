-- `searches::searches_in_slices` meets its contract: a way for each of the two lengths that can differ, and one where they are
-- equal, as `search` asks. Assumes nothing.
use Rattle.searches.specs.Places.{communicators_differ, tags_differ, found_in_slices}
use Rattle.searches.proofs.searches_in_slices.Goals as goal
use Rattle.searches.proofs.searches_in_slices.Goals.{then-communicators-n-via-then-communicators-n, then-communicators-n-via-else-communicators-n+then-tags-n}

pub returns-then-communicators-n : goal.returns-then-communicators-n
returns-then-communicators-n c =
    let a = c.args in
    elim c.then-communicators-n.branch [
      | then-communicators-n-via-then-communicators-n w ↦ communicators_differ a.sources.now a.communicators.now a.tags.now a.source a.communicator a.tag w.if-communicators-n.true
      | then-communicators-n-via-else-communicators-n+then-tags-n w ↦ tags_differ a.sources.now a.communicators.now a.tags.now a.source a.communicator a.tag w.if-tags-n.true
    ]

pub returns : goal.returns
returns c =
    let a = c.args in
    found_in_slices a.sources.now a.communicators.now a.tags.now a.source a.communicator a.tag
    c.if-communicators-n.false c.if-tags-n.false c.search.ensures c.unwrap_or.ensures
