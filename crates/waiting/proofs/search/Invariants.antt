-- The invariant of `waiting::search`.
use Rattle.std.proofs.Common.{length, ◌≤◌}
use Rattle.waiting.specs.Envelopes.{fits_receive, listed, Passed}
use Rattle.waiting.proofs.search.Given as goal

abbrev pub invariant-loop-i : goal.invariant-loop-i
invariant-loop-i l = (l.i ≤ length l.sources) × Passed (λ e. fits_receive e l.source l.communicator l.tag) (listed l.sources l.communicators l.tags) l.i
