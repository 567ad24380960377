-- The invariant and the measure of `searches::job::places`.
use Rattle.std.proofs.Common.{◌*◌, ◌+◌, ◌-◌, ◌≡◌, ◌≤◌}
use Rattle.rules.specs.Limits.{most_ops}
use Rattle.rules.specs.Sheet.{sheet_in}
use Rattle.state.specs.declared.Queue.TheVariants.{Messages}
use Rattle.state.specs.Queues.{base_of}
use Rattle.state.specs.Decoded.{words_in}
use Rattle.searches.specs.Jobs.{sum_places}
use Rattle.searches.proofs.job.places.Given as goal

abbrev pub invariant-loop-j : goal.invariant-loop-j
invariant-loop-j l =
    (l.j ≤ l.n) × (l.total ≤ l.j * most_ops)
    × (l.total + sum_places (sheet_in l.s) (words_in l.c (base_of Messages) l.count) (l.i + l.j) (l.n - l.j) ≡ sum_places (sheet_in l.s) (words_in l.c (base_of Messages) l.count) l.i l.n)
